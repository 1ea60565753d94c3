-- What a plan asks of each FROM item, and of its reader.
use Rattle.std.specs.Prelude.{◌≡◌, ◌⊎◌, ℕ, ◌+◌, ◌*◌, ◌<◌, ◌≤◌, ◌^◌, Bool, true, false, ◌&&◌, ◌||◌, nat_eq, nat_lt, List, [], ◌∷◌, ◌++◌, length, filter, map, if◌then◌else◌}
use Rattle.std.specs.List.{AllByRecursion, IsDistinct, list_all, list_any, slice_index_or}
use Rattle.rv_value.specs.declared.value.Value.{Value}
use Rattle.rv_value.specs.declared.record.Record.{Record}
use Rattle.rv_rows.specs.Rows.{Ascend}
use Rattle.rv_restrict.specs.declared.atom.ColRef.{ColRef}
use Rattle.rv_restrict.specs.declared.atom.Operand.{Operand}
use Rattle.rv_restrict.specs.declared.atom.Operand.TheVariants.{Literal, Column}
use Rattle.rv_restrict.specs.declared.atom.Atom.{Atom}
use Rattle.rv_restrict.specs.declared.atom.Atom.TheVariants.{Compare, Between, Among, IsNull, Starts, Const}
use Rattle.rv_restrict.specs.Bind.{bound, rows_has, taken, truth_over, passes_at, passes_home}
use Rattle.rv_restrict.specs.Branches.{widths}
use Rattle.rv_restrict.specs.Parts.{stands_among}
use Rattle.rv_restrict.specs.Truth.{is_true, names_only, qualifies}
use Rattle.rv_catalog.specs.declared.def.Select.{Select}
use Rattle.rv_catalog.specs.declared.def.IndexDef.{IndexDef}
use Rattle.rv_catalog.specs.declared.def.Goal.{Goal}
use Rattle.rv_catalog.specs.declared.def.Goal.TheVariants.{FastFirst, TotalTime}
use Rattle.rv_reader.specs.Entries.{entries_of}
use Rattle.rv_reader.specs.Shown.{Shown, CanRead, CanScan}
use Rattle.rv_reader.specs.Storing.{AreKeys}
use Rattle.rv_choice.specs.declared.query.Query.{Query}
use Rattle.rv_choice.specs.declared.query.Goal2.{Goal2}
use Rattle.rv_choice.specs.declared.query.Goal2.TheVariants.{FastFirst as Soon, TotalTime as Late}
use Rattle.rv_judge.specs.Account.{life_bound}
use Rattle.rv_choice.specs.Asked.{begins_any}
use Rattle.rv_retrieval.specs.Effort.{cuts_and_entries}
use Rattle.rv_access.specs.declared.access.Access.{Access}
use Rattle.rv_access.specs.Accesses.{AccessFits, Awaiting, Tells, effort, query_of, rest}
use Rattle.rv_join.specs.declared.places.Item.{Item}
use Rattle.rv_join.specs.declared.places.Asked.{Asked}

-- Whether a column is named.

abbrev pub same_column : ColRef → ColRef → Bool
same_column c d = nat_eq c.place d.place && nat_eq c.column d.column

abbrev pub operand_names : ColRef → Operand → Bool
operand_names c (Literal v) = false
operand_names c (Column d) = same_column c d

abbrev pub atom_names : ColRef → Atom → Bool
atom_names c (Compare d op operand) = same_column c d || operand_names c operand
atom_names c (Between d low high) = same_column c d
atom_names c (Among d list) = same_column c d
atom_names c (IsNull d negated) = same_column c d
atom_names c (Starts d text) = same_column c d
atom_names c (Const t) = false

abbrev pub group_names : ColRef → List Atom → Bool
group_names c = list_any (atom_names c)

abbrev pub only_names : ColRef → List (List Atom) → Bool
only_names c = list_any (group_names c)

-- it is returned, sorted by, or stands in the restriction
abbrev pub uses : List (List Atom) → List ColRef → List ColRef → ColRef → Bool
uses only returns order c = list_any (same_column c) returns || (list_any (same_column c) order || only_names c only)

abbrev pub select_uses : Select → ColRef → Bool
select_uses s c = uses s.only s.returns s.order c

abbrev pub asked_uses : Asked → ColRef → Bool
asked_uses a c = uses a.only a.returns a.order c

abbrev pub col_at : ℕ → ℕ → ColRef
col_at place column = record { place = place; column = column }

-- a list of columns that has gained those that pass a test
pub record Adds (test : ℕ → Bool) (old new : List ℕ) : Type 0 where
  pub same : (c : ℕ) → stands_among new c ≡ (stands_among old c || test c)

-- The FROM items of a select.

abbrev pub table_at : Select → ℕ → ℕ
table_at s p = slice_index_or s.tables p 0

-- the indexes over a table, each with its number, which is its position; the first of these has the number given
abbrev pub indexes_from : ℕ → ℕ → List IndexDef → List (ℕ × List ℕ)
indexes_from table number [] = []
indexes_from table number (d ∷ ds) =
    if nat_eq d.table table
    then (number, d.columns) ∷ indexes_from table (number + 1) ds
    else indexes_from table (number + 1) ds

abbrev pub is_first : ColRef → Bool
is_first c = nat_eq c.place 0

abbrev pub columns_of : List ColRef → List ℕ
columns_of columns = map (λ (c : ColRef). c.column) columns

-- the order comes from an index: its columns are all of the first FROM item, and an index of its table begins with them
abbrev pub by_index : Select → List IndexDef → Bool
by_index s indexes =
    list_all is_first s.order && begins_any (indexes_from (table_at s 0) 0 indexes) (columns_of s.order)

-- the columns by which an item's rows are to come: only the first item is asked for an order
abbrev pub order_at : Select → List IndexDef → ℕ → List ℕ
order_at s indexes p = if nat_eq p 0 && by_index s indexes then columns_of s.order else []

-- the columns needed are those that the select names of the item
pub record IsItem (s : Select) (indexes : List IndexDef) (p : ℕ) (i : Item) : Type 0 where
  pub table : i.table ≡ table_at s p
  pub over : i.indexes ≡ indexes_from (table_at s p) 0 indexes
  pub need : (c : ℕ) → stands_among i.need c ≡ select_uses s (col_at p c)
  pub order : i.order ≡ order_at s indexes p

abbrev pub goal_of : Goal → Goal2
goal_of FastFirst = Soon
goal_of TotalTime = Late

abbrev pub no_item : Item
no_item = record { table = 0; indexes = []; need = []; order = [] }

abbrev pub item_at : Asked → ℕ → Item
item_at a p = slice_index_or a.items p no_item

-- what a plan of this select is asked
pub record IsAsked (s : Select) (indexes : List IndexDef) (at cursor_number : ℕ) (a : Asked) : Type 0 where
  pub count : length a.items ≡ length s.tables
  pub items : (p : ℕ) → p < length s.tables → IsItem s indexes p (item_at a p)
  pub only : a.only ≡ s.only
  pub returns : a.returns ≡ s.returns
  pub order : a.order ≡ s.order
  pub goal : a.goal ≡ goal_of s.goal
  pub snap : a.snap ≡ at
  pub cursor : a.cursor ≡ cursor_number

-- WHAT A PLAN IS OPENED OVER.

-- the reader shows the entries of the table's rows for the index
pub record IsIndexAt (shown : Shown) (table snap number : ℕ) (columns : List ℕ) : Type 0 where
  pub can : CanScan shown number snap
  pub some : 1 ≤ length columns
  pub few : length columns ≤ 4
  pub different : IsDistinct nat_eq columns
  pub entries : shown.entries number snap ≡ entries_of columns (shown.rows table snap)
  pub cuts : AreKeys (length columns) (shown.cuts number snap)

-- each row has a value in the column
abbrev pub have_column : ℕ → List Record → Bool
have_column c rows = list_all (λ (r : Record). nat_lt c (length r.values)) rows

abbrev pub no_index : IndexDef
no_index = record { name = []; table = 0; columns = []; unique = false }

abbrev pub index_at : List IndexDef → ℕ → IndexDef
index_at indexes i = slice_index_or indexes i no_index

-- There are 1 to 4 FROM items; each column that the select names is of one of them, and each row has it; each index has
-- 1 to 4 columns, all different; at most 8 indexes are over one table.
pub record CanPlan (s : Select) (indexes : List IndexDef) (shown : Shown) (snap : ℕ) : Type 0 where
  pub some : 1 ≤ length s.tables
  pub joined : length s.tables ≤ 4
  pub ascend : (p : ℕ) → p < length s.tables → Ascend (shown.rows (table_at s p) snap)
  pub read : (p : ℕ) → p < length s.tables → CanRead shown (table_at s p) snap
  pub places : (c : ColRef) → select_uses s c ≡ true → c.place < length s.tables
  pub columns : (c : ColRef) → select_uses s c ≡ true → have_column c.column (shown.rows (table_at s c.place) snap)
      ≡ true
  pub numbers : length indexes < 2 ^ 32
  pub each : (i : ℕ) → i < length indexes → IsIndexAt shown (index_at indexes i).table snap i
      (index_at indexes i).columns
  pub few : (p : ℕ) → p < length s.tables → length (indexes_from (table_at s p) 0 indexes) ≤ 8

-- The same of what the plan keeps, so that each further retrieval can be opened.

abbrev pub rows_at : Asked → Shown → ℕ → List Record
rows_at a shown p = shown.rows (item_at a p).table a.snap

pub record CanRunItem (a : Asked) (shown : Shown) (p : ℕ) : Type 0 where
  pub ascend : Ascend (rows_at a shown p)
  pub read : CanRead shown (item_at a p).table a.snap
  pub columns : (c : ℕ) → stands_among (item_at a p).need c ≡ true → have_column c (rows_at a shown p) ≡ true
  pub few : length (item_at a p).indexes ≤ 8
  pub different : IsDistinct nat_eq (map (λ (i : ℕ × List ℕ). i.0) (item_at a p).indexes)
  pub indexes : AllByRecursion (λ (i : ℕ × List ℕ). IsIndexAt shown (item_at a p).table a.snap i.0 i.1)
      (item_at a p).indexes
  pub need : (c : ℕ) → asked_uses a (col_at p c) ≡ true → stands_among (item_at a p).need c ≡ true
  pub ordered : ((item_at a p).order ≡ []) ⊎ (begins_any (item_at a p).indexes (item_at a p).order ≡ true)
  pub within : (c : ℕ) → stands_among (item_at a p).order c ≡ true → stands_among (item_at a p).need c ≡ true

pub record CanRun (a : Asked) (shown : Shown) : Type 0 where
  pub some : 1 ≤ length a.items
  pub joined : length a.items ≤ 4
  pub places : (c : ColRef) → asked_uses a c ≡ true → c.place < length a.items
  pub each : (p : ℕ) → p < length a.items → CanRunItem a shown p

-- What is asked of a retrieval over the rows of the items before it.

-- the groups of the restriction whose highest place is this one are True
abbrev pub holds : List (List Atom) → ℕ → List (List Value) → Bool
holds only place rows = is_true (truth_over (taken place only) rows)

-- the rows have every column that is named of their places
abbrev pub AreWide : Asked → List (List Value) → Type 0
AreWide a rows = (c : ColRef) → c.place < length rows → asked_uses a c ≡ true → rows_has rows c ≡ true

-- a query of the item of a place
pub record AsksItem (a : Asked) (p : ℕ) (query : Query) : Type 0 where
  pub table : query.table ≡ (item_at a p).table
  pub snap : query.snap ≡ a.snap
  pub over : query.indexes ≡ (item_at a p).indexes
  pub need : query.need ≡ (item_at a p).need
  pub order : query.order ≡ (item_at a p).order
  pub goal : query.goal ≡ a.goal

-- its restriction is that of the place, with the outer rows put in
pub record Asks (a : Asked) (outer : List (List Value)) (query : Query) : Type 0 where
  pub item : AsksItem a (length outer) query
  pub only : query.only ≡ bound (length outer) outer a.only
  pub binds : (row : List Value) → qualifies query.only row ≡ holds a.only (length outer) (outer ++ row ∷ [])
  pub names : (p : ℕ → Bool) → names_only (passes_at (length outer) p) (taken (length outer) a.only) ≡ true
      → names_only (passes_home p) query.only ≡ true

-- how many lives an access to an item may have: one, and one for each branch that a group may have
abbrev pub lives_of : List (List Atom) → ℕ
lives_of only = widths only + 1

-- no access to an item has more effort when it is opened
abbrev pub item_life : ℕ → Shown → ℕ → Item → ℕ
item_life lives shown snap i = lives * life_bound (shown.pages i.table snap) (cuts_and_entries i.indexes shown snap)

-- its rest are the rows of which the groups of the place are True
pub record OpensItem (a : Asked) (shown : Shown) (outer : List (List Value)) (v : Access) : Type 0 where
  pub fits : AccessFits v shown
  pub asks : Asks a outer (query_of v)
  pub awaiting : Awaiting v
  pub tells : Tells v
  pub life : effort v shown ≤ item_life (lives_of a.only) shown a.snap (item_at a (length outer))
  pub rest_is : rest v shown ≡ filter (λ (r : Record). holds a.only (length outer) (outer ++ r.values ∷ []))
      (rows_at a shown (length outer))
