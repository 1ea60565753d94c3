-- What rivals are looked up in, and what is asked of it.
use Rattle.std.specs.Prelude.{◌≡◌, ℕ, ◌<◌, ◌≤◌, ◌^◌, ◌==◌, List, [], ◌∷◌, Bool, true, not, ◌&&◌, nat_lt, Option, Some, None, Result, filter, find, length, slice_get, if◌then◌else◌}
use Rattle.std.specs.List.{AllByRecursion, list_any}
use Rattle.std.specs.Option.{option_map}
use Rattle.rv_value.specs.declared.value.Value.{Value}
use Rattle.rv_value.specs.declared.record.Record.{Record}
use Rattle.rv_value.specs.declared.record.RowNo.{RowNo}
use Rattle.rv_value.specs.declared.record.IndexEntry.{IndexEntry}
use Rattle.rv_rows.specs.declared.changes.Change.{Change}
use Rattle.rv_rows.specs.Changes.{Rise, has_change, rows_with_changes, touches, with_changes}
use Rattle.rv_rows.specs.Rows.{Ascend}
use Rattle.rv_lang.specs.declared.reply.Refusal.{Refusal}
use Rattle.rv_lang.specs.declared.reply.Refusal.TheVariants.{Duplicate}
use Rattle.rv_lang.specs.declared.reply.Rival.{Rival}
use Rattle.rv_lang.specs.declared.reply.Rival.TheVariants.{Commit, Txn, View}
use Rattle.rv_catalog.specs.declared.def.IndexDef.{IndexDef}
use Rattle.rv_catalog.specs.Answers.{all_pass}
use Rattle.rv_reader.specs.Entries.{entries_of}
use Rattle.rv_reader.specs.Shown.{Shown, CanRead, CanScan, IsSnapshot}
use Rattle.rv_reader.specs.Storing.{AreKeys, IsStored}
use Rattle.rv_model.specs.declared.transactions.Transaction.{Transaction}
use Rattle.rv_model.specs.declared.transactions.Transactions.{Transactions}
use Rattle.rv_model.specs.Rivals.{Neighbour, is_null, is_rival, key_of, neighbours, rows_left, rows_written}
use Rattle.rv_model.specs.Step.{others}
use Rattle.rv_model.specs.Transactions.{refuse_at, touched_by, transaction_at, transaction_of}
use Rattle.rv_own.specs.declared.views.OwnView.{OwnView}
use Rattle.rv_overlay.specs.declared.frozen.Frozen.{Frozen}
use Rattle.rv_own.specs.Views.{AreViews, CanView, Freezes}
use Rattle.rv_rivals.specs.Points.{lowest_with}

-- a reader tells the entries of rows in an index at a snapshot
pub record Tells (shown : Shown) (index snap : ℕ) (columns : List ℕ) (rows : List Record) : Type 0 where
  pub can : CanScan shown index snap
  pub ascend : Ascend rows
  pub entries : shown.entries index snap ≡ entries_of columns rows
  pub cuts : AreKeys (length columns) (shown.cuts index snap)

-- entries are those of rows in an index whose keys are as long as a key
pub record AreEntries (key : List Value) (entries : List IndexEntry) : Type 0 where
  pub columns : List ℕ
  pub rows : List Record
  pub ascend : Ascend rows
  pub are : entries ≡ entries_of columns rows
  pub long : length key ≡ length columns

-- a row without NULL in its key
abbrev pub is_whole : List ℕ → Record → Bool
is_whole columns r = not (list_any is_null (key_of columns r.values))

-- the lower of two rows, where there are two
abbrev pub lower_row : Option RowNo → Option RowNo → Option RowNo
lower_row None other = other
lower_row (Some row) None = Some row
lower_row (Some row) (Some other) = if nat_lt other.0 row.0 then Some other else Some row

-- any row but one
abbrev pub other_than : ℕ → ℕ → Bool
other_than row n = not (n == row)

-- the entries in an index of the rows that a statement writes
abbrev pub entries_written : List ℕ → ℕ → List Change → List IndexEntry
entries_written columns table new = entries_of columns (rows_written table new)

-- where rivals of the rows of a transaction are looked for, over a store
abbrev pub neighbours_in : Shown → Transactions → Transaction → ℕ → List Change → List Neighbour
neighbours_in shown txns own table new =
    neighbours table (with_changes new own.changes) (shown.rows table own.base) (shown.rows table shown.newest)
    (touched_by txns.touched table) (others txns.active own.session)

-- the other sessions' transactions that have changed rows of a table
abbrev pub touching : ℕ → ℕ → List Transaction → List Transaction
touching table session active =
    filter (λ (t : Transaction). not (t.session == session) && touches table t.changes) active

-- the session's transaction is an active one
pub record IsPlaced (active : List Transaction) (own : Transaction) : Type 0 where
  pub place : ℕ
  pub found : transaction_of active own.session ≡ Some place
  pub here : transaction_at active place ≡ own

-- what is asked: of all active transactions views are kept over the store or may be made, and a statement's changes
-- are of rows of one table, the lowest first
pub record CanLook (shown : Shown) (indexes : List IndexDef) (txns : Transactions) (views : List OwnView)
    (own : Transaction) (table : ℕ) (new : List Change) : Type 0 where
  pub stored : IsStored shown
  pub read : CanRead shown table own.base
  pub placed : IsPlaced txns.active own
  pub active : AllByRecursion (λ (t : Transaction). CanView shown indexes t []) txns.active
  pub kept : AreViews shown txns.active views
  pub numbers : length indexes < 2 ^ 32
  pub rise : Rise new
  pub of_table : AllByRecursion (λ (c : Change). c.table ≡ table) new

-- an index over a table, by its place and its columns
pub record IsPlace (indexes : List IndexDef) (table number : ℕ) (columns : List ℕ) : Type 0 where
  pub def : IndexDef
  pub at : slice_get indexes number ≡ Some def
  pub over : def.table ≡ table
  pub of : def.columns ≡ columns

-- the store has an index in a place, over a table and of these columns
pub record HasIndex (shown : Shown) (table number : ℕ) (columns : List ℕ) : Type 0 where
  pub there : number < shown.indexes
  pub over : shown.over number ≡ table
  pub keys : shown.keys number ≡ columns

-- the rows that a statement writes: which rows it changes, and their entries in an index; one of the rows has a number
pub record IsStatement (table row : ℕ) (rows : List Change) (columns : List ℕ) (entries : List IndexEntry)
    (new : List Change) : Type 0 where
  pub rise : Rise new
  pub same : (n : ℕ) → has_change table n rows ≡ has_change table n new
  pub told : entries ≡ entries_written columns table new
  pub has : has_change table row new ≡ true

-- entries are those of some rows, which ascend
pub record HaveRows (columns : List ℕ) (entries : List IndexEntry) : Type 0 where
  pub rows : List Record
  pub ascend : Ascend rows
  pub are : entries ≡ entries_of columns rows

-- what is asked where a key is looked up: an index of the store over the table, a transaction at a snapshot with its
-- view, and the entries of the rows that a statement of it writes
pub record CanTest (shown : Shown) (table number : ℕ) (columns : List ℕ) (own : Transaction) (view : Option Frozen)
    (entries : List IndexEntry) : Type 0 where
  pub stored : IsStored shown
  pub index : HasIndex shown table number columns
  pub some : 1 ≤ length columns
  pub few : length columns ≤ 4
  pub at : IsSnapshot shown own.base
  pub freezes : Freezes shown own view
  pub rows : HaveRows columns entries

-- another transaction at a snapshot, with its view
pub record CanTestOther (shown : Shown) (t : Transaction) (view : Option Frozen) : Type 0 where
  pub at : IsSnapshot shown t.base
  pub freezes : Freezes shown t view

-- the first of two that is there
abbrev pub first_some : {A : Type 0} → Option A → Option A → Option A
first_some None other = other
first_some (Some found) other = Some found

-- the refusal that shows a row
abbrev pub shown_at : (RowNo → Rival) → Option RowNo → Option Refusal
shown_at at found = option_map (λ (row : RowNo). Duplicate row (at row)) found

-- the first row that one of some transactions has written and that has a key, but for one row
abbrev pub written_first : List ℕ → List Value → ℕ → ℕ → List Transaction → Option Refusal
written_first columns key row table [] = None
written_first columns key row table (t ∷ ts) = first_some
    (shown_at (λ n. Txn t.number) (lowest_with columns key (other_than row) (rows_written table t.changes)))
    (written_first columns key row table ts)

-- the first other row with a key in the three places, as it is shown: in the view with a statement's changes, at the
-- last commit, and written by another transaction
abbrev pub first_with : Shown → (ℕ → ℕ) → List ℕ → List Value → ℕ → ℕ → Transaction → List Change → List Transaction
    → Option Refusal
first_with shown written_by columns key row table own new theirs =
    let changes = with_changes new own.changes in
    first_some (shown_at (λ n. View)
    (lowest_with columns key (other_than row) (rows_with_changes table changes (shown.rows table own.base))))
    (first_some (shown_at (λ n. Commit (written_by n.0))
    (lowest_with columns key (other_than row) (rows_left table changes (shown.rows table shown.newest))))
    (written_first columns key row table theirs))

-- none of a key with NULL
abbrev pub first_equal_to : Shown → (ℕ → ℕ) → List ℕ → List Value → ℕ → ℕ → Transaction → List Change
    → List Transaction → Option Refusal
first_equal_to shown written_by columns key row table own new theirs =
    if list_any is_null key then None else first_with shown written_by columns key row table own new theirs

-- the first rival of a row in an index, as it is shown
abbrev pub first_rival : List ℕ → Record → List Neighbour → Option Refusal
first_rival columns r near = option_map (λ (n : Neighbour). Duplicate n.row.row n.at)
    (find (λ (n : Neighbour). is_rival columns r n.row) near)

-- nothing is found in any of some indexes, by their columns; else the first is refused
abbrev pub none_in : (List ℕ → Option Refusal) → List (List ℕ) → Result (Unit {0}) Refusal
none_in found = all_pass (λ (columns : List ℕ). refuse_at (found columns) (λ refusal. refusal))

-- nor for any of some rows
abbrev pub all_none : (Record → List ℕ → Option Refusal) → List (List ℕ) → List Record → Result (Unit {0}) Refusal
all_none found indexes = all_pass (λ (r : Record). none_in (found r) indexes)
