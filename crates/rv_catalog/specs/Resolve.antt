-- A statement with numbers for names, or its first refusal: the limits of the statement, then all unknown names, then
-- all names that exist, then all kinds; within each the leftmost in the text, but tables before columns.
use Rattle.std.specs.Prelude.{ℕ, ℤ, pos, negsuc, List, [], ◌∷◌, ◌++◌, Bool, cond, nat_lt, Option, Some, None, Result, Ok, bytes_eq, is_some, map}
use Rattle.std.specs.List.{list_any}
use Rattle.rv_value.specs.declared.value.Kind.{Kind}
use Rattle.rv_value.specs.declared.value.Kind.TheVariants.{Big, Chars}
use Rattle.rv_value.specs.declared.value.Value.{Value}
use Rattle.rv_restrict.specs.declared.atom.ColRef.{ColRef}
use Rattle.rv_lang.specs.declared.statement.RawKind.{RawKind}
use Rattle.rv_lang.specs.declared.statement.RawKind.TheVariants.{Big as RawBig, Chars as RawChars}
use Rattle.rv_lang.specs.declared.statement.RawCol.{RawCol}
use Rattle.rv_lang.specs.declared.statement.RawGoal.{RawGoal}
use Rattle.rv_lang.specs.declared.statement.RawGoal.TheVariants.{FastFirst as RawFastFirst, TotalTime as RawTotalTime}
use Rattle.rv_lang.specs.declared.statement.RawAtom.{RawAtom}
use Rattle.rv_lang.specs.declared.statement.Statement.{Statement}
use Rattle.rv_lang.specs.declared.statement.Statement.TheVariants.{CreateTable, CreateIndex, Begin, Insert, Update, Delete, Commit, Rollback, Open, Fetch, Show, Close, Step}
use Rattle.rv_lang.specs.declared.reply.Refusal.{Refusal}
use Rattle.rv_lang.specs.declared.reply.Refusal.TheVariants.{Unknown, Exists}
use Rattle.rv_catalog.specs.declared.columns.Item.{Item}
use Rattle.rv_catalog.specs.declared.def.Goal.{Goal}
use Rattle.rv_catalog.specs.declared.def.Goal.TheVariants.{FastFirst, TotalTime}
use Rattle.rv_catalog.specs.declared.def.Resolved.{Resolved}
use Rattle.rv_catalog.specs.declared.def.Resolved.TheVariants.{CreateTable as NewTable, CreateIndex as NewIndex, Begin as Begins, Insert as Inserts, Update as Updates, Delete as Deletes, Commit as Commits, Rollback as Rolls, Open as Opens, Fetch as Fetches, Show as Shows, Close as Closes, Step as Steps}
use Rattle.rv_catalog.specs.declared.def.Select.{Select}
use Rattle.rv_catalog.specs.declared.def.TableDef.{TableDef}
use Rattle.rv_catalog.specs.Answers.{◌>>=◌, all_pass, collected, ok_or, refuse_if, refuse_some}
use Rattle.rv_catalog.specs.Columns.{all_columns, groups, own_column, reference}
use Rattle.rv_catalog.specs.Kinds.{kinds, row_kinds, set_kind}
use Rattle.rv_catalog.specs.Limits.{limits}
use Rattle.rv_catalog.specs.Schema.{Schema, columns_of, index_named, table_named}

abbrev pub table_number : List TableDef → List ℕ → Result ℕ Refusal
table_number tables name = ok_or (table_named tables name) (Unknown name)

-- The name at the earliest place that repeats an earlier one.

abbrev pub stands_among : {X : Type 0} → (X → List ℕ) → List X → List ℕ → Bool
stands_among name_of seen name = list_any (λ x. bytes_eq name (name_of x)) seen

abbrev pub first_repeat : {X : Type 0} → (X → List ℕ) → List X → List X → Option (List ℕ)
first_repeat name_of seen [] = None
first_repeat name_of seen (x ∷ xs) =
    cond (stands_among name_of seen (name_of x)) (Some (name_of x)) (first_repeat name_of (seen ++ x ∷ []) xs)

abbrev pub itself : List ℕ → List ℕ
itself name = name

abbrev pub column_name : List ℕ × RawKind → List ℕ
column_name c = c.0

abbrev pub set_name : List ℕ × Value → List ℕ
set_name s = s.0

abbrev pub item_name : Item → List ℕ
item_name i = i.name

-- CREATE TABLE. The limits leave lengths from 1 to 255.

abbrev pub width_of : ℤ → ℕ
width_of (pos n) = cond (nat_lt 255 n) 255 n
width_of (negsuc n) = 0

abbrev pub kind_of : RawKind → Kind
kind_of RawBig = Big
kind_of (RawChars n) = Chars (width_of n)

abbrev pub column_def : List ℕ × RawKind → List ℕ × Kind
column_def c = (c.0, kind_of c.1)

abbrev pub new_table : Schema → List ℕ → List (List ℕ × RawKind) → Result Resolved Refusal
new_table schema name columns = do
  fresh ← refuse_if (is_some (table_named schema.tables name)) (Exists name)
  once ← refuse_some (first_repeat column_name [] columns) Exists
  Ok (NewTable (record { name = name; columns = map column_def columns }))

abbrev pub new_index : Schema → Bool → List ℕ → List ℕ → List (List ℕ) → Result Resolved Refusal
new_index schema unique name table columns = do
  number ← table_number schema.tables table
  found ← collected (own_column schema.tables number) [] columns
  fresh ← refuse_if (is_some (index_named schema.indexes name)) (Exists name)
  once ← refuse_some (first_repeat itself [] columns) Exists
  Ok (NewIndex (record { name = name; table = number; columns = found; unique = unique }))

-- INSERT, UPDATE and DELETE. A condition may name the table's columns with or without the table's name.

abbrev pub inserted : Schema → List ℕ → List Value → Result Resolved Refusal
inserted schema table values = do
  number ← table_number schema.tables table
  right ← row_kinds [] (columns_of schema.tables number) values
  Ok (Inserts number values)

abbrev pub alone : List ℕ → ℕ → List Item
alone name number = record { name = name; table = number } ∷ []

abbrev pub set_column : List TableDef → ℕ → List ℕ × Value → Result (ℕ × Value) Refusal
set_column tables table set = do
  column ← own_column tables table set.0
  Ok (column, set.1)

abbrev pub updated : Schema → List ℕ → List (List ℕ × Value) → List (List RawAtom) → Result Resolved Refusal
updated schema table sets only = do
  number ← table_number schema.tables table
  found ← collected (set_column schema.tables number) [] sets
  where_true ← groups schema.tables (alone table number) only
  once ← refuse_some (first_repeat set_name [] sets) Exists
  held ← all_pass (set_kind schema.tables number) found
  right ← kinds schema.tables (alone table number) where_true
  Ok (Updates number found where_true)

abbrev pub deleted : Schema → List ℕ → List (List RawAtom) → Result Resolved Refusal
deleted schema table only = do
  number ← table_number schema.tables table
  where_true ← groups schema.tables (alone table number) only
  right ← kinds schema.tables (alone table number) where_true
  Ok (Deletes number where_true)

-- OPEN. An item's name is its second name where it has one, else the table's.

abbrev pub second_or : Option (List ℕ) → List ℕ → List ℕ
second_or None table = table
second_or (Some name) table = name

abbrev pub item : List TableDef → List ℕ × Option (List ℕ) → Result Item Refusal
item tables i = do
  number ← table_number tables i.0
  Ok (record { name = second_or i.1 i.0; table = number })

abbrev pub references : List TableDef → List Item → List RawCol → Result (List ColRef) Refusal
references tables reach raws = collected (reference tables reach) [] raws

abbrev pub returns : List TableDef → List Item → Option (List RawCol) → Result (List ColRef) Refusal
returns tables reach None = Ok (all_columns tables 0 reach)
returns tables reach (Some raws) = references tables reach raws

abbrev pub goal_of : RawGoal → Goal
goal_of RawFastFirst = FastFirst
goal_of RawTotalTime = TotalTime

abbrev pub item_table : Item → ℕ
item_table i = i.table

abbrev pub selected : Schema → Option (List RawCol) → List (List ℕ × Option (List ℕ)) → List (List RawAtom)
    → List RawCol → RawGoal → Result Select Refusal
selected schema returned items only order goal = do
  reach ← collected (item schema.tables) [] items
  shown ← returns schema.tables reach returned
  where_true ← groups schema.tables reach only
  sorted ← references schema.tables reach order
  once ← refuse_some (first_repeat item_name [] reach) Exists
  right ← kinds schema.tables reach where_true
  Ok (record { tables = map item_table reach; only = where_true; returns = shown; order = sorted; goal = goal_of goal })

abbrev pub opened : Schema → List ℕ → Option (List RawCol) → List (List ℕ × Option (List ℕ)) → List (List RawAtom)
    → List RawCol → RawGoal → Result Resolved Refusal
opened schema cursor returned items only order goal = do
  select ← selected schema returned items only order goal
  Ok (Opens cursor select)

-- STEP. The limits leave numbers from 0 to 10000.

abbrev pub steps_of : ℤ → ℕ
steps_of (pos n) = n
steps_of (negsuc n) = 0

abbrev pub form : Schema → Statement → Result Resolved Refusal
form schema (CreateTable name columns) = new_table schema name columns
form schema (CreateIndex unique name table columns) = new_index schema unique name table columns
form schema (Begin read_only) = Ok (Begins read_only)
form schema (Insert table values) = inserted schema table values
form schema (Update table sets only) = updated schema table sets only
form schema (Delete table only) = deleted schema table only
form schema Commit = Ok Commits
form schema Rollback = Ok Rolls
form schema (Open cursor returned items only order goal) = opened schema cursor returned items only order goal
form schema (Fetch cursor) = Ok (Fetches cursor)
form schema (Show cursor) = Ok (Shows cursor)
form schema (Close cursor) = Ok (Closes cursor)
form schema (Step cursor n) = Ok (Steps cursor (steps_of n))

abbrev pub resolved : Schema → Statement → Result Resolved Refusal
resolved schema statement = do
  within ← limits statement
  form schema statement
