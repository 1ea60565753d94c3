-- Believed: a statement with numbers for names, or its first refusal. Unknown names come first,
-- then names that exist, then kinds; within each the leftmost, but tables before columns.
use Rattle.std.specs.Prelude.{ℕ, ℤ, pos, negsuc, List, [], ◌∷◌, ◌++◌, ◌+◌, Bool, true, false, not, ◌&&◌, ◌||◌, nat_lt, Option, Some, None, Result, Ok, Err, bytes_eq, is_some, length, map, filter}
use Rattle.std.specs.List.{list_any, list_all}
use Rattle.std.specs.Option.{option_map_or, option_to_list, unwrap_or}
use Rattle.rv_value.specs.declared.value.Kind.{Kind}
use Rattle.rv_value.specs.declared.value.Kind.TheVariants.{Big, Chars}
use Rattle.rv_value.specs.declared.value.Value.{Value}
use Rattle.rv_value.specs.declared.value.Value.TheVariants.{Null, Int, Str}
use Rattle.rv_restrict.specs.declared.atom.ColRef.{ColRef}
use Rattle.rv_restrict.specs.declared.atom.Op.{Op}
use Rattle.rv_restrict.specs.declared.atom.Op.TheVariants.{Eq, Ne, Lt, Le, Gt, Ge}
use Rattle.rv_restrict.specs.declared.atom.Operand.{Operand}
use Rattle.rv_restrict.specs.declared.atom.Operand.TheVariants.{Literal, Column}
use Rattle.rv_restrict.specs.declared.atom.Atom.{Atom}
use Rattle.rv_restrict.specs.declared.atom.Atom.TheVariants.{Compare, Between, Among, IsNull, Starts}
use Rattle.rv_lang.specs.declared.statement.RawCol.{RawCol}
use Rattle.rv_lang.specs.declared.statement.RawKind.{RawKind}
use Rattle.rv_lang.specs.declared.statement.RawKind.TheVariants as raw_kinds
use Rattle.rv_lang.specs.declared.statement.RawGoal.{RawGoal}
use Rattle.rv_lang.specs.declared.statement.RawGoal.TheVariants as raw_goals
use Rattle.rv_lang.specs.declared.statement.RawOp.{RawOp}
use Rattle.rv_lang.specs.declared.statement.RawOp.TheVariants as raw_ops
use Rattle.rv_lang.specs.declared.statement.RawOperand.{RawOperand}
use Rattle.rv_lang.specs.declared.statement.RawOperand.TheVariants as raw_operands
use Rattle.rv_lang.specs.declared.statement.RawAtom.{RawAtom}
use Rattle.rv_lang.specs.declared.statement.RawAtom.TheVariants as raw
use Rattle.rv_lang.specs.declared.statement.Statement.{Statement}
use Rattle.rv_lang.specs.declared.statement.Statement.TheVariants as statements
use Rattle.rv_lang.specs.declared.reply.Refusal.{Refusal}
use Rattle.rv_lang.specs.declared.reply.Refusal.TheVariants.{Unknown, Exists, Kind as WrongKind}
use Rattle.rv_catalog.specs.declared.columns.Item.{Item}
use Rattle.rv_catalog.specs.declared.def.Goal.{Goal}
use Rattle.rv_catalog.specs.declared.def.Goal.TheVariants as goals
use Rattle.rv_catalog.specs.declared.def.IndexDef.{IndexDef}
use Rattle.rv_catalog.specs.declared.def.Resolved.{Resolved}
use Rattle.rv_catalog.specs.declared.def.Resolved.TheVariants as asked
use Rattle.rv_catalog.specs.declared.def.TableDef.{TableDef}
use Rattle.rv_catalog.specs.Answers.{◌>>=◌, all_pass, ok_or, refuse_if}
use Rattle.rv_catalog.specs.Schema.{columns_of, index_named, table_named}
use Rattle.rv_believed.specs.Answers.{Test, answers}
use Rattle.rv_believed.specs.Limits.{left, right, literals, within_limits}

-- ---- the columns in reach

-- a column that a reference may name: the name of its FROM item, its own, its kind, and where it is
pub record InReach : Type 0 where
  pub item : List ℕ
  pub name : List ℕ
  pub kind : Kind
  pub at : ColRef

-- columns of the item in a place, the first of them having the number n
abbrev pub reach_from : List ℕ → ℕ → ℕ → List (List ℕ × Kind) → List InReach
reach_from item place n [] = []
reach_from item place n (c ∷ cs) = record {
  item = item;
  name = c.0;
  kind = c.1;
  at = record { place = place; column = n };
}
    ∷ reach_from item place (n + 1) cs

-- all columns of the FROM items, the first of which stands in a place; an item has its second name,
-- or its table's where it has none
abbrev pub reach_of : List TableDef → ℕ → List Item → List InReach
reach_of tables place [] = []
reach_of tables place (i ∷ more) =
    reach_from i.name place 0 (columns_of tables i.table) ++ reach_of tables (place + 1) more

-- without a qualifier a name may be a column of every item
abbrev pub fits : RawCol → InReach → Bool
fits raw c =
    option_map_or (λ qualifier. bytes_eq qualifier c.item) raw.table true
    && bytes_eq raw.column c.name

-- a reference that fits no column, or more than one, is unknown
abbrev pub only_one : List ℕ → List InReach → Result InReach Refusal
only_one name (c ∷ []) = Ok c
only_one name other = Err (Unknown name)

-- the column that a reference names
abbrev pub reference : List InReach → RawCol → Result InReach Refusal
reference reach raw = only_one raw.column (filter (fits raw) reach)

-- a column that is named without a qualifier
abbrev pub plain_column : List ℕ → RawCol
plain_column name = record { table = None; column = name }

-- the number of a column in its table
abbrev pub column_number : List InReach → List ℕ → Result ℕ Refusal
column_number reach name = do
  c ← reference reach (plain_column name)
  Ok c.at.column

-- the places of some references
abbrev pub references : List InReach → List RawCol → Result (List ColRef) Refusal
references reach raws = do
  found ← answers (reference reach) raws
  Ok (map (λ (c : InReach). c.at) found)

-- ---- conditions

-- a comparison as it is asked
abbrev pub op_of : RawOp → Op
op_of raw_ops.Eq = Eq
op_of raw_ops.Ne = Ne
op_of raw_ops.Lt = Lt
op_of raw_ops.Le = Le
op_of raw_ops.Gt = Gt
op_of raw_ops.Ge = Ge

-- what stands on the right, with its column by number
abbrev pub operand_of : List InReach → RawOperand → Result Operand Refusal
operand_of reach (raw_operands.Literal v) = Ok (Literal v)
operand_of reach (raw_operands.Column d) = do
  c ← reference reach d
  Ok (Column c.at)

-- an atom with its columns by number
abbrev pub atom_over : InReach → RawAtom → Operand → Atom
atom_over c (raw.Compare d op other) right = Compare c.at (op_of op) right
atom_over c (raw.Between d low high) right = Between c.at low high
atom_over c (raw.Among d list) right = Among c.at list
atom_over c (raw.IsNull d negated) right = IsNull c.at negated
atom_over c (raw.Starts d text) right = Starts c.at text

-- what stands on the right; NULL where nothing does
abbrev pub right_of : RawAtom → RawOperand
right_of (raw.Compare d op operand) = operand
right_of atom = raw_operands.Literal Null

-- an atom, whose left column is looked up first
abbrev pub atom_of : List InReach → RawAtom → Result Atom Refusal
atom_of reach a = do
  c ← reference reach (left a)
  other ← operand_of reach (right_of a)
  Ok (atom_over c a other)

-- a condition with its columns by number
abbrev pub condition_of : List InReach → List (List RawAtom) → Result (List (List Atom)) Refusal
condition_of reach only = answers (answers (atom_of reach)) only

-- ---- kinds

-- NULL is of every kind
abbrev pub is_of_kind : Kind → Value → Bool
is_of_kind Big (Int n) = true
is_of_kind (Chars n) (Str text) = true
is_of_kind kind Null = true
is_of_kind kind v = false

-- texts are of one kind, however long
abbrev pub same_kind : Kind → Kind → Bool
same_kind Big Big = true
same_kind (Chars n) (Chars m) = true
same_kind a b = false

-- a text that the column has no room for
abbrev pub is_too_long : Kind → Value → Bool
is_too_long (Chars n) (Str text) = nat_lt n (length text)
is_too_long kind v = false

-- a column can hold a value
abbrev pub can_hold : InReach → Value → Test
can_hold c v = refuse_if (not (is_of_kind c.kind v) || is_too_long c.kind v) (WrongKind c.name)

-- The values of a row by their columns from the left; then their number: shown is the first column
-- without a value, or the last column.
abbrev pub row_kinds : List ℕ → List InReach → List Value → Test
row_kinds last [] [] = Ok tt
row_kinds last [] (v ∷ vs) = Err (WrongKind last)
row_kinds last (c ∷ cs) [] = Err (WrongKind c.name)
row_kinds last (c ∷ cs) (v ∷ vs) = do
  held ← can_hold c v
  row_kinds c.name cs vs

-- a column that is set can hold its value
abbrev pub set_kind : List InReach → List ℕ × Value → Test
set_kind reach set = do
  c ← reference reach (plain_column set.0)
  can_hold c set.1

-- In a condition each literal, and the column on the right, is of the left column's kind, however
-- long; the left column is shown.
abbrev pub atom_kinds : List InReach → RawAtom → Test
atom_kinds reach a = do
  c ← reference reach (left a)
  literal ← refuse_if (not (list_all (is_of_kind c.kind) (literals a))) (WrongKind c.name)
  other ← answers (reference reach) (option_to_list (right a))
  refuse_if (not (list_all (λ (d : InReach). same_kind c.kind d.kind) other)) (WrongKind c.name)

-- each atom of a condition is of one kind
abbrev pub kinds : List InReach → List (List RawAtom) → Test
kinds reach only = all_pass (all_pass (atom_kinds reach)) only

-- ---- names of tables and indexes, and names that stand twice

-- the number of the table of a name
abbrev pub table_number : List TableDef → List ℕ → Result ℕ Refusal
table_number tables name = ok_or (table_named tables name) (Unknown name)

-- no name stands among those before it
abbrev pub all_differ : List (List ℕ) → List (List ℕ) → Test
all_differ before [] = Ok tt
all_differ before (name ∷ names) = do
  fresh ← refuse_if (list_any (bytes_eq name) before) (Exists name)
  all_differ (name ∷ before) names

-- the columns of one table, in the place 0
abbrev pub reach_alone : List TableDef → List ℕ → ℕ → List InReach
reach_alone tables name table = reach_from name 0 0 (columns_of tables table)

-- ---- statements

-- a number that is not below 0
abbrev pub number_of : ℤ → ℕ
number_of (pos n) = n
number_of (negsuc n) = 0

-- what OPTIMIZE asks
abbrev pub goal_of : RawGoal → Goal
goal_of raw_goals.FastFirst = goals.FastFirst
goal_of raw_goals.TotalTime = goals.TotalTime

-- a column of a table, as it is asked
abbrev pub column_def : List ℕ × RawKind → List ℕ × Kind
column_def (name, raw_kinds.Big) = (name, Big)
column_def (name, raw_kinds.Chars n) = (name, Chars (number_of n))

-- a FROM item with its table by number
abbrev pub item_of : List TableDef → List ℕ × Option (List ℕ) → Result Item Refusal
item_of tables i = do
  table ← table_number tables i.0
  Ok (record { name = unwrap_or i.1 i.0; table = table })

-- `*` returns all columns
abbrev pub columns_returned : List InReach → Option (List RawCol) → Result (List ColRef) Refusal
columns_returned reach None = Ok (map (λ (c : InReach). c.at) reach)
columns_returned reach (Some raws) = references reach raws

-- a column that is set, by its number
abbrev pub set_of : List InReach → List ℕ × Value → Result (ℕ × Value) Refusal
set_of reach set = do
  column ← column_number reach set.0
  Ok (column, set.1)

-- WHAT A STATEMENT ASKS among tables and indexes. STEP's number is none below 0, by its limit.
abbrev pub asked_in : List TableDef → List IndexDef → Statement → Result Resolved Refusal
asked_in tables indexes (statements.CreateTable name columns) = do
  fresh ← refuse_if (is_some (table_named tables name)) (Exists name)
  differ ← all_differ [] (map (λ (c : List ℕ × RawKind). c.0) columns)
  Ok (asked.CreateTable (record { name = name; columns = map column_def columns }))
asked_in tables indexes (statements.CreateIndex unique name table columns) = do
  number ← table_number tables table
  found ← answers (column_number (reach_alone tables table number)) columns
  fresh ← refuse_if (is_some (index_named indexes name)) (Exists name)
  differ ← all_differ [] columns
  let def : IndexDef = record { name = name; table = number; columns = found; unique = unique }
  Ok (asked.CreateIndex def)
asked_in tables indexes (statements.Insert table values) = do
  number ← table_number tables table
  right ← row_kinds [] (reach_alone tables table number) values
  Ok (asked.Insert number values)
asked_in tables indexes (statements.Update table sets only) = do
  number ← table_number tables table
  found ← answers (set_of (reach_alone tables table number)) sets
  condition ← condition_of (reach_alone tables table number) only
  differ ← all_differ [] (map (λ (s : List ℕ × Value). s.0) sets)
  held ← all_pass (set_kind (reach_alone tables table number)) sets
  right ← kinds (reach_alone tables table number) only
  Ok (asked.Update number found condition)
asked_in tables indexes (statements.Delete table only) = do
  number ← table_number tables table
  condition ← condition_of (reach_alone tables table number) only
  right ← kinds (reach_alone tables table number) only
  Ok (asked.Delete number condition)
asked_in tables indexes (statements.Open cursor returned items only order goal) = do
  from ← answers (item_of tables) items
  shown ← columns_returned (reach_of tables 0 from) returned
  condition ← condition_of (reach_of tables 0 from) only
  sorted ← references (reach_of tables 0 from) order
  differ ← all_differ [] (map (λ (i : Item). i.name) from)
  right ← kinds (reach_of tables 0 from) only
  Ok (asked.Open cursor (record {
    tables = map (λ (i : Item). i.table) from;
    only = condition;
    returns = shown;
    order = sorted;
    goal = goal_of goal;
  }))
asked_in tables indexes (statements.Begin read_only) = Ok (asked.Begin read_only)
asked_in tables indexes statements.Commit = Ok asked.Commit
asked_in tables indexes statements.Rollback = Ok asked.Rollback
asked_in tables indexes (statements.Fetch cursor) = Ok (asked.Fetch cursor)
asked_in tables indexes (statements.Show cursor) = Ok (asked.Show cursor)
asked_in tables indexes (statements.Close cursor) = Ok (asked.Close cursor)
asked_in tables indexes (statements.Step cursor n) = Ok (asked.Step cursor (number_of n))

-- limits first, then names
abbrev pub resolution : List TableDef → List IndexDef → Statement → Result Resolved Refusal
resolution tables indexes statement = do
  within ← within_limits statement
  asked_in tables indexes statement
