-- Believed: the limits of a statement, in the order in which they are tested.
use Rattle.std.specs.Prelude.{ℕ, ℤ, pos, negsuc, List, [], ◌∷◌, ◌++◌, Bool, true, ◌||◌, Option, Some, None, Ok, nat_lt, length, map}
use Rattle.std.specs.List.{flat_map}
use Rattle.std.specs.Option.{unwrap_or, option_to_list}
use Rattle.rv_value.specs.declared.value.Value.{Value}
use Rattle.rv_value.specs.declared.value.Value.TheVariants.{Str}
use Rattle.rv_lang.specs.declared.statement.RawKind.{RawKind}
use Rattle.rv_lang.specs.declared.statement.RawKind.TheVariants.{Big, Chars}
use Rattle.rv_lang.specs.declared.statement.RawCol.{RawCol}
use Rattle.rv_lang.specs.declared.statement.RawOperand.TheVariants.{Literal, Column}
use Rattle.rv_lang.specs.declared.statement.RawAtom.{RawAtom}
use Rattle.rv_lang.specs.declared.statement.RawAtom.TheVariants.{Compare, Between, Among, IsNull, Starts}
use Rattle.rv_lang.specs.declared.statement.Statement.{Statement}
use Rattle.rv_lang.specs.declared.statement.Statement.TheVariants.{CreateTable, CreateIndex, Insert, Update, Delete, Open, Fetch, Show, Close, Step}
use Rattle.rv_lang.specs.declared.reply.Refusal.TheVariants.{Limit}
use Rattle.rv_lang.specs.declared.reply.Which.{Which}
use Rattle.rv_lang.specs.declared.reply.Which.TheVariants as limits
use Rattle.rv_catalog.specs.Answers.{◌>>=◌, refuse_if, all_pass}
use Rattle.rv_believed.specs.Answers.{Test}

-- ---- what stands in a condition

-- the column on the left of an atom
abbrev pub left : RawAtom → RawCol
left (Compare c op operand) = c
left (Between c low high) = c
left (Among c list) = c
left (IsNull c negated) = c
left (Starts c text) = c

-- the column on the right, where there is one
abbrev pub right : RawAtom → Option RawCol
right (Compare c op (Column d)) = Some d
right atom = None

-- the literals of an atom
abbrev pub literals : RawAtom → List Value
literals (Compare c op (Literal v)) = v ∷ []
literals (Between c low high) = low ∷ high ∷ []
literals (Among c list) = list
literals (Starts c text) = Str text ∷ []
literals atom = []

-- qualifier and name
abbrev pub column_names : RawCol → List (List ℕ)
column_names c = option_to_list c.table ++ c.column ∷ []

-- the names in an atom
abbrev pub atom_names : RawAtom → List (List ℕ)
atom_names a = column_names (left a) ++ flat_map column_names (option_to_list (right a))

-- the names in a condition
abbrev pub names_in : List (List RawAtom) → List (List ℕ)
names_in only = flat_map (flat_map atom_names) only

-- the literals in a condition
abbrev pub values_in : List (List RawAtom) → List Value
values_in only = flat_map (flat_map literals) only

-- the names of a FROM item
abbrev pub item_names : List ℕ × Option (List ℕ) → List (List ℕ)
item_names i = i.0 ∷ option_to_list i.1

-- ---- the limits

-- at most so many
abbrev pub at_most : {X : Type 0} → ℕ → Which → List X → Test
at_most n which xs = refuse_if (nat_lt n (length xs)) (Limit which n)

-- names of tables, indexes, columns and cursors, qualifiers and second names: 31 bytes
abbrev pub names_fit : List (List ℕ) → Test
names_fit = all_pass (at_most 31 limits.Name)

-- a literal: no more than 255 bytes
abbrev pub value_fits : Value → Test
value_fits (Str text) = at_most 255 limits.Text text
value_fits v = Ok tt

-- literals: 255 bytes
abbrev pub texts_fit : List Value → Test
texts_fit = all_pass value_fits

-- a number below or above these two
abbrev pub is_outside : ℕ → ℕ → ℤ → Bool
is_outside low high (pos n) = nat_lt n low || nat_lt high n
is_outside low high (negsuc n) = true

-- VARCHAR: 1 to 255 bytes
abbrev pub kind_fits : List ℕ × RawKind → Test
kind_fits (name, Big) = Ok tt
kind_fits (name, Chars n) = refuse_if (is_outside 1 255 n) (Limit limits.Text 255)

-- IN: 32 literals
abbrev pub list_fits : RawAtom → Test
list_fits (Among c list) = at_most 32 limits.List list
list_fits atom = Ok tt

-- WHERE: 32 literals of one IN, then 32 atoms of one group, then 32 groups
abbrev pub where_fits : List (List RawAtom) → Test
where_fits only = do
  lists ← all_pass (all_pass list_fits) only
  atoms ← all_pass (at_most 32 limits.Atoms) only
  at_most 32 limits.Groups only

-- THE LIMITS of each statement
abbrev pub within_limits : Statement → Test
within_limits (CreateTable name columns) = do
  names ← names_fit (name ∷ map (λ (c : List ℕ × RawKind). c.0) columns)
  widths ← all_pass kind_fits columns
  at_most 16 limits.Columns columns
within_limits (CreateIndex unique name table columns) = do
  names ← names_fit (name ∷ table ∷ columns)
  at_most 4 limits.Key columns
within_limits (Insert table values) = do
  names ← names_fit (table ∷ [])
  texts ← texts_fit values
  at_most 16 limits.Columns values
within_limits (Update table sets only) = do
  names ← names_fit (table ∷ map (λ (s : List ℕ × Value). s.0) sets ++ names_in only)
  texts ← texts_fit (map (λ (s : List ℕ × Value). s.1) sets ++ values_in only)
  columns ← at_most 16 limits.Columns sets
  where_fits only
within_limits (Delete table only) = do
  names ← names_fit (table ∷ names_in only)
  texts ← texts_fit (values_in only)
  where_fits only
within_limits (Open cursor returned items only order goal) = do
  names ← names_fit (cursor ∷ flat_map column_names (unwrap_or returned [])
      ++ flat_map item_names items ++ names_in only ++ flat_map column_names order)
  texts ← texts_fit (values_in only)
  condition ← where_fits only
  joined ← at_most 4 limits.Joined items
  shown ← at_most 64 limits.Returned (unwrap_or returned [])
  at_most 4 limits.Order order
within_limits (Step cursor n) = do
  names ← names_fit (cursor ∷ [])
  refuse_if (is_outside 0 10000 n) (Limit limits.Steps 10000)
within_limits (Fetch cursor) = names_fit (cursor ∷ [])
within_limits (Show cursor) = names_fit (cursor ∷ [])
within_limits (Close cursor) = names_fit (cursor ∷ [])
within_limits statement = Ok tt
