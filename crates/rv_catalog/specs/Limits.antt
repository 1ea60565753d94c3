-- The limits of a statement, in the order in which they are tested.
use Rattle.std.specs.Prelude.{ℕ, ℤ, pos, negsuc, List, [], Bool, true, false, ◌||◌, nat_lt, Option, Some, None, Result, length}
use Rattle.std.specs.List.{list_any}
use Rattle.rv_value.specs.declared.value.Value.{Value}
use Rattle.rv_value.specs.declared.value.Value.TheVariants.{Null, Int, Str}
use Rattle.rv_lang.specs.declared.statement.RawKind.{RawKind}
use Rattle.rv_lang.specs.declared.statement.RawKind.TheVariants.{Big, Chars}
use Rattle.rv_lang.specs.declared.statement.RawCol.{RawCol}
use Rattle.rv_lang.specs.declared.statement.RawOperand.{RawOperand}
use Rattle.rv_lang.specs.declared.statement.RawOperand.TheVariants.{Literal, Column}
use Rattle.rv_lang.specs.declared.statement.RawAtom.{RawAtom}
use Rattle.rv_lang.specs.declared.statement.RawAtom.TheVariants.{Compare, Between, Among, IsNull, Starts}
use Rattle.rv_lang.specs.declared.statement.Statement.{Statement}
use Rattle.rv_lang.specs.declared.statement.Statement.TheVariants.{CreateTable, CreateIndex, Insert, Update, Delete, Open, Fetch, Show, Close, Step}
use Rattle.rv_lang.specs.declared.reply.Refusal.{Refusal}
use Rattle.rv_lang.specs.declared.reply.Refusal.TheVariants.{Limit}
use Rattle.rv_lang.specs.declared.reply.Which.TheVariants.{Name, Columns, Key, Atoms, Groups, Joined, Returned, Order, Steps}
use Rattle.rv_lang.specs.declared.reply.Which.TheVariants.{Text as TextBytes, List as Listed}
use Rattle.rv_catalog.specs.Answers.{◌>>=◌, refuse_if}

-- Names: tables, indexes, columns, cursors, qualifiers and second names.

abbrev pub is_long : List ℕ → Bool
is_long name = nat_lt 31 (length name)

abbrev pub is_long_option : Option (List ℕ) → Bool
is_long_option None = false
is_long_option (Some name) = is_long name

abbrev pub is_long_ref : RawCol → Bool
is_long_ref raw = is_long_option raw.table || is_long raw.column

abbrev pub is_long_operand : RawOperand → Bool
is_long_operand (Literal v) = false
is_long_operand (Column raw) = is_long_ref raw

abbrev pub is_long_atom : RawAtom → Bool
is_long_atom (Compare raw op operand) = is_long_ref raw || is_long_operand operand
is_long_atom (Between raw low high) = is_long_ref raw
is_long_atom (Among raw list) = is_long_ref raw
is_long_atom (IsNull raw negated) = is_long_ref raw
is_long_atom (Starts raw text) = is_long_ref raw

abbrev pub has_long_names : List (List RawAtom) → Bool
has_long_names only = list_any (λ (g : List RawAtom). list_any is_long_atom g) only

abbrev pub has_long_refs : Option (List RawCol) → Bool
has_long_refs None = false
has_long_refs (Some refs) = list_any is_long_ref refs

abbrev pub has_long_name : Statement → Bool
has_long_name (CreateTable name columns) = is_long name || list_any (λ (c : List ℕ × RawKind). is_long c.0) columns
has_long_name (CreateIndex unique name table columns) = is_long name || is_long table || list_any is_long columns
has_long_name (Insert table values) = is_long table
has_long_name (Update table sets only) =
    is_long table || list_any (λ (s : List ℕ × Value). is_long s.0) sets || has_long_names only
has_long_name (Delete table only) = is_long table || has_long_names only
has_long_name (Open cursor returned items only order goal) =
    is_long cursor || has_long_refs returned
    || list_any (λ (i : List ℕ × Option (List ℕ)). is_long i.0 || is_long_option i.1) items || has_long_names only
    || list_any is_long_ref order
has_long_name (Fetch cursor) = is_long cursor
has_long_name (Show cursor) = is_long cursor
has_long_name (Close cursor) = is_long cursor
has_long_name (Step cursor n) = is_long cursor
has_long_name other = false

-- Texts: the bytes of literals, and the length of a VARCHAR.

abbrev pub is_wide_text : List ℕ → Bool
is_wide_text text = nat_lt 255 (length text)

abbrev pub is_wide : Value → Bool
is_wide Null = false
is_wide (Int n) = false
is_wide (Str text) = is_wide_text text

abbrev pub is_wide_operand : RawOperand → Bool
is_wide_operand (Literal v) = is_wide v
is_wide_operand (Column raw) = false

abbrev pub is_wide_atom : RawAtom → Bool
is_wide_atom (Compare raw op operand) = is_wide_operand operand
is_wide_atom (Between raw low high) = is_wide low || is_wide high
is_wide_atom (Among raw list) = list_any is_wide list
is_wide_atom (IsNull raw negated) = false
is_wide_atom (Starts raw text) = is_wide_text text

abbrev pub has_wide_texts : List (List RawAtom) → Bool
has_wide_texts only = list_any (λ (g : List RawAtom). list_any is_wide_atom g) only

-- VARCHAR (n) with n below 1 or above 255
abbrev pub is_no_width : ℤ → Bool
is_no_width (pos n) = nat_lt n 1 || nat_lt 255 n
is_no_width (negsuc n) = true

abbrev pub is_no_kind : RawKind → Bool
is_no_kind Big = false
is_no_kind (Chars n) = is_no_width n

abbrev pub has_wide_text : Statement → Bool
has_wide_text (CreateTable name columns) = list_any (λ (c : List ℕ × RawKind). is_no_kind c.1) columns
has_wide_text (Insert table values) = list_any is_wide values
has_wide_text (Update table sets only) = list_any (λ (s : List ℕ × Value). is_wide s.1) sets || has_wide_texts only
has_wide_text (Delete table only) = has_wide_texts only
has_wide_text (Open cursor returned items only order goal) = has_wide_texts only
has_wide_text other = false

-- Counts.

-- columns of CREATE TABLE, values of INSERT, columns of SET
abbrev pub columns_count : Statement → ℕ
columns_count (CreateTable name columns) = length columns
columns_count (Insert table values) = length values
columns_count (Update table sets only) = length sets
columns_count other = 0

-- columns of CREATE INDEX
abbrev pub key_count : Statement → ℕ
key_count (CreateIndex unique name table columns) = length columns
key_count other = 0

-- the groups of WHERE
abbrev pub groups_in : Statement → List (List RawAtom)
groups_in (Update table sets only) = only
groups_in (Delete table only) = only
groups_in (Open cursor returned items only order goal) = only
groups_in other = []

-- the literals of one IN
abbrev pub is_long_list : RawAtom → Bool
is_long_list (Compare raw op operand) = false
is_long_list (Between raw low high) = false
is_long_list (Among raw list) = nat_lt 32 (length list)
is_long_list (IsNull raw negated) = false
is_long_list (Starts raw text) = false

abbrev pub has_long_list : List (List RawAtom) → Bool
has_long_list only = list_any (λ (g : List RawAtom). list_any is_long_list g) only

-- the atoms of one group
abbrev pub has_long_group : List (List RawAtom) → Bool
has_long_group only = list_any (λ (g : List RawAtom). nat_lt 32 (length g)) only

-- FROM items
abbrev pub joined_count : Statement → ℕ
joined_count (Open cursor returned items only order goal) = length items
joined_count other = 0

abbrev pub count_option : Option (List RawCol) → ℕ
count_option None = 0
count_option (Some refs) = length refs

-- column references between SELECT and FROM
abbrev pub returned_count : Statement → ℕ
returned_count (Open cursor returned items only order goal) = count_option returned
returned_count other = 0

-- ORDER BY columns
abbrev pub order_count : Statement → ℕ
order_count (Open cursor returned items only order goal) = length order
order_count other = 0

-- a negative number of steps, or more than 10000
abbrev pub is_no_steps : ℤ → Bool
is_no_steps (pos n) = nat_lt 10000 n
is_no_steps (negsuc n) = true

abbrev pub has_no_steps : Statement → Bool
has_no_steps (Step cursor n) = is_no_steps n
has_no_steps other = false

abbrev pub limits : Statement → Result (Unit {0}) Refusal
limits s = do
  names ← refuse_if (has_long_name s) (Limit Name 31)
  texts ← refuse_if (has_wide_text s) (Limit TextBytes 255)
  columns ← refuse_if (nat_lt 16 (columns_count s)) (Limit Columns 16)
  key ← refuse_if (nat_lt 4 (key_count s)) (Limit Key 4)
  lists ← refuse_if (has_long_list (groups_in s)) (Limit Listed 32)
  atoms ← refuse_if (has_long_group (groups_in s)) (Limit Atoms 32)
  groups ← refuse_if (nat_lt 32 (length (groups_in s))) (Limit Groups 32)
  joined ← refuse_if (nat_lt 4 (joined_count s)) (Limit Joined 4)
  returned ← refuse_if (nat_lt 64 (returned_count s)) (Limit Returned 64)
  order ← refuse_if (nat_lt 4 (order_count s)) (Limit Order 4)
  refuse_if (has_no_steps s) (Limit Steps 10000)
