-- Three-valued truth, as SQL has it, of atoms, of groups and of restrictions.
use Rattle.std.specs.Prelude.{ℕ, List, [], ◌∷◌, Bool, true, false, cond, not, ◌&&◌, ◌||◌, ◌==◌, nat_eq, nat_lt, length, map}
use Rattle.std.specs.List.{list_all, starts_with, slice_index_or}
use Rattle.std.specs.Ordering.{is_eq, is_ne, is_lt, is_le, is_gt, is_ge}
use Rattle.std.specs.declared.cmp.Ordering.{Ordering}
use Rattle.rv_value.specs.declared.value.Value.{Value}
use Rattle.rv_value.specs.declared.value.Value.TheVariants.{Null, Int, Str}
use Rattle.rv_value.specs.Order.{value_cmp}
use Rattle.rv_restrict.specs.declared.atom.Tri.{Tri}
use Rattle.rv_restrict.specs.declared.atom.Tri.TheVariants.{True, False, Unknown}
use Rattle.rv_restrict.specs.declared.atom.ColRef.{ColRef}
use Rattle.rv_restrict.specs.declared.atom.Op.{Op}
use Rattle.rv_restrict.specs.declared.atom.Op.TheVariants.{Eq, Ne, Lt, Le, Gt, Ge}
use Rattle.rv_restrict.specs.declared.atom.Operand.{Operand}
use Rattle.rv_restrict.specs.declared.atom.Operand.TheVariants.{Literal, Column}
use Rattle.rv_restrict.specs.declared.atom.Atom.{Atom}
use Rattle.rv_restrict.specs.declared.atom.Atom.TheVariants.{Compare, Between, Among, IsNull, Starts, Const}

-- the greater and the lesser of two truths, in the order False, Unknown, True
abbrev pub greater : Tri → Tri → Tri
greater True b = True
greater False b = b
greater Unknown True = True
greater Unknown False = Unknown
greater Unknown Unknown = Unknown

abbrev pub lesser : Tri → Tri → Tri
lesser False b = False
lesser True b = b
lesser Unknown False = False
lesser Unknown True = Unknown
lesser Unknown Unknown = Unknown

-- OR: the greatest truth, False where there is none
abbrev pub greatest : List Tri → Tri
greatest [] = False
greatest (t ∷ ts) = greater t (greatest ts)

-- AND: the least truth, True where there is none
abbrev pub least : List Tri → Tri
least [] = True
least (t ∷ ts) = lesser t (least ts)

abbrev pub is_true : Tri → Bool
is_true True = true
is_true False = false
is_true Unknown = false

abbrev pub truth_of : Bool → Tri
truth_of true = True
truth_of false = False

abbrev pub is_null : Value → Bool
is_null Null = true
is_null (Int n) = false
is_null (Str s) = false

abbrev pub answers : Op → Ordering → Bool
answers Eq o = is_eq o
answers Ne o = is_ne o
answers Lt o = is_lt o
answers Le o = is_le o
answers Gt o = is_gt o
answers Ge o = is_ge o

-- a comparison with NULL on either side is Unknown
abbrev pub compared : Value → Op → Value → Tri
compared x op y = cond (is_null x || is_null y) Unknown (truth_of (answers op (value_cmp x y)))

abbrev pub between : Value → Value → Value → Tri
between x low high = lesser (compared x Ge low) (compared x Le high)

abbrev pub among : Value → List Value → Tri
among x list = greatest (map (compared x Eq) list)

abbrev pub started : Value → List ℕ → Tri
started Null front = Unknown
started (Int n) front = False
started (Str text) front = truth_of (starts_with nat_eq text front)

-- IS NULL, or IS NOT NULL where it is negated
abbrev pub null_test : Bool → Value → Tri
null_test true x = truth_of (not (is_null x))
null_test false x = truth_of (is_null x)

-- Truth over columns that are read in any way.

abbrev pub value_of : (ColRef → Value) → Operand → Value
value_of read (Literal v) = v
value_of read (Column c) = read c

abbrev pub atom_truth : (ColRef → Value) → Atom → Tri
atom_truth read (Compare c op operand) = compared (read c) op (value_of read operand)
atom_truth read (Between c low high) = between (read c) low high
atom_truth read (Among c list) = among (read c) list
atom_truth read (IsNull c negated) = null_test negated (read c)
atom_truth read (Starts c text) = started (read c) text
atom_truth read (Const t) = t

-- a group is the greatest truth of its atoms
abbrev pub group_truth : (ColRef → Value) → List Atom → Tri
group_truth read group = greatest (map (atom_truth read) group)

-- a restriction is the least truth of its groups
abbrev pub truth_by : (ColRef → Value) → List (List Atom) → Tri
truth_by read only = least (map (group_truth read) only)

-- On one row, which is that of place 0.

-- the value of a column in a row
abbrev pub row_reads : List Value → ColRef → Value
row_reads row c = slice_index_or row c.column Null

abbrev pub truth : List (List Atom) → List Value → Tri
truth only row = truth_by (row_reads row) only

-- the rows that WHERE keeps
abbrev pub qualifies : List (List Atom) → List Value → Bool
qualifies only row = is_true (truth only row)

-- Which columns are named: each of them passes a test.

abbrev pub operand_names_only : (ColRef → Bool) → Operand → Bool
operand_names_only p (Literal v) = true
operand_names_only p (Column c) = p c

abbrev pub atom_names_only : (ColRef → Bool) → Atom → Bool
atom_names_only p (Compare c op operand) = p c && operand_names_only p operand
atom_names_only p (Between c low high) = p c
atom_names_only p (Among c list) = p c
atom_names_only p (IsNull c negated) = p c
atom_names_only p (Starts c text) = p c
atom_names_only p (Const t) = true

abbrev pub group_names_only : (ColRef → Bool) → List Atom → Bool
group_names_only p = list_all (atom_names_only p)

abbrev pub names_only : (ColRef → Bool) → List (List Atom) → Bool
names_only p = list_all (group_names_only p)

-- a column of place 0
abbrev pub is_home : ColRef → Bool
is_home c = c.place == 0

-- a column of place 0 that the row has
abbrev pub row_has : List Value → ColRef → Bool
row_has row c = is_home c && nat_lt c.column (length row)
