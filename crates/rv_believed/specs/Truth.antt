-- Believed: three-valued truth, as SQL has it, of atoms, of groups and of whole conditions.
use Rattle.std.specs.Prelude.{ℕ, List, [], ◌∷◌, Bool, true, false, not, ◌||◌, nat_eq, map, if◌then◌else◌}
use Rattle.std.specs.List.{starts_with}
use Rattle.std.specs.Ordering.{is_eq, is_ne, is_lt, is_le, is_gt, is_ge}
use Rattle.std.specs.declared.cmp.Ordering.{Ordering}
use Rattle.rv_value.specs.declared.value.Value.{Value}
use Rattle.rv_value.specs.declared.value.Value.TheVariants.{Null, Int, Str}
use Rattle.rv_value.specs.Order.{value_cmp}
use Rattle.rv_restrict.specs.declared.atom.Tri.{Tri}
use Rattle.rv_restrict.specs.declared.atom.Tri.TheVariants.{True, False, Unknown}
use Rattle.rv_restrict.specs.declared.atom.ColRef.{ColRef}
use Rattle.rv_restrict.specs.declared.atom.Op.{Op}
use Rattle.rv_restrict.specs.declared.atom.Op.TheVariants.{Eq, Ne, Lt, Le, Gt, Ge}
use Rattle.rv_restrict.specs.declared.atom.Operand.{Operand}
use Rattle.rv_restrict.specs.declared.atom.Operand.TheVariants.{Literal, Column}
use Rattle.rv_restrict.specs.declared.atom.Atom.{Atom}
use Rattle.rv_restrict.specs.declared.atom.Atom.TheVariants.{Compare, Between, Among, IsNull, Starts, Const}

-- OR of two: the greater truth, in the order False, Unknown, True
abbrev pub either : Tri → Tri → Tri
either True b = True
either False b = b
either Unknown True = True
either Unknown b = Unknown

-- AND of two: the lesser truth
abbrev pub both : Tri → Tri → Tri
both False b = False
both True b = b
both Unknown False = False
both Unknown b = Unknown

-- OR of any number, False where there is none
abbrev pub any_of : List Tri → Tri
any_of [] = False
any_of (t ∷ ts) = either t (any_of ts)

-- AND of any number, True where there is none
abbrev pub all_of : List Tri → Tri
all_of [] = True
all_of (t ∷ ts) = both t (all_of ts)

-- not False, and not Unknown
abbrev pub is_true : Tri → Bool
is_true True = true
is_true t = false

-- True or False, never Unknown
abbrev pub truth_of : Bool → Tri
truth_of true = True
truth_of false = False

-- NULL itself
abbrev pub is_null : Value → Bool
is_null Null = true
is_null v = false

-- the operator of a comparison
abbrev pub holds : Op → Ordering → Bool
holds Eq o = is_eq o
holds Ne o = is_ne o
holds Lt o = is_lt o
holds Le o = is_le o
holds Gt o = is_gt o
holds Ge o = is_ge o

-- a comparison; with NULL on either side it is Unknown
abbrev pub compare : Value → Op → Value → Tri
compare x op y = if is_null x || is_null y then Unknown else truth_of (holds op (value_cmp x y))

-- STARTING WITH
abbrev pub starts : Value → List ℕ → Tri
starts Null front = Unknown
starts (Int n) front = False
starts (Str text) front = truth_of (starts_with nat_eq text front)

-- IS NOT NULL, and IS NULL
abbrev pub null_test : Bool → Value → Tri
null_test true x = truth_of (not (is_null x))
null_test false x = truth_of (is_null x)

-- a literal, or the value that the column has
abbrev pub operand_value : (ColRef → Value) → Operand → Value
operand_value read (Literal v) = v
operand_value read (Column c) = read c

-- an atom, where columns have the values that are read
abbrev pub atom_truth : (ColRef → Value) → Atom → Tri
atom_truth read (Compare c op right) = compare (read c) op (operand_value read right)
atom_truth read (Between c low high) = both (compare (read c) Ge low) (compare (read c) Le high)
atom_truth read (Among c list) = any_of (map (compare (read c) Eq) list)
atom_truth read (IsNull c negated) = null_test negated (read c)
atom_truth read (Starts c text) = starts (read c) text
atom_truth read (Const t) = t

-- A CONDITION: groups are joined by AND, the atoms of a group by OR. It keeps what makes it True.
abbrev pub keeps : (ColRef → Value) → List (List Atom) → Bool
keeps read only =
    is_true (all_of (map (λ (g : List Atom). any_of (map (atom_truth read) g)) only))
