-- Bridge: a condition keeps what makes it True by the working definition.
use Rattle.std.proofs.Common.{◌≡◌, ℕ, List, [], ◌∷◌, Bool, true, false, not, cond, ◌||◌, refl, ap, ◌∙◌, map, nat_eq}
use Rattle.std.specs.List.{starts_with}
use Rattle.std.specs.declared.cmp.Ordering.{Ordering}
use Rattle.rv_value.specs.declared.value.Value.{Value}
use Rattle.rv_value.specs.declared.value.Value.TheVariants.{Null, Int, Str}
use Rattle.rv_value.specs.Order.{value_cmp}
use Rattle.rv_restrict.specs.declared.atom.Tri.{Tri}
use Rattle.rv_restrict.specs.declared.atom.Tri.TheVariants.{True, False, Unknown}
use Rattle.rv_restrict.specs.declared.atom.ColRef.{ColRef}
use Rattle.rv_restrict.specs.declared.atom.Op.{Op}
use Rattle.rv_restrict.specs.declared.atom.Op.TheVariants.{Eq, Ne, Lt, Le, Gt, Ge}
use Rattle.rv_restrict.specs.declared.atom.Operand.{Operand}
use Rattle.rv_restrict.specs.declared.atom.Operand.TheVariants.{Literal, Column}
use Rattle.rv_restrict.specs.declared.atom.Atom.{Atom}
use Rattle.rv_restrict.specs.declared.atom.Atom.TheVariants.{Compare, Between, Among, IsNull, Starts, Const}
use Rattle.rv_restrict.specs.Truth as working
use Rattle.rv_restrict.specs.Truth.{compared, greatest, least, lesser, truth_by}
use Rattle.rv_believed.specs.Truth.{all_of, any_of, atom_truth, both, compare, either, holds, is_null, is_true, keeps, null_test, operand_value, starts, truth_of}
use Rattle.rv_believed.proofs.Chains.{map_same}

either_same : (a b : Tri) → either a b ≡ working.greater a b
either_same True b = refl
either_same False b = refl
either_same Unknown True = refl
either_same Unknown False = refl
either_same Unknown Unknown = refl

both_same : (a b : Tri) → both a b ≡ lesser a b
both_same True b = refl
both_same False b = refl
both_same Unknown True = refl
both_same Unknown False = refl
both_same Unknown Unknown = refl

any_same : (ts : List Tri) → any_of ts ≡ greatest ts
any_same [] = refl
any_same (t ∷ ts) = ap (λ b. either t b) (any_same ts) ∙ either_same t (greatest ts)

all_same : (ts : List Tri) → all_of ts ≡ least ts
all_same [] = refl
all_same (t ∷ ts) = ap (λ b. both t b) (all_same ts) ∙ both_same t (least ts)

true_same : (t : Tri) → is_true t ≡ working.is_true t
true_same True = refl
true_same False = refl
true_same Unknown = refl

truth_same : (b : Bool) → truth_of b ≡ working.truth_of b
truth_same true = refl
truth_same false = refl

null_same : (x : Value) → is_null x ≡ working.is_null x
null_same Null = refl
null_same (Int n) = refl
null_same (Str t) = refl

holds_same : (op : Op) (o : Ordering) → holds op o ≡ working.answers op o
holds_same Eq o = refl
holds_same Ne o = refl
holds_same Lt o = refl
holds_same Le o = refl
holds_same Gt o = refl
holds_same Ge o = refl

tested_same : (op : Op) (o : Ordering) → truth_of (holds op o) ≡ working.truth_of (working.answers op o)
tested_same op o = truth_same (holds op o) ∙ ap (λ b. working.truth_of b) (holds_same op o)

compare_same : (x : Value) (op : Op) (y : Value) → compare x op y ≡ compared x op y
compare_same x op y = λ k. cond (null_same x k || null_same y k) Unknown (tested_same op (value_cmp x y) k)

starts_same : (x : Value) (front : List ℕ) → starts x front ≡ working.started x front
starts_same Null front = refl
starts_same (Int n) front = refl
starts_same (Str t) front = truth_same (starts_with nat_eq t front)

null_test_same : (negated : Bool) (x : Value) → null_test negated x ≡ working.null_test negated x
null_test_same true x = truth_same (not (is_null x)) ∙ ap (λ b. working.truth_of (not b)) (null_same x)
null_test_same false x = truth_same (is_null x) ∙ ap (λ b. working.truth_of b) (null_same x)

operand_same : (read : ColRef → Value) (o : Operand) → operand_value read o ≡ working.value_of read o
operand_same read (Literal v) = refl
operand_same read (Column c) = refl

atom_same : (read : ColRef → Value) (a : Atom) → atom_truth read a ≡ working.atom_truth read a
atom_same read (Compare c op right) = compare_same (read c) op (operand_value read right) ∙ ap (λ y. compared (read c) op y) (operand_same read right)
atom_same read (Between c low high) = both_same (compare (read c) Ge low) (compare (read c) Le high)
    ∙ (λ k. lesser (compare_same (read c) Ge low k) (compare_same (read c) Le high k))
atom_same read (Among c list) = any_same (map (compare (read c) Eq) list)
    ∙ ap (λ ts. greatest ts) (map_same (compare (read c) Eq) (compared (read c) Eq) (compare_same (read c) Eq) list)
atom_same read (IsNull c negated) = null_test_same negated (read c)
atom_same read (Starts c text) = starts_same (read c) text
atom_same read (Const t) = refl

abbrev group_of : (ColRef → Value) → List Atom → Tri
group_of read g = any_of (map (atom_truth read) g)

group_same : (read : ColRef → Value) (g : List Atom) → group_of read g ≡ working.group_truth read g
group_same read g = any_same (map (atom_truth read) g)
    ∙ ap (λ ts. greatest ts) (map_same (atom_truth read) (working.atom_truth read) (atom_same read) g)

pub keeps_same : (read : ColRef → Value) (only : List (List Atom)) → keeps read only ≡ working.is_true (truth_by read only)
keeps_same read only = true_same (all_of (map (group_of read) only))
    ∙ ap (λ t. working.is_true t) (all_same (map (group_of read) only)
    ∙ ap (λ ts. least ts) (map_same (group_of read) (working.group_truth read) (group_same read) only))
