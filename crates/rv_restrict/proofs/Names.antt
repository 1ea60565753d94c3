-- Which columns a restriction names, and that nothing but these decides its truth.
use Rattle.std.proofs.Common.{◌≡◌, List, [], ◌∷◌, Bool, true, refl}
use Rattle.std.proofs.lemmas.Bool.{and_from}
use Rattle.std.specs.Cmp.{first_so, second_so}
use Rattle.rv_value.proofs.Lists.{passes_more}
use Rattle.rv_value.specs.declared.value.Value.{Value}
use Rattle.rv_restrict.specs.declared.atom.ColRef.{ColRef}
use Rattle.rv_restrict.specs.declared.atom.Operand.{Operand}
use Rattle.rv_restrict.specs.declared.atom.Operand.TheVariants.{Literal, Column}
use Rattle.rv_restrict.specs.declared.atom.Atom.{Atom}
use Rattle.rv_restrict.specs.declared.atom.Atom.TheVariants.{Compare, Between, Among, IsNull, Starts, Const}
use Rattle.rv_restrict.specs.Truth.{value_of, atom_truth, group_truth, truth_by, operand_names_only, atom_names_only, group_names_only, names_only}

-- A column that passes a test passes a weaker one.
operand_weaker : (p q : ColRef → Bool) → ((c : ColRef) → p c ≡ true → q c ≡ true) → (o : Operand) → operand_names_only p o ≡ true → operand_names_only q o ≡ true
operand_weaker p q w (Literal v) h = refl
operand_weaker p q w (Column c) h = w c h

pub atom_weaker : (p q : ColRef → Bool) → ((c : ColRef) → p c ≡ true → q c ≡ true) → (a : Atom) → atom_names_only p a ≡ true → atom_names_only q a ≡ true
atom_weaker p q w (Compare c op o) h = and_from (q c) (operand_names_only q o) (w c (first_so (p c) (operand_names_only p o) h)) (operand_weaker p q w o (second_so (p c) (operand_names_only p o) h))
atom_weaker p q w (Between c low high) h = w c h
atom_weaker p q w (Among c list) h = w c h
atom_weaker p q w (IsNull c n) h = w c h
atom_weaker p q w (Starts c t) h = w c h
atom_weaker p q w (Const t) h = refl

pub names_weaker : (p q : ColRef → Bool) → ((c : ColRef) → p c ≡ true → q c ≡ true) → (only : List (List Atom)) → names_only p only ≡ true → names_only q only ≡ true
names_weaker p q w only h = passes_more (group_names_only p) (group_names_only q) (passes_more (atom_names_only p) (atom_names_only q) (atom_weaker p q w)) only h

-- Readings that agree on the columns named give the same truth.
operand_same : (r s : ColRef → Value) (p : ColRef → Bool) → ((c : ColRef) → p c ≡ true → r c ≡ s c) → (o : Operand) → operand_names_only p o ≡ true → value_of r o ≡ value_of s o
operand_same r s p same (Literal v) h = refl
operand_same r s p same (Column c) h = same c h

pub atom_same : (r s : ColRef → Value) (p : ColRef → Bool) → ((c : ColRef) → p c ≡ true → r c ≡ s c) → (a : Atom) → atom_names_only p a ≡ true → atom_truth r a ≡ atom_truth s a
atom_same r s p same (Compare c op o) h = rw (same c (first_so (p c) (operand_names_only p o) h), operand_same r s p same o (second_so (p c) (operand_names_only p o) h)) refl
atom_same r s p same (Between c low high) h = rw (same c h) refl
atom_same r s p same (Among c list) h = rw (same c h) refl
atom_same r s p same (IsNull c n) h = rw (same c h) refl
atom_same r s p same (Starts c text) h = rw (same c h) refl
atom_same r s p same (Const t) h = refl

group_same : (r s : ColRef → Value) (p : ColRef → Bool) → ((c : ColRef) → p c ≡ true → r c ≡ s c) → (g : List Atom) → group_names_only p g ≡ true → group_truth r g ≡ group_truth s g
group_same r s p same [] h = refl
group_same r s p same (a ∷ more) h = rw (atom_same r s p same a (first_so (atom_names_only p a) (group_names_only p more) h), group_same r s p same more (second_so (atom_names_only p a) (group_names_only p more) h)) refl

pub truth_same : (r s : ColRef → Value) (p : ColRef → Bool) → ((c : ColRef) → p c ≡ true → r c ≡ s c) → (only : List (List Atom)) → names_only p only ≡ true → truth_by r only ≡ truth_by s only
truth_same r s p same [] h = refl
truth_same r s p same (g ∷ more) h = rw (group_same r s p same g (first_so (group_names_only p g) (names_only p more) h), truth_same r s p same more (second_so (group_names_only p g) (names_only p more) h)) refl
