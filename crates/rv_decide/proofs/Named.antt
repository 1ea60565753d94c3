-- A restriction names columns that rows have which have any column.
use Rattle.std.proofs.Common.{◌≡◌, List, [], ◌∷◌, Bool, true, refl}
use Rattle.std.proofs.lemmas.Bool.{and_from}
use Rattle.rv_value.specs.declared.value.Value.{Value}
use Rattle.rv_value.specs.declared.value.Value.TheVariants.{Null, Int, Str}
use Rattle.rv_restrict.specs.declared.atom.Atom.{Atom}
use Rattle.rv_restrict.specs.declared.atom.Atom.TheVariants.{Compare, Between, Among, IsNull, Starts, Const}
use Rattle.rv_restrict.specs.declared.atom.ColRef.{ColRef}
use Rattle.rv_restrict.specs.declared.atom.Operand.{Operand}
use Rattle.rv_restrict.specs.declared.atom.Operand.TheVariants.{Literal, Column}
use Rattle.rv_restrict.specs.Truth.{atom_names_only, group_names_only, is_null, names_only, operand_names_only}

pub null_is : (v : Value) → is_null v ≡ true → v ≡ Null
null_is Null h = refl
null_is (Int n) h = cc
null_is (Str s) h = cc

module _ (p : ColRef → Bool) (any : (c : ColRef) → p c ≡ true) where
  operand_named : (o : Operand) → operand_names_only p o ≡ true
  operand_named (Literal v) = refl
  operand_named (Column c) = any c

  atom_named : (a : Atom) → atom_names_only p a ≡ true
  atom_named (Compare c op operand) = and_from (p c) (operand_names_only p operand) (any c) (operand_named operand)
  atom_named (Between c low high) = any c
  atom_named (Among c list) = any c
  atom_named (IsNull c negated) = any c
  atom_named (Starts c text) = any c
  atom_named (Const t) = refl

  group_named : (g : List Atom) → group_names_only p g ≡ true
  group_named [] = refl
  group_named (a ∷ more) = and_from (atom_names_only p a) (group_names_only p more) (atom_named a) (group_named more)

  pub all_named : (gs : List (List Atom)) → names_only p gs ≡ true
  all_named [] = refl
  all_named (g ∷ gs) = and_from (group_names_only p g) (names_only p gs) (group_named g) (all_named gs)
