-- The groups of a place read no row behind it; and AND, where only True counts.
use Rattle.std.proofs.Common.{◌≡◌, ℕ, ◌<◌, List, [], ◌∷◌, ◌++◌, true, false, cond, ◌&&◌, ◌==◌, refl, ap, arith, length, max, nat_lt, slice_index_or}
use Rattle.std.proofs.lemmas.List.{get_or_append_left}
use Rattle.std.proofs.lemmas.Bool.Decides.{nat_tests}
use Rattle.std.proofs.lemmas.Bool.{and_from, lt-ltb}
use Rattle.rv_value.specs.declared.value.Value.{Value}
use Rattle.rv_value.specs.declared.value.Value.TheVariants.{Null}
use Rattle.rv_restrict.specs.declared.atom.ColRef.{ColRef}
use Rattle.rv_restrict.specs.declared.atom.Operand.TheVariants.{Literal, Column}
use Rattle.rv_restrict.specs.declared.atom.Atom.{Atom}
use Rattle.rv_restrict.specs.declared.atom.Atom.TheVariants.{Compare, Between, Among, IsNull, Starts, Const}
use Rattle.rv_restrict.specs.declared.atom.Tri.{Tri}
use Rattle.rv_restrict.specs.declared.atom.Tri.TheVariants.{True, False, Unknown}
use Rattle.rv_restrict.specs.Bind.{atom_place, group_place, rows_reads, taken}
use Rattle.rv_restrict.specs.Truth.{atom_names_only, group_names_only, is_true, lesser, names_only}

max_left : (a b n : ℕ) → max a b < n → a < n
max_left a b n h = grind (arith, h)

max_right : (a b n : ℕ) → max a b < n → b < n
max_right a b n h = grind (arith, h)

atom_below : (n : ℕ) (a : Atom) → atom_place a < n → atom_names_only (λ (c : ColRef). nat_lt c.place n) a ≡ true
atom_below n (Compare c op (Literal v)) h = and_from (nat_lt c.place n) true (lt-ltb c.place n (max_left c.place 0 n h)) refl
atom_below n (Compare c op (Column d)) h = and_from (nat_lt c.place n) (nat_lt d.place n) (lt-ltb c.place n (max_left c.place d.place n h)) (lt-ltb d.place n (max_right c.place d.place n h))
atom_below n (Between c low high) h = lt-ltb c.place n h
atom_below n (Among c list) h = lt-ltb c.place n h
atom_below n (IsNull c negated) h = lt-ltb c.place n h
atom_below n (Starts c text) h = lt-ltb c.place n h
atom_below n (Const t) h = refl

group_below : (n : ℕ) (g : List Atom) → group_place g < n → group_names_only (λ (c : ColRef). nat_lt c.place n) g ≡ true
group_below n [] h = refl
group_below n (a ∷ g) h =
    and_from (atom_names_only (λ (c : ColRef). nat_lt c.place n) a) (group_names_only (λ (c : ColRef). nat_lt c.place n) g)
    (atom_below n a (max_left (atom_place a) (group_place g) n h)) (group_below n g (max_right (atom_place a) (group_place g) n h))

pub taken_below : (n place : ℕ) (only : List (List Atom)) → place < n → names_only (λ (c : ColRef). nat_lt c.place n) (taken place only) ≡ true
taken_below n place [] within = refl
taken_below n place (g ∷ only) within =
    let tail = taken_below n place only within in
    elim (group_place g == place) as (λ b. (group_place g == place) ≡ b → names_only (λ (c : ColRef). nat_lt c.place n) (cond b (g ∷ taken place only) (taken place only)) ≡ true) [
      | true ↦ λ e. and_from (group_names_only (λ (c : ColRef). nat_lt c.place n) g) (names_only (λ (c : ColRef). nat_lt c.place n) (taken place only)) (group_below n g (here (group_place g) e)) tail
      | false ↦ λ e. tail
    ] refl
  where
    here : (p : ℕ) → (p == place) ≡ true → p < n
    here p e = grind (arith, nat_tests, e, within)

pub reads_front : (rows more : List (List Value)) (c : ColRef) → nat_lt c.place (length rows) ≡ true → rows_reads (rows ++ more) c ≡ rows_reads rows c
reads_front rows more c h = ap (λ (row : List Value). slice_index_or row c.column Null) (get_or_append_left rows more [] c.place (below c.place h))
  where
    below : (p : ℕ) → nat_lt p (length rows) ≡ true → p < length rows
    below p h = grind (arith, nat_tests, h)

pub true_lesser : (x y : Tri) → is_true (lesser x y) ≡ (is_true x && is_true y)
true_lesser True y = refl
true_lesser False y = refl
true_lesser Unknown True = refl
true_lesser Unknown False = refl
true_lesser Unknown Unknown = refl
