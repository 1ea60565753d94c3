-- What holds of each column that a restriction names holds of all that it names, and the other way; rows that have a column; and lists of columns that gain some.
use Rattle.std.proofs.Common.{◌≡◌, ◌≢◌, ℕ, List, [], ◌∷◌, ◌++◌, Bool, true, false, cond, ◌&&◌, ◌||◌, ◌==◌, nat_eq, refl, sym, ◌∙◌, ap, subst, arith, inl, inr, ◌<◌, nat_lt, length}
use Rattle.std.specs.List.{list_any, list_all}
use Rattle.std.proofs.lemmas.Bool.Decides.{nat_tests}
use Rattle.std.proofs.lemmas.Bool.{and_from, or_left, or_right, eqb-true, or_cases, lt-ltb}
use Rattle.std.specs.Cmp.{first_so, second_so}
use Rattle.rv_value.specs.declared.record.Record.{Record}
use Rattle.rv_restrict.specs.declared.atom.ColRef.{ColRef}
use Rattle.rv_restrict.specs.declared.atom.Operand.{Operand}
use Rattle.rv_restrict.specs.declared.atom.Operand.TheVariants.{Literal, Column}
use Rattle.rv_restrict.specs.declared.atom.Atom.{Atom}
use Rattle.rv_restrict.specs.declared.atom.Atom.TheVariants.{Compare, Between, Among, IsNull, Starts, Const}
use Rattle.rv_restrict.specs.Bind.{group_place, taken}
use Rattle.rv_restrict.specs.Parts.{stands_among}
use Rattle.rv_restrict.specs.Truth.{atom_names_only, group_names_only, names_only, operand_names_only}
use Rattle.rv_catalog.specs.declared.def.Select.{Select}
use Rattle.rv_reader.specs.Storing.{AreWide}
use Rattle.rv_join.specs.declared.places.Asked.{Asked}
use Rattle.rv_join.specs.Asking.{Adds, asked_uses, atom_names, col_at, group_names, only_names, same_column, operand_names, select_uses, have_column}

pub same_itself : (c : ColRef) → same_column c c ≡ true
same_itself c = grind (arith, nat_tests)

atom_named : (q : ColRef → Bool) (a : Atom) → ((c : ColRef) → atom_names c a ≡ true → q c ≡ true) → atom_names_only q a ≡ true
atom_named q (Compare c op (Literal v)) h = and_from (q c) true (h c (or_left (same_column c c) false (same_itself c))) refl
atom_named q (Compare c op (Column d)) h = and_from (q c) (q d) (h c (or_left (same_column c c) (same_column c d) (same_itself c))) (h d (or_right (same_column d c) (same_column d d) (same_itself d)))
atom_named q (Between c low high) h = h c (same_itself c)
atom_named q (Among c list) h = h c (same_itself c)
atom_named q (IsNull c negated) h = h c (same_itself c)
atom_named q (Starts c text) h = h c (same_itself c)
atom_named q (Const t) h = refl

group_named : (q : ColRef → Bool) (g : List Atom) → ((c : ColRef) → group_names c g ≡ true → q c ≡ true) → group_names_only q g ≡ true
group_named q [] h = refl
group_named q (a ∷ g) h = and_from (atom_names_only q a) (group_names_only q g) (atom_named q a (λ c n. h c (or_left (atom_names c a) (group_names c g) n))) (group_named q g (λ c n. h c (or_right (atom_names c a) (group_names c g) n)))

pub only_named : (q : ColRef → Bool) (only : List (List Atom)) → ((c : ColRef) → only_names c only ≡ true → q c ≡ true) → names_only q only ≡ true
only_named q [] h = refl
only_named q (g ∷ only) h = and_from (group_names_only q g) (names_only q only) (group_named q g (λ c n. h c (or_left (group_names c g) (only_names c only) n))) (only_named q only (λ c n. h c (or_right (group_names c g) (only_names c only) n)))

pub taken_named : (q : ColRef → Bool) (place : ℕ) (only : List (List Atom)) → names_only q only ≡ true → names_only q (taken place only) ≡ true
taken_named q place [] h = refl
taken_named q place (g ∷ only) h =
    let tail = taken_named q place only (second_so (group_names_only q g) (names_only q only) h) in
    elim (group_place g == place) as (λ b. names_only q (cond b (g ∷ taken place only) (taken place only)) ≡ true) [
      | true ↦ and_from (group_names_only q g) (names_only q (taken place only)) (first_so (group_names_only q g) (names_only q only) h) tail
      | false ↦ tail
    ]

-- a plan uses each column that its restriction names
pub uses_named : (a : Asked) → names_only (asked_uses a) a.only ≡ true
uses_named a = only_named (asked_uses a) a.only (λ c n. or_right (list_any (same_column c) a.returns) _ (or_right (list_any (same_column c) a.order) _ n))

pub uses_taken : (a : Asked) (place : ℕ) → names_only (asked_uses a) (taken place a.only) ≡ true
uses_taken a place = taken_named (asked_uses a) place a.only (uses_named a)

-- Lists of columns.

pub adds_none : (xs : List ℕ) → Adds (λ c. false) xs xs
adds_none xs = record { same = λ c. nothing (stands_among xs c) }
  where
    nothing : (b : Bool) → b ≡ (b || false)
    nothing b = grind arith

pub adds_both : (p q : ℕ → Bool) (xs ys zs : List ℕ) → Adds p xs ys → Adds q ys zs → Adds (λ c. p c || q c) xs zs
adds_both p q xs ys zs f g = record { same = λ c. g.same c ∙ ap (λ b. b || q c) (f.same c) ∙ turned (stands_among xs c) (p c) (q c) }
  where
    turned : (a b c : Bool) → ((a || b) || c) ≡ (a || (b || c))
    turned a b c = grind arith

stands_more : (xs : List ℕ) (n c : ℕ) → stands_among (xs ++ n ∷ []) c ≡ (stands_among xs c || (n == c))
stands_more [] n c = grind arith
stands_more (x ∷ xs) n c = let tail = stands_more xs n c in grind (arith, tail)

-- a column of the place is added
pub adds_new : (place : ℕ) (column : ColRef) (xs : List ℕ) → column.place ≡ place → Adds (λ c. same_column (col_at place c) column) xs (xs ++ column.column ∷ [])
adds_new place column xs here = record { same = λ c. stands_more xs column.column c ∙ ap (λ b. stands_among xs c || b) (test c column.place column.column here) }
  where
    test : (c p n : ℕ) → p ≡ place → (n == c) ≡ (nat_eq place p && nat_eq c n)
    test c p n h = grind (arith, nat_tests, h)

-- a column of another place adds none
pub adds_other : (place : ℕ) (column : ColRef) (xs : List ℕ) → column.place ≢ place → Adds (λ c. same_column (col_at place c) column) xs xs
adds_other place column xs other = record { same = λ c. let apart = test column.place other in rw apart (nothing (stands_among xs c)) }
  where
    test : (p : ℕ) → p ≢ place → nat_eq place p ≡ false
    test p h = grind (arith, nat_tests, h)

    nothing : (b : Bool) → b ≡ (b || false)
    nothing b = grind arith

-- one that stands there adds none
pub adds_there : (place : ℕ) (column : ColRef) (xs : List ℕ) → stands_among xs column.column ≡ true → Adds (λ c. same_column (col_at place c) column) xs xs
adds_there place column xs there = record { same = λ c. by_test c column.place column.column there (nat_eq c column.column) refl }
  where
    by_test : (c p n : ℕ) → stands_among xs n ≡ true → (b : Bool) → nat_eq c n ≡ b → stands_among xs c ≡ (stands_among xs c || (nat_eq place p && nat_eq c n))
    by_test c p n there true e = let same : c ≡ n = grind (arith, nat_tests, e) in subst (λ m. stands_among xs m ≡ (stands_among xs m || (nat_eq place p && nat_eq m n))) (sym same) (rw there refl)
    by_test c p n there false e = rw e (missed (stands_among xs c) (nat_eq place p))
      where
        missed : (s b : Bool) → s ≡ (s || (b && false))
        missed s b = grind arith

-- the columns of three lists together
pub needed_is : (p q r : ℕ → Bool) (x y z : List ℕ) → Adds p [] x → Adds q x y → Adds r y z → (c : ℕ) → stands_among z c ≡ (p c || (q c || r c))
needed_is p q r x y z f g h c = h.same c ∙ ap (λ b. b || r c) (g.same c) ∙ ap (λ b. (b || q c) || r c) (f.same c) ∙ turned (p c) (q c) (r c)
  where
    turned : (a b d : Bool) → (((false || a) || b) || d) ≡ (a || (b || d))
    turned a b d = grind arith

-- What all columns of a query pass, each column that it names passes.

same_is : (c d : ColRef) → same_column c d ≡ true → c ≡ d
same_is c d h =
    let place = eqb-true c.place d.place (first_so (nat_eq c.place d.place) (nat_eq c.column d.column) h) in
    let column = eqb-true c.column d.column (second_so (nat_eq c.place d.place) (nat_eq c.column d.column) h) in
    λ i. record { place = place i; column = column i }

same_passes : (p : ColRef → Bool) (c d : ColRef) → p d ≡ true → same_column c d ≡ true → p c ≡ true
same_passes p c d h same = ap p (same_is c d same) ∙ h

any_passes : {X : Type 0} (p names : X → Bool) (q : Bool) → ((x : X) → p x ≡ true → names x ≡ true → q ≡ true) → (xs : List X) → list_all p xs ≡ true → list_any names xs ≡ true → q ≡ true
any_passes p names q each [] all some = cc
any_passes p names q each (x ∷ xs) all some = elim (or_cases (names x) (list_any names xs) some) [
  | inl here ↦ each x (first_so (p x) (list_all p xs) all) here
  | inr later ↦ any_passes p names q each xs (second_so (p x) (list_all p xs) all) later
]

operand_passes : (p : ColRef → Bool) (c : ColRef) (o : Operand) → operand_names_only p o ≡ true → operand_names c o ≡ true → p c ≡ true
operand_passes p c (Literal v) all named = cc
operand_passes p c (Column d) all named = same_passes p c d all named

atom_passes : (p : ColRef → Bool) (c : ColRef) (a : Atom) → atom_names_only p a ≡ true → atom_names c a ≡ true → p c ≡ true
atom_passes p c (Compare d op o) all named = elim (or_cases (same_column c d) (operand_names c o) named) [
  | inl left ↦ same_passes p c d (first_so (p d) (operand_names_only p o) all) left
  | inr right ↦ operand_passes p c o (second_so (p d) (operand_names_only p o) all) right
]
atom_passes p c (Between d low high) all named = same_passes p c d all named
atom_passes p c (Among d list) all named = same_passes p c d all named
atom_passes p c (IsNull d negated) all named = same_passes p c d all named
atom_passes p c (Starts d text) all named = same_passes p c d all named
atom_passes p c (Const t) all named = cc

only_passes : (p : ColRef → Bool) (c : ColRef) (only : List (List Atom)) → names_only p only ≡ true → only_names c only ≡ true → p c ≡ true
only_passes p c only all named = any_passes (group_names_only p) (group_names c) (p c) (λ g h k. any_passes (atom_names_only p) (atom_names c) (p c) (λ a m n. atom_passes p c a m n) g h k) only all named

pub used_passes : (p : ColRef → Bool) (s : Select) (c : ColRef) → list_all p s.returns ≡ true → list_all p s.order ≡ true → names_only p s.only ≡ true → select_uses s c ≡ true → p c ≡ true
used_passes p s c returns order only used = elim (or_cases (list_any (same_column c) s.returns) (list_any (same_column c) s.order || only_names c s.only) used) [
  | inl r ↦ any_passes p (same_column c) (p c) (λ d h k. same_passes p c d h k) s.returns returns r
  | inr more ↦ elim (or_cases (list_any (same_column c) s.order) (only_names c s.only) more) [
    | inl o ↦ any_passes p (same_column c) (p c) (λ d h k. same_passes p c d h k) s.order order o
    | inr g ↦ only_passes p c s.only only g
  ]
]

-- Rows of so many values have each column below.
pub have_wide : (c columns : ℕ) (rows : List Record) → AreWide columns rows → c < columns → have_column c rows ≡ true
have_wide c columns [] wide h = refl
have_wide c columns (r ∷ rows) wide h =
    let long : c < length r.values = omega (arith, wide.0, h) in
    and_from (nat_lt c (length r.values)) (have_column c rows) (lt-ltb c (length r.values) long) (have_wide c columns rows wide.1 h)
