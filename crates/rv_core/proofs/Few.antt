-- Few items of each kind, and so few in all.
use Rattle.std.proofs.Common.{◌≡◌, ℕ, ◌+◌, ◌*◌, ◌<◌, ◌≤◌, ◌==◌, zero, suc, List, [], ◌∷◌, ◌++◌, refl, sym, ap, ◌∙◌, arith, Bool, false, not, filter, take, drop, remove, slice_get, slice_set, length, Some, inl, inr}
use Rattle.std.proofs.lemmas.Bool.{cases_Bool, eqb-true}
use Rattle.std.proofs.lemmas.Bool.Decides.{nat_tests}
use Rattle.std.specs.List.{AllByRecursion}
use Rattle.std.proofs.lemmas.List.Filters.{length-filter_both}
use Rattle.rv_value.proofs.Lists.{filtered_fewer}

-- the items of a kind
abbrev pub of_kind : {X : Type 0} → (X → ℕ) → ℕ → List X → List X
of_kind kind n xs = filter (λ x. kind x == n) xs

abbrev pub FewEach : {X : Type 0} → (X → ℕ) → ℕ → List X → Type 0
FewEach kind most xs = (n : ℕ) → length (of_kind kind n xs) ≤ most

pub few_filter : {X : Type 0} (kind : X → ℕ) (most : ℕ) (p : X → Bool) (xs : List X) → FewEach kind most xs → FewEach kind most (filter p xs)
few_filter kind most p xs few n = let a = filtered_fewer (λ x. kind x == n) p xs in let b = few n in omega (arith, a, b)

below : {X : Type 0} (kind : X → ℕ) (n : ℕ) (xs : List X) → AllByRecursion (λ x. kind x < suc n) xs → AllByRecursion (λ x. kind x < n) (filter (λ x. not (kind x == n)) xs)
below kind n [] all = tt
below kind n (x ∷ xs) all =
    let rest = below kind n xs all.1 in
    let here = all.0 in
    elim (cases_Bool (kind x == n)) [
      | inl t ↦ rw t rest
      | inr f ↦ rw f (less (kind x) n here f, rest)
    ]
  where
    less : (a b : ℕ) → a < suc b → (a == b) ≡ false → a < b
    less a b h f = grind (arith, nat_tests)

none : {X : Type 0} (kind : X → ℕ) (xs : List X) → AllByRecursion (λ x. kind x < 0) xs → length xs ≡ 0
none kind [] all = refl
none kind (x ∷ xs) all = let h = all.0 in absurd (omega (arith, h))

-- of fewer than so many kinds there are few in all
pub few_all : {X : Type 0} (kind : X → ℕ) (most n : ℕ) (xs : List X) → AllByRecursion (λ x. kind x < n) xs → FewEach kind most xs → length xs ≤ n * most
few_all kind most zero xs all few = let e = none kind xs all in omega (arith, e)
few_all kind most (suc n) xs all few =
    let s = length-filter_both (λ x. kind x == n) (λ x. not (kind x == n)) (λ x. refl) xs in
    let own = few n in
    let rest = few_all kind most n (filter (λ x. not (kind x == n)) xs) (below kind n xs all) (few_filter kind most (λ x. not (kind x == n)) xs few) in
    let e : suc n * most ≡ most + n * most = omega arith in
    omega (arith, s, own, rest, e)

append_few : {X : Type 0} (q : X → Bool) (xs ys : List X) → length (filter q (xs ++ ys)) ≡ length (filter q xs) + length (filter q ys)
append_few q [] ys = omega arith
append_few q (x ∷ xs) ys =
    let rest = append_few q xs ys in
    elim (cases_Bool (q x)) [ inl t ↦ rw t (omega (arith, rest)) | inr f ↦ rw f rest ]

-- one more of a kind that has room
pub few_push : {X : Type 0} (kind : X → ℕ) (most : ℕ) (xs : List X) (x : X) → length (of_kind kind (kind x) xs) < most → FewEach kind most xs → FewEach kind most (xs ++ x ∷ [])
few_push kind most xs x room few n =
    let a = append_few (λ y. kind y == n) xs (x ∷ []) in
    let b = few n in
    elim (cases_Bool (kind x == n)) [
      | inl t ↦ let same = eqb-true (kind x) n t in let c = ap (λ (k : ℕ). length (of_kind kind k xs)) same in let one : length (filter (λ y. kind y == n) (x ∷ [])) ≡ 1 = rw t refl in omega (arith, a, room, c, one)
      | inr f ↦ let nothing : length (filter (λ y. kind y == n) (x ∷ [])) ≡ 0 = rw f refl in omega (arith, a, b, nothing)
    ]

-- an item is put in the place of one of its kind
pub few_set : {X : Type 0} (kind : X → ℕ) (xs : List X) (i : ℕ) (x y : X) → slice_get xs i ≡ Some x → kind y ≡ kind x → (n : ℕ) → length (of_kind kind n (slice_set xs i y)) ≡ length (of_kind kind n xs)
few_set kind [] i x y at same n = refl
few_set kind (z ∷ zs) zero x y at same n = let e : z ≡ x = cc in let k : kind y ≡ kind z = same ∙ ap kind (sym e) in elim (cases_Bool (kind z == n)) [ inl t ↦ rw (k, t) refl | inr f ↦ rw (k, f) refl ]
few_set kind (z ∷ zs) (suc i) x y at same n =
    let rest = few_set kind zs i x y at same n in
    elim (cases_Bool (kind z == n)) [ inl t ↦ rw t (ap (λ (k : ℕ). suc k) rest) | inr f ↦ rw f rest ]

-- an item is taken out
remove_few : {X : Type 0} (q : X → Bool) (xs : List X) (i : ℕ) → length (filter q (take i xs ++ drop (suc i) xs)) ≤ length (filter q xs)
remove_few q [] zero = omega arith
remove_few q [] (suc i) = omega arith
remove_few q (x ∷ xs) zero = elim (cases_Bool (q x)) [ inl t ↦ rw t (omega arith) | inr f ↦ rw f (omega arith) ]
remove_few q (x ∷ xs) (suc i) =
    let rest = remove_few q xs i in
    elim (cases_Bool (q x)) [ inl t ↦ rw t (omega (arith, rest)) | inr f ↦ rw f rest ]

pub few_remove : {X : Type 0} (kind : X → ℕ) (most : ℕ) (xs : List X) (i : ℕ) → FewEach kind most xs → FewEach kind most (remove xs i)
few_remove kind most xs i few n = let a = remove_few (λ x. kind x == n) xs i in let b = few n in omega (arith, a, b)
