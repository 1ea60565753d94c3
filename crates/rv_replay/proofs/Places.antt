-- The place of the first offer that passes a test, and the list without it.
use Rattle.std.proofs.Common.{◌≡◌, ℕ, zero, suc, ◌<◌, ◌-◌, List, [], ◌∷◌, ◌++◌, refl, ap, sym, subst, arith, Bool, true, false, Some, None, All, position, remove, replicate, slice_get, length, get_or, nat_lt}
use Rattle.std.specs.List.{position_or_len}
use Rattle.std.proofs.lemmas.Bool.Decides.{nat_tests}
use Rattle.std.proofs.lemmas.List.Quantifiers.{position-Some}
use Rattle.std.proofs.lemmas.List.Sums.{position_or_len_is}
use Rattle.std.proofs.lemmas.Bool.{lt-ltb}
use Rattle.rv_value.specs.declared.value.Value.{Value}
use Rattle.rv_model.specs.declared.state.Offer.{Offer}
use Rattle.rv_model.specs.Offers.{place_of}
use Rattle.rv_replay.specs.Judging.{fits}

not_below : (n : ℕ) → nat_lt n n ≡ false
not_below n = grind (arith, nat_tests)

position_at : (p : Offer → Bool) (xs : List Offer) (i : ℕ) (d : Offer) → i < length xs → ((k : ℕ) → k < i → p (get_or xs k d) ≡ false) → p (get_or xs i d) ≡ true → position p xs ≡ Some i
position_at p xs i d within none here =
    let e : position_or_len p xs ≡ i = position_or_len_is p xs i d (omega (arith, within)) none (λ there. here) in
    rw (e, lt-ltb i (length xs) within) refl

pub position_none : (p : Offer → Bool) (xs : List Offer) (d : Offer) → All (λ (o : Offer). p o ≡ false) xs → position p xs ≡ None
position_none p xs d none =
    let e : position_or_len p xs ≡ length xs = position_or_len_is p xs (length xs) d (omega arith) (λ k within. none k d within) (λ there. absurd (omega (arith, there))) in
    rw (e, not_below (length xs)) refl

-- the first offer that passes stands in a place, and without it a list is another one
pub record Takes (p : Offer → Bool) (xs ys : List Offer) : Type 0 where
  pub place : ℕ
  pub at : position p xs ≡ Some place
  pub rest : remove xs place ≡ ys

pub takes_first : (p : Offer → Bool) (x : Offer) (xs : List Offer) → p x ≡ true → Takes p (x ∷ xs) xs
takes_first p x xs pass = record {
  place = zero;
  at = position_at p (x ∷ xs) zero x (omega arith) (λ k before. absurd (omega (arith, before))) pass;
  rest = refl;
}

takes_behind : (p : Offer → Bool) (x : Offer) (xs ys : List Offer) → p x ≡ false → Takes p xs ys → Takes p (x ∷ xs) (x ∷ ys)
takes_behind p x xs ys fail t = record {
  place = suc t.place;
  at = position_at p (x ∷ xs) (suc t.place) x (omega (arith, found.0)) none found.1;
  rest = ap (λ zs. x ∷ zs) t.rest;
}
  where
    found : (t.place < length xs) × (p (get_or xs t.place x) ≡ true) × ((k : ℕ) → k < t.place → p (get_or xs k x) ≡ false)
    found = position-Some p xs t.place x t.at

    none : (k : ℕ) → k < suc t.place → p (get_or (x ∷ xs) k x) ≡ false
    none zero before = fail
    none (suc k) before = found.2 k (omega (arith, before))

-- behind offers that do not pass
pub takes_past : (p : Offer → Bool) (n : ℕ) (x : Offer) (xs ys : List Offer) → p x ≡ false → Takes p xs ys → Takes p (replicate n x ++ xs) (replicate n x ++ ys)
takes_past p zero x xs ys fail t = t
takes_past p (suc n) x xs ys fail t = takes_behind p x (replicate n x ++ xs) (replicate n x ++ ys) fail (takes_past p n x xs ys fail t)

-- one of some that pass
pub takes_one : (p : Offer → Bool) (n : ℕ) (x : Offer) (xs : List Offer) → 0 < n → p x ≡ true → Takes p (replicate n x ++ xs) (replicate (n - 1) x ++ xs)
takes_one p zero x xs some pass = absurd (omega (arith, some))
takes_one p (suc n) x xs some pass =
    let e : suc n - 1 ≡ n = omega arith in
    subst (λ (k : ℕ). Takes p (x ∷ (replicate n x ++ xs)) (replicate k x ++ xs)) (sym e) (takes_first p x (replicate n x ++ xs) pass)

-- the definition's place, where the first offer is known
pub place_is : (offers : List Offer) (first : Offer) (values : List Value) → slice_get offers 0 ≡ Some first → place_of offers values ≡ position (fits first values) offers
place_is [] first values front = cc
place_is (x ∷ xs) first values front =
    let same : first ≡ x = cc in
    subst (λ (f : Offer). place_of (x ∷ xs) values ≡ position (fits f values) (x ∷ xs)) (sym same) refl

pub place_empty : (offers : List Offer) (values : List Value) → slice_get offers 0 ≡ None → place_of offers values ≡ None
place_empty [] values front = refl
place_empty (x ∷ xs) values front = cc
