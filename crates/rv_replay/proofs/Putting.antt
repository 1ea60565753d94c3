-- Offers that are put into a queue, equal ones together.
use Rattle.std.proofs.Common.{◌≡◌, ℕ, zero, suc, ◌+◌, ◌<◌, List, [], ◌∷◌, ◌++◌, refl, ap, sym, ◌∙◌, subst, inl, inr, arith, Bool, true, false, cond, length, replicate, slice_get, slice_set, insert}
use Rattle.std.proofs.lemmas.Bool.{cases_Bool, and_parts}
use Rattle.std.proofs.lemmas.List.Sorted.{IsPermutation-to_front}
use Rattle.std.specs.List.{list_all, slice_index_or}
use Rattle.rv_rows.specs.Rising.{Rising}
use Rattle.rv_blocks.specs.Flat.{Turns}
use Rattle.rv_value.specs.declared.value.Value.{Value}
use Rattle.rv_model.specs.declared.state.Offer.{Offer}
use Rattle.rv_model.specs.Offers.{offers_in_order, with_offer}
use Rattle.rv_model.proofs.Sorting.{sorted_moved}
use Rattle.rv_replay.specs.Judging.{fits}
use Rattle.rv_replay.specs.Queues.{alike_at, all_of, comes_before, fits_at, is_under, no_alike, one_more, those}
use Rattle.rv_replay.specs.declared.queues.Alike.{Alike}
use Rattle.rv_replay.proofs.Orders.{Splits, alone, chain, fits_same, less, rises_alone, rises_set, splits}

-- ---- where the definition puts an offer

-- behind those that come before it
with_past : (o : Offer) (n : ℕ) (x : Offer) (rest : List Offer) → less x o ≡ true → with_offer o (replicate n x ++ rest) ≡ replicate n x ++ with_offer o rest
with_past o zero x rest h = refl
with_past o (suc n) x rest h =
    subst (λ (b : Bool). cond b (x ∷ with_offer o (replicate n x ++ rest)) (o ∷ x ∷ (replicate n x ++ rest)) ≡ x ∷ (replicate n x ++ with_offer o rest)) (sym h) (ap (λ (ys : List Offer). x ∷ ys) (with_past o n x rest h))

-- before those that do not
with_first : (o : Offer) (n : ℕ) (x : Offer) (rest : List Offer) → less x o ≡ false → with_offer o rest ≡ o ∷ rest → with_offer o (replicate n x ++ rest) ≡ o ∷ (replicate n x ++ rest)
with_first o zero x rest low first = first
with_first o (suc n) x rest low first =
    subst (λ (b : Bool). cond b (x ∷ with_offer o (replicate n x ++ rest)) (o ∷ x ∷ (replicate n x ++ rest)) ≡ o ∷ x ∷ (replicate n x ++ rest)) (sym low) refl

not_under : (o x y : Offer) → less x o ≡ false → less x y ≡ true → less y o ≡ false
not_under o x y low h = elim (cases_Bool (less y o)) [
  | inl t ↦ let fail : less x o ≡ true = chain.follows x y o h t in cc
  | inr f ↦ f
]

with_behind : (o : Offer) (a : Alike) (gs : List Alike) → less a.offer o ≡ false → list_all (comes_before a) gs ≡ true → with_offer o (all_of gs) ≡ o ∷ all_of gs
with_behind o a [] low all = refl
with_behind o a (b ∷ gs) low all =
    let parts = and_parts (comes_before a b) (list_all (comes_before a) gs) all in
    with_first o b.left b.offer (all_of gs) (not_under o a.offer b.offer low parts.0) (with_behind o a gs low parts.1)

put_alone : (o : Offer) (gs : List Alike) (at : ℕ) → Splits o gs at → all_of (insert gs at (alone o)) ≡ with_offer o (all_of gs)
put_alone o [] zero s = refl
put_alone o [] (suc k) s = refl
put_alone o (a ∷ gs) zero s = sym (with_first o a.left a.offer (all_of gs) s.0 (with_behind o a gs s.0 s.1))
put_alone o (a ∷ gs) (suc k) s = ap (λ (ys : List Offer). those a ++ ys) (put_alone o gs k s.1) ∙ sym (with_past o a.left a.offer (all_of gs) s.0)

put_more : (o : Offer) (gs : List Alike) (at : ℕ) (d : Alike) → Splits o gs at → at < length gs → (slice_index_or gs at d).offer ≡ o → all_of (slice_set gs at (record (slice_index_or gs at d) { left = (slice_index_or gs at d).left + 1 })) ≡ with_offer o (all_of gs)
put_more o [] at d s within e = absurd (omega (arith, within))
put_more o (a ∷ gs) zero d s within e =
    let n : a.left + 1 ≡ suc a.left = omega arith in
    ap (λ (k : ℕ). replicate k a.offer ++ all_of gs) n
    ∙ ap (λ (x : Offer). x ∷ (replicate a.left a.offer ++ all_of gs)) e
    ∙ sym (with_first o a.left a.offer (all_of gs) s.0 (with_behind o a gs s.0 s.1))
put_more o (a ∷ gs) (suc k) d s within e = ap (λ (ys : List Offer). those a ++ ys) (put_more o gs k d s.1 (omega (arith, within)) e) ∙ sym (with_past o a.left a.offer (all_of gs) s.0)

-- ---- what a call does

pub there_fits : (first : Offer) (values : List Value) (gs : List Alike) (at : ℕ) → fits_at first values (slice_get gs at) ≡ true → (at < length gs) × (fits first values (alike_at gs at).offer ≡ true)
there_fits first values [] at h = absurd (cc)
there_fits first values (a ∷ gs) zero h = (omega arith, h)
there_fits first values (a ∷ gs) (suc k) h = let rest = there_fits first values gs k h in (omega (arith, rest.0), rest.1)

-- one more of those that are equal to it
pub puts_more : (o : Offer) (gs : List Alike) (at : ℕ) → Rising comes_before gs → Turns (is_under o) gs at → fits_at o o.returned (slice_get gs at) ≡ true → (all_of (one_more gs at) ≡ with_offer o (all_of gs)) × Rising comes_before (one_more gs at)
puts_more o gs at rising t h =
    let there = there_fits o o.returned gs at h in
    let same : (alike_at gs at).offer ≡ o = fits_same o o.returned (alike_at gs at).offer there.1 in (
      put_more o gs at no_alike (splits o gs at rising t) there.0 same,
      rises_set gs at ((alike_at gs at).left + 1) no_alike rising,
    )

-- the only one
pub puts_alone : (o : Offer) (gs : List Alike) (at : ℕ) → Rising comes_before gs → Turns (is_under o) gs at → fits_at o o.returned (slice_get gs at) ≡ false → (all_of (insert gs at (alone o)) ≡ with_offer o (all_of gs)) × Rising comes_before (insert gs at (alone o))
puts_alone o gs at rising t fail = (put_alone o gs at (splits o gs at rising t), rises_alone o gs at rising t fail)

-- offers that are put in one after another
pub one_more_put : (offers : List Offer) (o : Offer) → offers_in_order (offers ++ o ∷ []) ≡ with_offer o (offers_in_order offers)
one_more_put offers o = sym (sorted_moved (offers ++ o ∷ []) (o ∷ offers) (IsPermutation-to_front offers o))
