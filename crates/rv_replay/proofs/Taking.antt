-- An offer that is taken out of a queue.
use Rattle.std.proofs.Common.{◌≡◌, ℕ, zero, suc, ◌+◌, ◌-◌, ◌<◌, ◌≤◌, List, [], ◌∷◌, ◌++◌, refl, ap, sym, ◌∙◌, subst, inl, inr, arith, true, false, ◌&&◌, ◌==◌, Option, Some, None, All, IsSome, is_some, length, length-set, nat_lt, option_map, replicate, slice_get, slice_set}
use Rattle.std.proofs.lemmas.Bool.{cases_lt, and_parts, lt-ltb, ltb-true}
use Rattle.std.proofs.lemmas.Bool.Decides.{nat_tests}
use Rattle.std.proofs.lemmas.List.Elements.{All-append, All-nil, All-replicate}
use Rattle.std.specs.List.{list_all, slice_index_or}
use Rattle.rv_value.specs.declared.value.Value.{Value}
use Rattle.rv_value.proofs.Tests.{other_false}
use Rattle.rv_rows.specs.Rising.{Rising}
use Rattle.rv_blocks.specs.Flat.{Turns}
use Rattle.rv_model.specs.declared.state.Offer.{Offer}
use Rattle.rv_model.specs.Offers.{place_of, without}
use Rattle.rv_replay.specs.Judging.{fits}
use Rattle.rv_replay.specs.Queues.{AreTaken, IsFront, TakesOut, alike_at, all_of, comes_before, is_under, may_give, no_alike, one_less, those}
use Rattle.rv_replay.specs.declared.queues.Alike.{Alike}
use Rattle.rv_replay.proofs.Orders.{Splits, less, over_not, rises_set, sought, splits, under_not}
use Rattle.rv_replay.proofs.Places.{Takes, place_is, position_none, takes_one, takes_past}

-- ---- numbers

is_none_left : (n : ℕ) → nat_lt 0 n ≡ false → n ≡ 0
is_none_left n h = grind (arith, nat_tests)

-- ---- one that may be given

takes_at : (first : Offer) (values : List Value) (gs : List Alike) (at : ℕ) (d : Alike) → Splits (sought first values) gs at → at < length gs → 0 < (slice_index_or gs at d).left → fits first values (slice_index_or gs at d).offer ≡ true → Takes (fits first values) (all_of gs) (all_of (slice_set gs at (record (slice_index_or gs at d) { left = (slice_index_or gs at d).left - 1 })))
takes_at first values [] at d s within some pass = absurd (omega (arith, within))
takes_at first values (a ∷ gs) zero d s within some pass = takes_one (fits first values) a.left a.offer (all_of gs) some pass
takes_at first values (a ∷ gs) (suc k) d s within some pass =
    takes_past (fits first values) a.left a.offer (all_of gs) (all_of (slice_set gs k (record (slice_index_or gs k d) { left = (slice_index_or gs k d).left - 1 }))) (under_not first values a.offer s.0) (takes_at first values gs k d s.1 (omega (arith, within)) some pass)

record IsThere (first : Offer) (values : List Value) (gs : List Alike) (at : ℕ) : Type 0 where
  within : at < length gs
  some : 0 < (alike_at gs at).left
  fit : fits first values (alike_at gs at).offer ≡ true

is_there : (first : Offer) (values : List Value) (gs : List Alike) (at : ℕ) → may_give first values (slice_get gs at) ≡ true → IsThere first values gs at
is_there first values [] at h = absurd (cc)
is_there first values (a ∷ gs) zero h =
    let parts = and_parts (nat_lt 0 a.left) (fits first values a.offer) h in
    record { within = omega arith; some = ltb-true 0 a.left parts.0; fit = parts.1 }
is_there first values (a ∷ gs) (suc k) h =
    let rest = is_there first values gs k h in
    let inside = rest.within in
    record { within = omega (arith, inside); some = rest.some; fit = rest.fit }

pub takes_out : (gs : List Alike) (first : Offer) (values : List Value) (at : ℕ) → Rising comes_before gs → slice_get (all_of gs) 0 ≡ Some first → Turns (is_under (sought first values)) gs at → may_give first values (slice_get gs at) ≡ true → TakesOut gs values at
takes_out gs first values at rising begins turns may =
    let there = is_there first values gs at may in
    let t = takes_at first values gs at no_alike (splits (sought first values) gs at rising turns) there.within there.some there.fit in
    let place : place_of (all_of gs) values ≡ Some t.place = place_is (all_of gs) first values begins ∙ t.at in
    record {
      within = there.within;
      some = there.some;
      may = ap is_some place;
      rest = sym t.rest ∙ ap (λ (o : Option ℕ). without o (all_of gs)) (sym place);
    }

-- ---- none that may be given

those_fail : (first : Offer) (values : List Value) (n : ℕ) (o : Offer) → (nat_lt 0 n && fits first values o) ≡ false → All (λ (p : Offer). fits first values p ≡ false) (replicate n o)
those_fail first values zero o fail = All-nil (λ (p : Offer). fits first values p ≡ false)
those_fail first values (suc n) o fail = All-replicate (λ (p : Offer). fits first values p ≡ false) (suc n) o (other_false (nat_lt 0 (suc n)) (fits first values o) (lt-ltb 0 (suc n) (omega arith)) fail)

behind_fail : (first : Offer) (values : List Value) (a : Alike) (gs : List Alike) → less a.offer (sought first values) ≡ false → list_all (comes_before a) gs ≡ true → All (λ (p : Offer). fits first values p ≡ false) (all_of gs)
behind_fail first values a [] low all = All-nil (λ (p : Offer). fits first values p ≡ false)
behind_fail first values a (b ∷ gs) low all =
    let parts = and_parts (comes_before a b) (list_all (comes_before a) gs) all in
    All-append (λ (p : Offer). fits first values p ≡ false) (those b) (all_of gs)
    (All-replicate (λ (p : Offer). fits first values p ≡ false) b.left b.offer (over_not first values a.offer b.offer low parts.0))
    (behind_fail first values a gs low parts.1)

all_fail : (first : Offer) (values : List Value) (gs : List Alike) (at : ℕ) → Splits (sought first values) gs at → may_give first values (slice_get gs at) ≡ false → All (λ (p : Offer). fits first values p ≡ false) (all_of gs)
all_fail first values [] at s fail = All-nil (λ (p : Offer). fits first values p ≡ false)
all_fail first values (a ∷ gs) zero s fail =
    All-append (λ (p : Offer). fits first values p ≡ false) (those a) (all_of gs) (those_fail first values a.left a.offer fail) (behind_fail first values a gs s.0 s.1)
all_fail first values (a ∷ gs) (suc k) s fail =
    All-append (λ (p : Offer). fits first values p ≡ false) (those a) (all_of gs)
    (All-replicate (λ (p : Offer). fits first values p ≡ false) a.left a.offer (under_not first values a.offer s.0))
    (all_fail first values gs k s.1 fail)

pub none_given : (gs : List Alike) (first : Offer) (values : List Value) (at : ℕ) → Rising comes_before gs → slice_get (all_of gs) 0 ≡ Some first → Turns (is_under (sought first values)) gs at → may_give first values (slice_get gs at) ≡ false → place_of (all_of gs) values ≡ None
none_given gs first values at rising begins turns fail =
    place_is (all_of gs) first values begins ∙ position_none (fits first values) (all_of gs) first (all_fail first values gs at (splits (sought first values) gs at rising turns) fail)

pub not_given : (place : Option ℕ) → place ≡ None → ¬ (IsSome place)
not_given place none = λ some. let wrong : false ≡ true = sym (ap is_some none) ∙ some in absurd (cc)

-- ---- the first that is left

pub taken_none : (gs : List Alike) → AreTaken gs 0
taken_none gs = record { taken = λ k before. absurd (omega (arith, before)) }

pub taken_more : (gs : List Alike) (place : ℕ) → AreTaken gs place → nat_lt 0 (alike_at gs place).left ≡ false → AreTaken gs (place + 1)
taken_more gs place so_far fail = record {
  taken = λ k before. elim (cases_lt k place) [
    | inl earlier ↦ so_far.taken k earlier
    | inr past ↦
        let here : place ≡ k = omega (arith, before, past) in
        subst (λ (n : ℕ). (alike_at gs n).left ≡ 0) here (is_none_left (alike_at gs place).left fail)
  ];
}

pub front_here : (gs : List Alike) (place : ℕ) → place < length gs → AreTaken gs place → nat_lt 0 (alike_at gs place).left ≡ true → IsFront place gs
front_here gs place within so_far pass = record {
  within = omega (arith, within);
  before = so_far;
  some = λ inside. ltb-true 0 (alike_at gs place).left pass;
}

pub front_end : (gs : List Alike) (place n : ℕ) → n ≡ length gs → n ≤ place → AreTaken gs place → IsFront n gs
front_end gs place n whole past so_far = record {
  within = omega (arith, whole);
  before = record { taken = λ k before. so_far.taken k (omega (arith, before, past)) };
  some = λ inside. absurd (omega (arith, inside, whole));
}

one_less_taken : (gs : List Alike) (place k : ℕ) → (alike_at gs k).left ≡ 0 → (alike_at (one_less gs place) k).left ≡ 0
one_less_taken [] place k h = h
one_less_taken (a ∷ gs) zero zero h = let less_one : a.left - 1 ≡ 0 = omega (arith, h) in less_one
one_less_taken (a ∷ gs) zero (suc k) h = h
one_less_taken (a ∷ gs) (suc p) zero h = h
one_less_taken (a ∷ gs) (suc p) (suc k) h = one_less_taken gs p k h

-- one that is taken leaves those before the front as they are
pub taken_less : (gs : List Alike) (place front : ℕ) → AreTaken gs front → AreTaken (one_less gs place) front
taken_less gs place front so_far = record { taken = λ k before. one_less_taken gs place k (so_far.taken k before) }

pub less_within : (gs : List Alike) (place front : ℕ) → front ≤ length gs → front ≤ length (one_less gs place)
less_within gs place front h =
    let long = length-set gs place (record (alike_at gs place) { left = (alike_at gs place).left - 1 }) in
    omega (arith, long, h)

pub rises_less : (gs : List Alike) (place : ℕ) → Rising comes_before gs → Rising comes_before (one_less gs place)
rises_less gs place rising = rises_set gs place ((alike_at gs place).left - 1) no_alike rising

head_is : (n : ℕ) (o : Offer) (rest : List Offer) → 0 < n → slice_get (replicate n o ++ rest) 0 ≡ Some o
head_is zero o rest some = absurd (omega (arith, some))
head_is (suc n) o rest some = refl

-- the first offer is one of those at the front
pub first_is : (gs : List Alike) (front : ℕ) → IsFront front gs → slice_get (all_of gs) 0 ≡ option_map (λ (a : Alike). a.offer) (slice_get gs front)
first_is [] front f = refl
first_is (a ∷ gs) zero f = head_is a.left a.offer (all_of gs) (f.some (omega arith))
first_is (a ∷ gs) (suc k) f =
    let none : a.left ≡ 0 = f.before.taken 0 (omega arith) in
    let inside = f.within in
    let rest : IsFront k gs = record {
      within = omega (arith, inside);
      before = record { taken = λ n before. f.before.taken (suc n) (omega (arith, before)) };
      some = λ within. f.some (omega (arith, within));
    } in
    subst (λ (n : ℕ). slice_get (replicate n a.offer ++ all_of gs) 0 ≡ option_map (λ (b : Alike). b.offer) (slice_get gs k)) (sym none) (first_is gs k rest)

pub some_not_empty : (offers : List Offer) (o : Offer) → slice_get offers 0 ≡ Some o → false ≡ (length offers == 0)
some_not_empty [] o h = cc
some_not_empty (x ∷ xs) o h = grind (arith, nat_tests)

pub none_empty : (offers : List Offer) → slice_get offers 0 ≡ None → true ≡ (length offers == 0)
none_empty [] h = refl
none_empty (x ∷ xs) h = cc
