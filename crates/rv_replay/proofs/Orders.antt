-- The order of offers, alone and with equal ones together, and where a search turns.
use Rattle.std.proofs.Common.{◌≡◌, ℕ, zero, suc, ◌-◌, List, [], ◌∷◌, ap, sym, ◌∙◌, refl, subst, inl, inr, arith, Bool, true, false, not, ◌&&◌, slice_get, slice_set, insert}
use Rattle.std.proofs.lemmas.Bool.{cases_Bool, and_parts}
use Rattle.std.proofs.lemmas.List.Sorted.{ranks_by}
use Rattle.std.specs.Cmp.{IsStrictWeakOrder, alike_right, tied_then}
use Rattle.std.specs.List.{list_all, slice_index_or}
use Rattle.std.specs.Ordering.{is_eq, is_lt, ordering_reverse}
use Rattle.std.specs.declared.cmp.Ordering.{Ordering}
use Rattle.std.specs.declared.cmp.Ordering.TheVariants.{Less, Equal, Greater}
use Rattle.rv_value.proofs.Tests.{equal_is, less_other}
use Rattle.rv_value.specs.declared.value.Value.{Value}
use Rattle.rv_value.specs.Order.{values_cmp}
use Rattle.rv_rows.specs.Rising.{Rising}
use Rattle.rv_rows.proofs.Puts.{IsChain, rising_put}
use Rattle.rv_blocks.specs.Flat.{Turns}
use Rattle.rv_blocks.specs.Taking.{is_level}
use Rattle.rv_blocks.proofs.Places.{chain_of}
use Rattle.rv_blocks.proofs.Order.{put_new}
use Rattle.rv_model.specs.declared.state.Offer.{Offer}
use Rattle.rv_model.specs.OfferOrder.{offer_cmp_total}
use Rattle.rv_model.specs.Offers.{offer_cmp}
use Rattle.rv_value.proofs.Same.{values_same}
use Rattle.rv_value.proofs.Lists.{passes_at}
use Rattle.rv_replay.specs.Judging.{fits}
use Rattle.rv_replay.specs.Queues.{comes_before, fits_at, is_under}
use Rattle.rv_replay.specs.declared.queues.Alike.{Alike}

-- ---- offers

abbrev pub less : Offer → Offer → Bool
less a b = is_lt (offer_cmp a b)

pub chain : IsChain less
chain = chain_of less (ranks_by offer_cmp_total (λ (o : Offer). o))

-- the offer that is looked for
abbrev pub sought : Offer → List Value → Offer
sought first values = record { order = first.order; returned = values }

pub fits_is : (first : Offer) (values : List Value) (o : Offer) → fits first values o ≡ is_eq (offer_cmp o (sought first values))
fits_is first values o = tied_then (values_cmp o.order first.order) (values_cmp o.returned values)

-- what comes before an offer is not equal to it
pub under_not : (first : Offer) (values : List Value) (o : Offer) → less o (sought first values) ≡ true → fits first values o ≡ false
under_not first values o h = fits_is first values o ∙ less_other (offer_cmp o (sought first values)) h

-- nor is what comes behind an offer that does not come before it
pub over_not : (first : Offer) (values : List Value) (x o : Offer) → less x (sought first values) ≡ false → less x o ≡ true → fits first values o ≡ false
over_not first values x o low h = elim (cases_Bool (fits first values o)) [
  | inl pass ↦
      let tied : offer_cmp o (sought first values) ≡ Equal = equal_is (offer_cmp o (sought first values)) (sym (fits_is first values o) ∙ pass) in
      let moved : offer_cmp x o ≡ offer_cmp x (sought first values) = alike_right offer_cmp_total o (sought first values) x tied in
      let fail : true ≡ false = sym h ∙ ap is_lt moved ∙ low in
      cc
  | inr fail ↦ fail
]

-- an offer that fits is the one that is looked for
pub fits_same : (first : Offer) (values : List Value) (o : Offer) → fits first values o ≡ true → o ≡ sought first values
fits_same first values o h =
    let parts = and_parts (is_eq (values_cmp o.order first.order)) (is_eq (values_cmp o.returned values)) h in
    let order : o.order ≡ first.order = values_same o.order first.order (equal_is (values_cmp o.order first.order) parts.0) in
    let returned : o.returned ≡ values = values_same o.returned values (equal_is (values_cmp o.returned values) parts.1) in
    λ i. record { order = order i; returned = returned i }

-- ---- equal offers together

weak : IsStrictWeakOrder comes_before
weak = ranks_by offer_cmp_total (λ (a : Alike). a.offer)

turns_tail : (o : Offer) (a : Alike) (gs : List Alike) (k : ℕ) → Turns (is_under o) (a ∷ gs) (suc k) → Turns (is_under o) gs k
turns_tail o a gs zero t =
    let within = t.within in
    record {
      within = omega arith;
      before = λ d h. absurd (omega (arith, h));
      here = λ d h. t.here d (omega (arith, h));
    }
turns_tail o a gs (suc k) t =
    let within = t.within in
    let one : suc (suc k) - 1 ≡ suc k = omega arith in
    let two : suc k - 1 ≡ k = omega arith in
    record {
      within = omega arith;
      before = λ d h. rw two (rw one at t.before d (omega arith));
      here = λ d h. t.here d (omega (arith, h));
    }

-- where a search turns behind the first of a rising list, they come before the offer
first_under : (o : Offer) (a : Alike) (gs : List Alike) (k : ℕ) → Rising comes_before (a ∷ gs) → Turns (is_under o) (a ∷ gs) (suc k) → less a.offer o ≡ true
first_under o a gs zero rising t = t.before a (omega arith)
first_under o a gs (suc m) rising t =
    let within = t.within in
    let one : suc (suc m) - 1 ≡ suc m = omega arith in
    let last : less (slice_index_or gs m a).offer o ≡ true = rw one at t.before a (omega arith) in
    let behind : less a.offer (slice_index_or gs m a).offer ≡ true = passes_at (comes_before a) gs m a (omega arith) rising.0 in
    chain.follows a.offer (slice_index_or gs m a).offer o behind last

-- What a search by an offer finds in a rising list: those before the place come before the offer, those in it do not,
-- and come before all behind them.
abbrev pub Splits : Offer → List Alike → ℕ → Type 0
Splits o [] at = Unit {0}
Splits o (a ∷ gs) zero = (less a.offer o ≡ false) × (list_all (comes_before a) gs ≡ true)
Splits o (a ∷ gs) (suc k) = (less a.offer o ≡ true) × Splits o gs k

pub splits : (o : Offer) (gs : List Alike) (at : ℕ) → Rising comes_before gs → Turns (is_under o) gs at → Splits o gs at
splits o [] at rising t = tt
splits o (a ∷ gs) zero rising t = (t.here a (omega arith), rising.0)
splits o (a ∷ gs) (suc k) rising t = (first_under o a gs k rising t, splits o gs k rising.1 (turns_tail o a gs k t))

-- ---- what stays in order

-- an offer that is put in where none fits
abbrev pub alone : Offer → Alike
alone o = record { offer = o; left = 1 }

turned_over : (r s : Ordering) → r ≡ ordering_reverse s → is_lt r ≡ false → is_eq r ≡ false → is_lt s ≡ true
turned_over Less s e low fail = cc
turned_over Equal s e low fail = cc
turned_over Greater Less e low fail = refl
turned_over Greater Equal e low fail = cc
turned_over Greater Greater e low fail = cc

over_if : (o a : Offer) → less a o ≡ false → fits o o.returned a ≡ false → less o a ≡ true
over_if o a low fail = turned_over (offer_cmp a o) (offer_cmp o a) (offer_cmp_total.antisymm a o) low (sym (fits_is o o.returned a) ∙ fail)

not_level : (o : Offer) (gs : List Alike) (at : ℕ) → Splits o gs at → fits_at o o.returned (slice_get gs at) ≡ false → is_level comes_before (alone o) (slice_get gs at) ≡ false
not_level o [] at s fail = refl
not_level o (a ∷ gs) zero s fail = ap not (over_if o a.offer s.0 fail)
not_level o (a ∷ gs) (suc k) s fail = not_level o gs k s.1 fail

pub rises_alone : (o : Offer) (gs : List Alike) (at : ℕ) → Rising comes_before gs → Turns (is_under o) gs at → fits_at o o.returned (slice_get gs at) ≡ false → Rising comes_before (insert gs at (alone o))
rises_alone o gs at rising t fail =
    let put = put_new comes_before weak (alone o) gs at rising t (not_level o gs at (splits o gs at rising t) fail) in
    subst (Rising comes_before) (sym put.0) (rising_put comes_before (chain_of comes_before weak) (alone o) gs rising)

all_same : (a b : Alike) → a.offer ≡ b.offer → (gs : List Alike) → list_all (comes_before a) gs ≡ list_all (comes_before b) gs
all_same a b e [] = refl
all_same a b e (c ∷ gs) = λ i. less (e i) c.offer && all_same a b e gs i

all_kept : (a : Alike) (gs : List Alike) (at n : ℕ) (d : Alike) → list_all (comes_before a) (slice_set gs at (record (slice_index_or gs at d) { left = n })) ≡ list_all (comes_before a) gs
all_kept a [] at n d = refl
all_kept a (b ∷ gs) zero n d = refl
all_kept a (b ∷ gs) (suc k) n d = ap (λ (t : Bool). comes_before a b && t) (all_kept a gs k n d)

-- another count in a place
pub rises_set : (gs : List Alike) (at n : ℕ) (d : Alike) → Rising comes_before gs → Rising comes_before (slice_set gs at (record (slice_index_or gs at d) { left = n }))
rises_set [] at n d rising = tt
rises_set (a ∷ gs) zero n d rising = (all_same (record a { left = n }) a refl gs ∙ rising.0, rising.1)
rises_set (a ∷ gs) (suc k) n d rising = (all_kept a gs k n d ∙ rising.0, rises_set gs k n d rising.1)
