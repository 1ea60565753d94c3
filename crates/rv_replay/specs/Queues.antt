-- What a cursor has left to offer, equal offers together.
use Rattle.std.specs.Prelude.{◌≡◌, ℕ, ◌+◌, ◌-◌, ◌<◌, ◌≤◌, List, [], Bool, false, ◌&&◌, Option, Some, None, IsSome, length, nat_lt, replicate, slice_set}
use Rattle.std.specs.List.{flat_map, slice_index_or}
use Rattle.std.specs.Ordering.{is_lt}
use Rattle.rv_value.specs.declared.value.Value.{Value}
use Rattle.rv_rows.specs.Rising.{Rising}
use Rattle.rv_model.specs.declared.state.Offer.{Offer}
use Rattle.rv_model.specs.Offers.{offer_cmp, place_of, without}
use Rattle.rv_replay.specs.Judging.{fits}
use Rattle.rv_replay.specs.declared.queues.Alike.{Alike}

-- equal offers, as many as are left
abbrev pub those : Alike → List Offer
those a = replicate a.left a.offer

-- all offers that are left
abbrev pub all_of : List Alike → List Offer
all_of alike = flat_map those alike

-- what stands behind the last ones
abbrev pub no_alike : Alike
no_alike = record { offer = record { order = []; returned = [] }; left = 0 }

abbrev pub alike_at : List Alike → ℕ → Alike
alike_at alike place = slice_index_or alike place no_alike

-- with one more of those in a place, and with one of them less
abbrev pub one_more : List Alike → ℕ → List Alike
one_more alike place = slice_set alike place (record (alike_at alike place) { left = (alike_at alike place).left + 1 })

abbrev pub one_less : List Alike → ℕ → List Alike
one_less alike place = slice_set alike place (record (alike_at alike place) { left = (alike_at alike place).left - 1 })

abbrev pub comes_before : Alike → Alike → Bool
comes_before a b = is_lt (offer_cmp a.offer b.offer)

-- whether they come before an offer
abbrev pub is_under : Offer → Alike → Bool
is_under o a = is_lt (offer_cmp a.offer o)

-- whether those in a place return these values with the first offer's order values
abbrev pub fits_at : Offer → List Value → Option Alike → Bool
fits_at first values None = false
fits_at first values (Some a) = fits first values a.offer

-- and one of them is left
abbrev pub may_give : Offer → List Value → Option Alike → Bool
may_give first values None = false
may_give first values (Some a) = nat_lt 0 a.left && fits first values a.offer

-- none is left before a place
pub record AreTaken (alike : List Alike) (front : ℕ) : Type 0 where
  pub taken : (place : ℕ) → place < front → (alike_at alike place).left ≡ 0

-- the first place of which one is left, or the end
pub record IsFront (front : ℕ) (alike : List Alike) : Type 0 where
  pub within : front ≤ length alike
  pub before : AreTaken alike front
  pub some : front < length alike → 0 < (alike_at alike front).left

-- what always holds of a queue: its offers rise, equal ones together, and it knows the first
pub record IsQueue (front : ℕ) (alike : List Alike) : Type 0 where
  pub rises : Rising comes_before alike
  pub first : IsFront front alike

-- one of those in a place may be given, and taking it is what the definition does
pub record TakesOut (alike : List Alike) (values : List Value) (place : ℕ) : Type 0 where
  pub within : place < length alike
  pub some : 0 < (alike_at alike place).left
  pub may : IsSome (place_of (all_of alike) values)
  pub rest : all_of (one_less alike place) ≡ without (place_of (all_of alike) values) (all_of alike)

-- the place of those of which one may be given; none where none may
abbrev pub IsGiven : List Alike → List Value → Option ℕ → Type 0
IsGiven alike values None = place_of (all_of alike) values ≡ None
IsGiven alike values (Some place) = TakesOut alike values place
