-- What a cursor has to offer.
use Rattle.std.specs.Prelude.{◌≡◌, ℕ, List, [], ◌∷◌, Bool, ◌&&◌, Option, Some, None, IsSome, position, filter, map, remove, if◌then◌else◌}
use Rattle.std.specs.List.{slice_index_or}
use Rattle.std.specs.Ordering.{is_eq, is_lt, ordering_then}
use Rattle.std.specs.declared.cmp.Ordering.{Ordering}
use Rattle.rv_value.specs.declared.value.Value.{Value}
use Rattle.rv_value.specs.declared.record.Record.{Record}
use Rattle.rv_value.specs.Order.{values_cmp}
use Rattle.rv_restrict.specs.declared.atom.ColRef.{ColRef}
use Rattle.rv_restrict.specs.Truth.{qualifies, row_reads}
use Rattle.rv_catalog.specs.declared.def.Select.{Select}
use Rattle.rv_model.specs.declared.state.Offer.{Offer}

-- the order of offers: by the order values, then by the values returned
abbrev pub offer_cmp : Offer → Offer → Ordering
offer_cmp a b = ordering_then (values_cmp a.order b.order) (values_cmp a.returned b.returned)

-- offers in order with one more in its place
abbrev pub with_offer : Offer → List Offer → List Offer
with_offer o [] = o ∷ []
with_offer o (x ∷ xs) = if is_lt (offer_cmp x o) then x ∷ with_offer o xs else o ∷ x ∷ xs

-- the same offers, each as often, in order
abbrev pub offers_in_order : List Offer → List Offer
offers_in_order [] = []
offers_in_order (o ∷ os) = with_offer o (offers_in_order os)

-- equal in the order of values
abbrev pub same_values : List Value → List Value → Bool
same_values a b = is_eq (values_cmp a b)

-- the place of the first offer that returns these values with the first offer's order values
abbrev pub place_of : List Offer → List Value → Option ℕ
place_of [] values = None
place_of (first ∷ more) values = position (λ (o : Offer).
    is_eq (values_cmp o.order first.order) && is_eq (values_cmp o.returned values)) (first ∷ more)

abbrev pub without : Option ℕ → List Offer → List Offer
without None offers = offers
without (Some place) offers = remove offers place
