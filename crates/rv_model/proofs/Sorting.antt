-- Sorting: a list of offers in order, with the same offers each as often, is the sorted list.
use Rattle.std.proofs.Common.{◌≡◌, List, refl}
use Rattle.std.specs.List.Sorted.{IsPermutation, IsSorted}
use Rattle.std.specs.declared.cmp.Ordering.TheVariants.{Equal}
use Rattle.rv_value.specs.Order.{values_cmp}
use Rattle.rv_value.proofs.Same.{both_equal, values_same}
use Rattle.rv_value.proofs.Sorting as sorts
use Rattle.rv_value.proofs.Sorting.{IsSort}
use Rattle.rv_model.specs.declared.state.Offer.{Offer}
use Rattle.rv_model.specs.Offers.{offer_cmp, with_offer, offers_in_order}
use Rattle.rv_model.specs.OfferOrder.{offer_cmp_total}

-- offers that compare as equal are the same
offer_same : (a b : Offer) → offer_cmp a b ≡ Equal → a ≡ b
offer_same a b e =
    let parts = both_equal (values_cmp a.order b.order) (values_cmp a.returned b.returned) e in
    let order = values_same a.order b.order parts.0 in
    let returned = values_same a.returned b.returned parts.1 in
    λ i. record { order = order i; returned = returned i }

pub sort_of_offers : IsSort offer_cmp with_offer offers_in_order
sort_of_offers = record {
  total = offer_cmp_total;
  one = offer_same;
  put_first = λ a. refl;
  put_next = λ a x xs. refl;
  none = refl;
  more = λ x xs. refl;
}

-- the same offers, each as often, are the same sorted
pub sorted_moved : (xs ys : List Offer) → IsPermutation xs ys → offers_in_order ys ≡ offers_in_order xs
sorted_moved = sorts.sorted_moved sort_of_offers

-- A list in order with the offers of another, each as often, is the other sorted.
pub sorted_is : (xs ys : List Offer) → IsPermutation xs ys → IsSorted offer_cmp ys → ys ≡ offers_in_order xs
sorted_is = sorts.sorted_is sort_of_offers
