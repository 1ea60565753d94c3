-- A law, proved: the order of offers is total. The comparisons of the code cite it.
use Rattle.std.specs.Cmp.{IsTotalOrder, on_total, then_total}
use Rattle.rv_value.specs.Orders.{values_cmp_total}
use Rattle.rv_model.specs.declared.state.Offer.{Offer}
use Rattle.rv_model.specs.Offers.{offer_cmp}

pub offer_cmp_total : IsTotalOrder offer_cmp
offer_cmp_total =
    then_total (on_total (λ (o : Offer). o.order) values_cmp_total)
    (on_total (λ (o : Offer). o.returned) values_cmp_total)
