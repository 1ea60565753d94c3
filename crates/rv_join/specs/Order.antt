-- The order that comes from an index of the first FROM item.
use Rattle.std.specs.Prelude.{◌≡◌, Bool, false, List, map}
use Rattle.std.specs.List.{Contains}
use Rattle.std.specs.Ordering.{is_lt}
use Rattle.rv_value.specs.Order.{values_cmp}
use Rattle.rv_model.specs.declared.state.Offer.{Offer}
use Rattle.rv_reader.specs.Shown.{Shown}
use Rattle.rv_join.specs.declared.places.Asked.{Asked}
use Rattle.rv_join.specs.declared.level.Level.{Level}
use Rattle.rv_join.specs.Asking.{col_at, item_at}
use Rattle.rv_join.specs.Levels.{Stacked, bag, given, over_held, still}

-- by the order values alone
abbrev pub before : Offer → Offer → Bool
before x y = is_lt (values_cmp x.order y.order)

-- each of some offers is least of the others
abbrev pub Lead : List Offer → List Offer → Type 0
Lead some others = (d e : Offer) → Contains some d → Contains others e → before e d ≡ false

-- none of these comes before an offer
abbrev pub IsLeastOf : Offer → List Offer → Type 0
IsLeastOf o offers = (e : Offer) → Contains offers e → before e o ≡ false

-- the plan's order columns are those that the first item's rows come by
pub record IsByFirst (a : Asked) : Type 0 where
  pub columns : a.order ≡ map (col_at 0) (item_at a 0).order

-- what is over the row that the first level gave last is least of all
abbrev pub Led : Asked → Shown → Stacked → Type 0
Led a shown v = Lead (given a shown v) (bag a shown v)

-- the same of a first level with nothing open over its row
abbrev pub LevelLed : Asked → Shown → Level → Type 0
LevelLed a shown l = Lead (over_held a shown l l.row) (still a shown l)
