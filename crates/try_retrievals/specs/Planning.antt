-- A plan that is driven to its end.
use Rattle.std.specs.Prelude.{◌≡◌, List, ◌++◌}
use Rattle.std.specs.List.Sorted.{IsPermutation}
use Rattle.rv_model.specs.declared.state.Offer.{Offer}
use Rattle.rv_reader.specs.Shown.{Shown}
use Rattle.rv_join.specs.Plans.{PlanFits, Planned, plan_rest}

-- what was given and what is left are what was due, each as often
pub record Gives (shown : Shown) (due given : List Offer) (p : Planned) : Type 0 where
  pub fits : PlanFits shown p
  pub whole : IsPermutation due (given ++ plan_rest shown p)

-- pieces leave the rest
pub record Stays (shown : Shown) (old new : Planned) : Type 0 where
  pub fits : PlanFits shown new
  pub left : plan_rest shown new ≡ plan_rest shown old
