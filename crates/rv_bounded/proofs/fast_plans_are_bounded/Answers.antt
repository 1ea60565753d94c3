use Rattle.rv_bounded.proofs.PlanLaws.{fast_plans_bounded}
use Rattle.rv_bounded.proofs.fast_plans_are_bounded.Goals as goal

pub returns : goal.returns
returns c = fast_plans_bounded
