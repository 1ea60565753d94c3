use Rattle.rv_bounded.proofs.PlanLaws.{plans_bounded}
use Rattle.rv_bounded.proofs.plans_are_bounded.Goals as goal

pub returns : goal.returns
returns c = plans_bounded
