use Rattle.rv_bounded.proofs.CursorLaws.{raced_cursors_bounded}
use Rattle.rv_bounded.proofs.RacedPlans.{raced_plans_bounded}
use Rattle.rv_bounded.proofs.raced_plans_are_bounded.Goals as goal

pub returns-clause-plans : goal.returns-clause-plans
returns-clause-plans c = raced_plans_bounded

pub returns-clause-cursors : goal.returns-clause-cursors
returns-clause-cursors c = raced_cursors_bounded
