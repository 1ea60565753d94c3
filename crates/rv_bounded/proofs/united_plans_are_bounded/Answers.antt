use Rattle.rv_bounded.proofs.CursorLaws.{united_cursors_bounded}
use Rattle.rv_bounded.proofs.UnitedPlans.{united_plans_bounded}
use Rattle.rv_bounded.proofs.united_plans_are_bounded.Goals as goal

pub returns-clause-plans : goal.returns-clause-plans
returns-clause-plans c = united_plans_bounded

pub returns-clause-cursors : goal.returns-clause-cursors
returns-clause-cursors c = united_cursors_bounded
