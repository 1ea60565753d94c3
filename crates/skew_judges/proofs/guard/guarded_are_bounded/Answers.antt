use Rattle.skew_judges.proofs.Guarding.{are_bounded}
use Rattle.skew_judges.proofs.guard.guarded_are_bounded.Goals as goal

pub returns : goal.returns
returns c = are_bounded
