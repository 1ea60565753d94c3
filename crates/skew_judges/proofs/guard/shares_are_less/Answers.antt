use Rattle.skew_judges.proofs.Shares.{are_less}
use Rattle.skew_judges.proofs.guard.shares_are_less.Goals as goal

pub returns : goal.returns
returns c = are_less
