use Rattle.skew_judges.proofs.Guarding.{are_bounded}
use Rattle.skew_judges.proofs.guard.Bounded.new.Goals as goal

pub returns-clause-bounded : goal.returns-clause-bounded
returns-clause-bounded g c = are_bounded (g.J.Judge.would c.args.judge)
