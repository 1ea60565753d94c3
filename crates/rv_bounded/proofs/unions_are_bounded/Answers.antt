use Rattle.rv_bounded.proofs.UnionCosts.{unions_bounded}
use Rattle.rv_bounded.proofs.unions_are_bounded.Goals as goal

pub returns : goal.returns
returns c = unions_bounded
