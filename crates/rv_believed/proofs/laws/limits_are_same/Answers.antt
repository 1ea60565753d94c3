use Rattle.rv_believed.proofs.LimitsSame.{limits_same}
use Rattle.rv_believed.proofs.laws.limits_are_same.Goals as goal

pub returns : goal.returns
returns c = limits_same
