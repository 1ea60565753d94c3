use Rattle.rv_believed.proofs.Resolution.{resolution_same}
use Rattle.rv_believed.proofs.laws.resolution_is_same.Goals as goal

pub returns : goal.returns
returns c = resolution_same
