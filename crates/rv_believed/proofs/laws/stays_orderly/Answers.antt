use Rattle.rv_believed.proofs.OrderlyStates.{stays_orderly}
use Rattle.rv_believed.proofs.laws.stays_orderly.Goals as goal

pub returns : goal.returns
returns c = stays_orderly
