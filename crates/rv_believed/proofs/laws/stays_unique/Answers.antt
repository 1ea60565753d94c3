use Rattle.rv_believed.proofs.UniqueStates.{stays_unique}
use Rattle.rv_believed.proofs.laws.stays_unique.Goals as goal

pub returns : goal.returns
returns c = stays_unique
