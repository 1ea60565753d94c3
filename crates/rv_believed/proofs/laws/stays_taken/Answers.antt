use Rattle.rv_believed.proofs.TakenStates.{stays_taken}
use Rattle.rv_believed.proofs.laws.stays_taken.Goals as goal

pub returns : goal.returns
returns c = stays_taken
