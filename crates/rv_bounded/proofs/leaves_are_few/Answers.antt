use Rattle.rv_bounded.proofs.Laws.{leaves_few}
use Rattle.rv_bounded.proofs.leaves_are_few.Goals as goal

pub returns : goal.returns
returns c = leaves_few
