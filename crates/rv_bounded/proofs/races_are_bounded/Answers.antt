use Rattle.rv_bounded.proofs.RaceCosts.{races_bounded}
use Rattle.rv_bounded.proofs.races_are_bounded.Goals as goal

pub returns : goal.returns
returns c = races_bounded
