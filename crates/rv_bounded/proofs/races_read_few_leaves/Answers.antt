use Rattle.rv_bounded.proofs.RaceLaws.{races_few}
use Rattle.rv_bounded.proofs.races_read_few_leaves.Goals as goal

pub returns : goal.returns
returns c = races_few
