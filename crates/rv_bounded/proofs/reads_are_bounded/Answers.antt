use Rattle.rv_bounded.proofs.WholeLaws.{reads_bounded}
use Rattle.rv_bounded.proofs.reads_are_bounded.Goals as goal

pub returns : goal.returns
returns c = reads_bounded
