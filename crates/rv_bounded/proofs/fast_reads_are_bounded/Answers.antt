use Rattle.rv_bounded.proofs.FastLaws.{fast_bounded}
use Rattle.rv_bounded.proofs.fast_reads_are_bounded.Goals as goal

pub returns : goal.returns
returns c = fast_bounded
