use Rattle.rv_bounded.proofs.UnionLaws.{unions_few}
use Rattle.rv_bounded.proofs.unions_read_few_leaves.Goals as goal

pub returns : goal.returns
returns c = unions_few
