use Rattle.rv_sums.proofs.Fetching.{unions_few}
use Rattle.rv_sums.proofs.laws.unions_fetch_few.Goals as goal

pub returns : goal.returns
returns c = unions_few
