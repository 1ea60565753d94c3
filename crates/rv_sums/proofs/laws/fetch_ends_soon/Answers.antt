use Rattle.rv_sums.proofs.Ending.{fetch_ends}
use Rattle.rv_sums.proofs.laws.fetch_ends_soon.Goals as goal

pub returns : goal.returns
returns c = fetch_ends
