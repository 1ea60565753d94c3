use Rattle.rv_bounded.proofs.Searches.{searches_bounded}
use Rattle.rv_bounded.proofs.searches_are_bounded.Goals as goal

pub returns : goal.returns
returns c = searches_bounded
