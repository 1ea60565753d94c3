use Rattle.rv_bounded.proofs.Changes.{changes_bounded}
use Rattle.rv_bounded.proofs.changes_are_bounded.Goals as goal

pub returns : goal.returns
returns c = changes_bounded
