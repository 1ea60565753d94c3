use Rattle.std.proofs.Common.{◌∙◌}
use Rattle.rv_join.proofs.places.indexes_shared.Goals as goal

pub returns : goal.returns
returns c = c.in_ok-shared.ensures ∙ c.in_ok-over.ensures
