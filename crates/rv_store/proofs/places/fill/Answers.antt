use Rattle.std.proofs.Common.{◌≡◌, ◌∙◌, ap, sym}
use Rattle.std.specs.List.{slice_index_or}
use Rattle.rv_value.proofs.Places.{default_behind}
use Rattle.rv_store.proofs.places.fill.Goals as goal

pub counts-preserved : goal.counts-preserved
counts-preserved c at = rw c.in_ok-push.ensures.items (default_behind c.counts.counts.items at 0 ∙ c.counts.invariant at)
