use Rattle.std.proofs.Common.{length}
use Rattle.rv_join.proofs.level.+pick_into.Given as goal

abbrev pub decreases-pick_into : goal.decreases-pick_into
decreases-pick_into l = length l.columns.now
