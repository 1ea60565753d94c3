use Rattle.std.proofs.Common.{length}
use Rattle.rv_join.proofs.level.+width.Given as goal

abbrev pub decreases-width : goal.decreases-width
decreases-width l = length l.columns.now
