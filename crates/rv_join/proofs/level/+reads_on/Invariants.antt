use Rattle.std.proofs.Common.{length}
use Rattle.rv_join.proofs.level.+reads_on.Given as goal

abbrev pub decreases-reads_on : goal.decreases-reads_on
decreases-reads_on l = length l.columns.now
