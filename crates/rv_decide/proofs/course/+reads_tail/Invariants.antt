use Rattle.std.proofs.Common.{length}
use Rattle.rv_decide.proofs.course.+reads_tail.Given as goal

abbrev pub decreases-reads_tail : goal.decreases-reads_tail
decreases-reads_tail l = length l.events.now
