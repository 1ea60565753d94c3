use Rattle.std.proofs.Common.{length}
use Rattle.rv_decide.proofs.course.+reads.Given as goal

abbrev pub decreases-reads : goal.decreases-reads
decreases-reads l = length l.events.now
