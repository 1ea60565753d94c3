use Rattle.std.proofs.Common.{length}
use Rattle.rv_restrict.proofs.part.+same_group.Given as goal

abbrev pub decreases-same_group : goal.decreases-same_group
decreases-same_group l = length l.a.now
