use Rattle.std.proofs.Common.{length}
use Rattle.rv_restrict.proofs.range.+equal_on.Given as goal

abbrev pub decreases-equal_on : goal.decreases-equal_on
decreases-equal_on l = length l.groups.now
