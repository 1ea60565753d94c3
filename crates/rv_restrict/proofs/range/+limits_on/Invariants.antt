use Rattle.std.proofs.Common.{length}
use Rattle.rv_restrict.proofs.range.+limits_on.Given as goal

abbrev pub decreases-limits_on : goal.decreases-limits_on
decreases-limits_on l = length l.groups.now
