use Rattle.std.proofs.Common.{length}
use Rattle.rv_restrict.proofs.truth.+least_group.Given as goal

abbrev pub decreases-least_group : goal.decreases-least_group
decreases-least_group g l = length l.groups.now
