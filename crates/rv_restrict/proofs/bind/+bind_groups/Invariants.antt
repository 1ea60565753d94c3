use Rattle.std.proofs.Common.{length}
use Rattle.rv_restrict.proofs.bind.+bind_groups.Given as goal

abbrev pub decreases-bind_groups : goal.decreases-bind_groups
decreases-bind_groups l = length l.groups.now
