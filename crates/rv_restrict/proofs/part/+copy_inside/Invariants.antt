use Rattle.std.proofs.Common.{length}
use Rattle.rv_restrict.proofs.part.+copy_inside.Given as goal

abbrev pub decreases-copy_inside : goal.decreases-copy_inside
decreases-copy_inside l = length l.groups.now
