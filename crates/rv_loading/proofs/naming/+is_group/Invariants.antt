use Rattle.std.proofs.Common.{length}
use Rattle.rv_loading.proofs.naming.+is_group.Given as goal

abbrev pub decreases-is_group : goal.decreases-is_group
decreases-is_group l = length l.group.now
