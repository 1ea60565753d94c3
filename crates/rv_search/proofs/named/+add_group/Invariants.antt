use Rattle.std.proofs.Common.{length}
use Rattle.rv_search.proofs.named.+add_group.Given as goal

abbrev pub decreases-add_group : goal.decreases-add_group
decreases-add_group l = length l.group.now
