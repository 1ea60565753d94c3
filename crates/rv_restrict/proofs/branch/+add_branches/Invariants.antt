use Rattle.std.proofs.Common.{length}
use Rattle.rv_restrict.proofs.branch.+add_branches.Given as goal

abbrev pub decreases-add_branches : goal.decreases-add_branches
decreases-add_branches l = length l.atoms.now
