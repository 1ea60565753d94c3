use Rattle.std.proofs.Common.{length}
use Rattle.rv_decide.proofs.truths.+are_true_at.Given as goal

abbrev pub decreases-are_true_at : goal.decreases-are_true_at
decreases-are_true_at g l = length l.groups.now
