use Rattle.std.proofs.Common.{length}
use Rattle.rv_decide.proofs.truths.+is_true.Given as goal

abbrev pub decreases-is_true : goal.decreases-is_true
decreases-is_true g l = length l.atoms.now
