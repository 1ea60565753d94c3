use Rattle.std.proofs.Common.{length}
use Rattle.rv_audit.proofs.holding.+values_are_held.Given as goal

abbrev pub decreases-values_are_held : goal.decreases-values_are_held
decreases-values_are_held l = length l.values.now
