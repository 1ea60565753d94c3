use Rattle.std.proofs.Common.{length}
use Rattle.rv_audit.specs.Runs.{AreHeld}
use Rattle.rv_audit.proofs.holding.replies_are_held.Given as goal

abbrev pub invariant-entries : goal.invariant-entries
invariant-entries l = AreHeld l.rest → AreHeld l.entries

abbrev pub decreases-entries : goal.decreases-entries
decreases-entries l = length l.rest
