use Rattle.std.proofs.Common.{length}
use Rattle.rv_audit.proofs.holding.+events_are_held.Given as goal

abbrev pub decreases-events_are_held : goal.decreases-events_are_held
decreases-events_are_held l = length l.events.now
