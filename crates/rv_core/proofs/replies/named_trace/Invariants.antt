use Rattle.std.proofs.Common.{◌≡◌, ◌++◌, drop, map}
use Rattle.rv_model.specs.Showing.{shown_event}
use Rattle.rv_core.proofs.replies.named_trace.Given as goal

abbrev pub invariant-events : goal.invariant-events
invariant-events l = l.events.items ++ map (shown_event l.indexes) (drop l.event-index l.trace.events.items) ≡ map (shown_event l.indexes) l.trace.events.items
