use Rattle.std.proofs.Common.{◌≡◌, drop}
use Rattle.rv_decide.specs.Reading.{events_of}
use Rattle.rv_decide.proofs.Shown.{behind}
use Rattle.rv_decide.proofs.showing.events_of.Given as goal

abbrev pub invariant-shown : goal.invariant-shown
invariant-shown l = behind l.events.items (events_of l.indexes l.table (drop l.event-index l.shown)) ≡ events_of l.indexes l.table l.shown
