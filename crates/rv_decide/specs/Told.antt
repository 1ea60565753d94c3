-- The events of a trace by themselves.
use Rattle.std.specs.Prelude.{List}
use Rattle.rv_judge.specs.declared.events.Strategy.{Strategy}
use Rattle.rv_judge.specs.declared.events.Event.{Event}
use Rattle.rv_judge.specs.declared.events.Trace.{Trace}

-- a trace of these events; the course leaves open what it has read
abbrev pub trace_of : Strategy → List Event → Trace
trace_of strategy events =
    record { strategy = strategy; events = record { items = events }; pages = 0; leaves = 0; fetches = 0 }
