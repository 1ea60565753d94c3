use Rattle.std.proofs.Common.{◌≡◌, ℕ, List, take, Ok, ◌≤◌}
use Rattle.rv_io.specs.Pieces.{Goes}
use Rattle.rv_model.specs.Transcript.{text, more_text}
use Rattle.rv_script.proofs.values.write_more.Given as goal

abbrev pub invariant-loop-value : goal.invariant-loop-value
invariant-loop-value g l = Goes l.fn.sofar (g.K.Sink.written l.fn.sink) (g.K.Sink.written l.sink) (g.K.Sink.faults l.fn.sink) (g.K.Sink.faults l.sink) l.written (more_text (take l.value-index l.values))
