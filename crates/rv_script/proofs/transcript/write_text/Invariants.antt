use Rattle.std.proofs.Common.{◌≡◌, ℕ, List, take, Ok, ◌≤◌}
use Rattle.rv_io.specs.Pieces.{Goes}
use Rattle.rv_model.specs.Transcript.{text, more_text}
use Rattle.rv_script.proofs.transcript.write_text.Given as goal

abbrev pub invariant-entries : goal.invariant-entries
invariant-entries g l = Goes (Ok tt) (g.K.Sink.written l.fn.sink) (g.K.Sink.written l.sink) (g.K.Sink.faults l.fn.sink) (g.K.Sink.faults l.sink) l.sofar (text (take l.entry-index l.entries))
