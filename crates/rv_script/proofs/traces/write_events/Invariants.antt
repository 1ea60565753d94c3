use Rattle.std.proofs.Common.{◌≡◌, take, flat_map}
use Rattle.rv_io.specs.Pieces.{Goes}
use Rattle.rv_model.specs.Transcript.{words_text, event_words}
use Rattle.rv_script.proofs.traces.write_events.Given as goal

abbrev pub invariant-events : goal.invariant-events
invariant-events g l = Goes l.fn.sofar (g.K.Sink.written l.fn.sink) (g.K.Sink.written l.sink) (g.K.Sink.faults l.fn.sink) (g.K.Sink.faults l.sink) l.written (words_text (flat_map event_words (take l.event-index l.events)))
