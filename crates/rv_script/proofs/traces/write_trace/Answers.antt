use Rattle.rv_io.proofs.Streams.{goes_then}
use Rattle.rv_script.proofs.Pushes.{trace_parts}
use Rattle.rv_script.proofs.traces.write_trace.Goals as goal

pub returns : goal.returns
returns g c =
    let events = rw c.as_slice.ensures at c.write_events-events.ensures in
    let word = rw (c.as_bytes.ensures.value, c.word.ensures) at c.write_word-strategy.ensures in
    rw trace_parts (goes_then (goes_then (goes_then c.write_next-head.ensures word) events) c.write_counts.ensures)
