use Rattle.rv_io.proofs.Streams.{goes_then}
use Rattle.std.proofs.Common.{arith}
use Rattle.std.proofs.lemmas.List.{take_more}
use Rattle.rv_script.proofs.Pushes.{events-push}
use Rattle.rv_script.proofs.traces.write_events.Goals as goal

pub events-preserved : goal.events-preserved
events-preserved g c =
    let one = take_more c.args.events.now c.events.event-index c.event-item.result (omega arith) in
    rw (one, ← c.event-item.is, events-push) (goes_then c.events.invariant c.write_event-written.ensures)
