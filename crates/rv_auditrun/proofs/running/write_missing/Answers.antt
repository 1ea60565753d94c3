use Rattle.rv_io.proofs.Streams.{goes_then}
use Rattle.rv_auditrun.proofs.running.write_missing.Goals as goal

pub returns : goal.returns
returns g c =
    let session = rw c.from.ensures at c.write_number-front.ensures in
    let phase = rw c.from-2.ensures at c.write_number-all.ensures in
    goes_then (goes_then session phase) c.write_next.ensures
