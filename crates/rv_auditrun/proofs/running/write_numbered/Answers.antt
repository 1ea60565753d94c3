use Rattle.rv_io.proofs.Streams.{goes_then}
use Rattle.rv_auditrun.proofs.running.write_numbered.Goals as goal

pub returns : goal.returns
returns g c = goes_then (rw c.from.ensures at c.write_number-front.ensures) c.write_next.ensures
