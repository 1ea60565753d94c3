use Rattle.rv_io.proofs.Streams.{goes_then}
use Rattle.rv_script.proofs.transcript.write_two.Goals as goal

pub returns : goal.returns
returns g c = goes_then c.write_next-front.ensures c.write_next.ensures
