use Rattle.rv_io.proofs.Streams.{goes_then}
use Rattle.rv_gen.proofs.summary.write_count.Goals as goal

pub returns : goal.returns
returns g c = goes_then c.write_number-number.ensures c.write_next.ensures
