use Rattle.rv_io.proofs.Streams.{goes_then}
use Rattle.rv_script.proofs.transcript.write_duplicate.Goals as goal

pub returns : goal.returns
returns g c = goes_then c.write_number-front.ensures c.write_rival.ensures
