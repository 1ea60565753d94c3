use Rattle.rv_io.proofs.Streams.{goes_then}
use Rattle.rv_script.proofs.traces.write_word.Goals as goal

pub returns : goal.returns
returns g c = goes_then c.write_next-space.ensures c.write_next.ensures
