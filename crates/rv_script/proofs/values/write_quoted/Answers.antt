use Rattle.rv_io.proofs.Streams.{goes_then}
use Rattle.rv_script.proofs.values.write_quoted.Goals as goal

pub returns : goal.returns
returns g c = goes_then (goes_then c.write_next-quote.ensures c.write_doubled-inner.ensures) c.write_next.ensures
