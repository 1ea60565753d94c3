use Rattle.rv_io.proofs.Streams.{goes_then}
use Rattle.rv_script.proofs.values.write_row.Goals as goal

pub returns : goal.returns
returns g c = let values = rw c.as_slice.ensures at c.write_values.ensures in goes_then c.write_next-word.ensures values
