use Rattle.rv_io.proofs.Streams.{goes_then}
use Rattle.rv_gen.proofs.summary.write_summary.Goals as goal

pub returns : goal.returns
returns g c = goes_then (goes_then (goes_then (goes_then c.write_count-calls.ensures c.write_count-rows.ensures) c.write_count-ends.ensures) c.write_count-commits.ensures) c.write_count.ensures
