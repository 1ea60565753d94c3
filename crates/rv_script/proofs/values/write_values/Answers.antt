use Rattle.std.proofs.Common.{arith}
use Rattle.rv_io.proofs.Streams.{goes_then}
use Rattle.rv_script.proofs.Pushes.{values_split}
use Rattle.rv_script.proofs.values.write_values.Goals as goal

pub returns-in-len1-up : goal.returns-in-len1-up
returns-in-len1-up g c = rw (values_split c.args.values.now c.first-item.result c.in-len1-up.len_at_least c.first-item.is) (goes_then c.write_value-front.ensures c.write_more.ensures)
