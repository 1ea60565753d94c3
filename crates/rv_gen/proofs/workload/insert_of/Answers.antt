use Rattle.std.proofs.Common.{append_assoc}
use Rattle.rv_gen.specs.Workload.{insert_of}
use Rattle.rv_gen.proofs.workload.insert_of.Goals as goal

pub returns : goal.returns
unfolding insert_of
returns c = simp append_assoc c.in_ok-format.ensures.ok
