use Rattle.std.proofs.Common.{append_assoc}
use Rattle.rv_gen.specs.Workload.{update_of}
use Rattle.rv_gen.proofs.workload.update_of.Goals as goal

pub returns : goal.returns
unfolding update_of
returns c = simp append_assoc c.in_ok-format.ensures.ok
