use Rattle.std.proofs.Common.{append_assoc}
use Rattle.rv_gen.specs.Workload.{open_of}
use Rattle.rv_gen.proofs.workload.open_of.Goals as goal

pub returns : goal.returns
unfolding open_of
returns c = let told = rw c.goal-goal.ensures at c.in_ok-format.ensures.ok in simp append_assoc told
