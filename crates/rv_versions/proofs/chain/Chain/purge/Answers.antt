use Rattle.std.proofs.Common.{None, ◌-◌, ◌<◌, arith}
use Rattle.rv_versions.specs.Chains.{versions_to}
use Rattle.rv_versions.proofs.Values.{value_from-drop}
use Rattle.rv_versions.proofs.chain.Chain.purge.Goals as goal

pub returns-then-count-ge2-clause-same : goal.returns-then-count-ge2-clause-same
returns-then-count-ge2-clause-same g c snap l =
    let count = rw c.as_slice.ensures.value at c.count_to-count.ensures.count in
    let some : c.count_to-count.result - 1 < versions_to c.args.horizon c.self.inside.versions.items = omega arith in
    rw (← c.self.view_is, c.drop_first.ensures) (value_from-drop None 0 c.args.horizon snap (c.count_to-count.result - 1) c.self.inside.versions.items c.self.invariant l some)
