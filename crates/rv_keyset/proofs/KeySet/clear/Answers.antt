use Rattle.std.proofs.Common.{arith}
use Rattle.std.specs.Vec.{vec_capacity}
use Rattle.rv_keyset.proofs.Lists.{no_runs}
use Rattle.rv_keyset.proofs.KeySet.clear.Goals as goal

pub invariant_of-self : goal.invariant_of-self
invariant_of-self c =
    let places = c.self.invariant.place in
    let same = c.clear.ensures.capacity in
    no_runs c.clear.new.self.items (vec_capacity c.clear.new.self) c.clear.ensures.items (omega arith)
