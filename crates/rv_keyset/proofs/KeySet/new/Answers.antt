use Rattle.std.proofs.Common.{arith}
use Rattle.std.specs.Vec.{vec_capacity}
use Rattle.rv_keyset.proofs.Lists.{no_runs}
use Rattle.rv_keyset.proofs.KeySet.new.Goals as goal

pub invariant_of-result : goal.invariant_of-result
invariant_of-result c =
    let places = c.in_ok-with_capacity.ensures.exact in
    no_runs c.in_ok-with_capacity.field-0.items (vec_capacity c.in_ok-with_capacity.field-0) c.in_ok-with_capacity.ensures.items (omega arith)
