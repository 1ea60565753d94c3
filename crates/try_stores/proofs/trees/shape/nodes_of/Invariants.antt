use Rattle.std.proofs.Common.{◌≤◌}
use Rattle.try_stores.proofs.trees.shape.nodes_of.Given as goal

abbrev pub invariant-ids : goal.invariant-ids
invariant-ids l = l.count ≤ l.id
