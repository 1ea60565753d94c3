use Rattle.std.proofs.Common.{◌≤◌, ◌*◌}
use Rattle.try_stores.proofs.trees.shape.read.Given as goal

abbrev pub invariant-leaves : goal.invariant-leaves
invariant-leaves l = record {
  leaves : l.leaves ≤ l.place;
  entries : l.entries ≤ 48 * l.leaves;
}
