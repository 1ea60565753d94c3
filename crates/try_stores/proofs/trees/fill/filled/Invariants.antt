use Rattle.try_stores.specs.Filled.{IsFilled}
use Rattle.try_stores.proofs.trees.fill.filled.Given as goal

abbrev pub invariant-rows : goal.invariant-rows
invariant-rows l = IsFilled l.row l.tree
