use Rattle.try_stores.proofs.Filling.{filled_none}
use Rattle.try_stores.proofs.trees.fill.filled.Goals as goal

pub rows-init : goal.rows-init
rows-init c = filled_none c.in_ok-tree.tree c.in_ok-tree.ensures
