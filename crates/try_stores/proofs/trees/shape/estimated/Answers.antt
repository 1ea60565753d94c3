use Rattle.try_stores.proofs.Filling.{long_entries, long_cuts}
use Rattle.try_stores.proofs.trees.shape.estimated.Goals as goal

pub split-requires-clause-long : goal.split-requires-clause-long
split-requires-clause-long c = long_entries c.args.count c.args.tree.now c.args.range.now c.requires.filled c.requires.narrow

pub split-requires-clause-long_cuts : goal.split-requires-clause-long_cuts
split-requires-clause-long_cuts c = long_cuts c.args.count c.args.tree.now c.args.range.now c.requires.filled c.requires.narrow
