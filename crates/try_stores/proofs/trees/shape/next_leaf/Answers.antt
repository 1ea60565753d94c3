use Rattle.try_stores.proofs.Filling.{long_entries, long_cuts}
use Rattle.try_stores.proofs.trees.shape.next_leaf.Goals as goal

pub chunk-chunk-requires-clause-long : goal.chunk-chunk-requires-clause-long
chunk-chunk-requires-clause-long c = long_entries c.args.count c.args.tree.now c.args.range.now c.requires.filled c.requires.narrow

pub chunk-chunk-requires-clause-long_cuts : goal.chunk-chunk-requires-clause-long_cuts
chunk-chunk-requires-clause-long_cuts c = long_cuts c.args.count c.args.tree.now c.args.range.now c.requires.filled c.requires.narrow
