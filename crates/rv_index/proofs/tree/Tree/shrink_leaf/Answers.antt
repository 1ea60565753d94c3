use Rattle.rv_index.proofs.Halves.{leaf_node, short_without}
use Rattle.rv_index.proofs.tree.Tree.shrink_leaf.Goals as goal

pub make-requires : goal.make-requires
make-requires c =
    leaf_node c.take_entry.new.entries.items c.new-none.result.items
    (short_without c.args.entry.now c.in_ok-entries.entries.items c.take_entry.new.entries.items c.take_entry.ensures c.in_ok-entries.ensures.parts.short) c.new-none.ensures.items
