use Rattle.std.proofs.Common.{subst, sym}
use Rattle.rv_reader.specs.Entries.{Ascend}
use Rattle.rv_index.proofs.Halves.{few_placed}
use Rattle.rv_index.proofs.tree.Tree.grow_leaf.Goals as goal

pub store-requires-clause-few : goal.store-requires-clause-few
store-requires-clause-few c = few_placed c.args.entry c.in_ok-entries.entries.items c.put_entry.new.entries.items c.in_ok-put_entry.ensures c.in_ok-entries.ensures.parts.short

pub put_entry-requires : goal.put_entry-requires
put_entry-requires c = subst Ascend (sym c.in_ok-entries.ensures.parts.entries_are) c.requires.ascend
