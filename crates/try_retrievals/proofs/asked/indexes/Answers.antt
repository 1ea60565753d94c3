use Rattle.try_retrievals.proofs.Asks.{chosen_none}
use Rattle.try_retrievals.proofs.asked.indexes.Goals as goal

pub add_index-requires : goal.add_index-requires
add_index-requires c = rw c.new-indexes.ensures.items (chosen_none c.args.loaded.now)
