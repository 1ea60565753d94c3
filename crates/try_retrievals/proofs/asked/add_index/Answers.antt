use Rattle.try_retrievals.proofs.Asks.{chosen_same}
use Rattle.try_retrievals.proofs.asked.add_index.Goals as goal

pub returns : goal.returns
returns c = chosen_same c.args.loaded.now c.args.index c.args.indexes.now.items c.requires
