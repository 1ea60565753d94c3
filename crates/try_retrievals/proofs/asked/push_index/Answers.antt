use Rattle.std.proofs.Common.{◌∙◌}
use Rattle.try_retrievals.proofs.Asks.{chosen_push}
use Rattle.try_retrievals.proofs.asked.push_index.Goals as goal

pub returns : goal.returns
returns c = rw c.in_ok-push.ensures.items (chosen_push c.args.loaded.now c.args.index c.args.indexes.now.items c.from_vec.result c.requires.chosen c.requires.there c.requires.table (c.from_vec.ensures ∙ c.in_ok-columns.ensures ∙ c.columns_of.ensures))
