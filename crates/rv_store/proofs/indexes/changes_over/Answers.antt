use Rattle.rv_store.proofs.Owning.{own_is, rise_behind}
use Rattle.rv_store.proofs.indexes.changes_over.Goals as goal

pub count_up_to-requires : goal.count_up_to-requires
count_up_to-requires c = rise_behind c.args.table c.args.changes.now c.split_at.result.1.now c.count_before.result c.requires c.split_at.ensures.back c.count_before.ensures.back

pub returns : goal.returns
returns c = own_is c.args.table c.args.changes.now c.split_at.result.1.now c.split_at-2.result.0.now c.count_before.result c.count_up_to.result c.split_at.ensures.back c.split_at-2.ensures.front c.count_before.ensures.back c.count_up_to.ensures.front
