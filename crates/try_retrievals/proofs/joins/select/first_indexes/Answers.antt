use Rattle.try_retrievals.proofs.Selects.{indexes_more}
use Rattle.try_retrievals.proofs.joins.select.first_indexes.Goals as goal

pub indexes-preserved : goal.indexes-preserved
indexes-preserved c = rw c.in_ok-push.ensures.items (indexes_more c.args.loaded.now c.indexes.index c.indexes.indexes.items c.in_ok-index_def.field-0 c.indexes.invariant c.in_ok-index_def.ensures.table c.in_ok-index_def.ensures.columns)
