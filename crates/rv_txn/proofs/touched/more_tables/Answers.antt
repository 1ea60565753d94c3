use Rattle.rv_txn.proofs.Touching.{untouched_more}
use Rattle.rv_txn.proofs.touched.more_tables.Goals as goal

pub tables-preserved : goal.tables-preserved
tables-preserved c = rw (c.in_ok-push.ensures.items, c.tables.invariant, c.new.ensures) (untouched_more c.tables._table)
