use Rattle.rv_store.proofs.Turning.{from_itself, from_trans, indexes_from_trans, indexes_itself}
use Rattle.rv_store.proofs.whole.purge_written.Goals as goal

pub written-init : goal.written-init
written-init c = record {
  tables = from_itself c.args.horizon c.args.tables.now.items;
  indexes = indexes_itself c.args.horizon c.args.indexes.now.items;
}

pub written-preserved : goal.written-preserved
written-preserved c = record {
  tables = from_trans c.args.horizon c.args.tables.now.items c.written.tables.items c.purge_place.new.tables.items c.written.invariant.tables c.purge_place.ensures.tables;
  indexes = indexes_from_trans c.args.horizon c.args.indexes.now.items c.written.indexes.items c.purge_place.new.indexes.items c.written.invariant.indexes c.purge_place.ensures.indexes;
}
