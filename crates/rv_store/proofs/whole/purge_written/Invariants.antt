use Rattle.rv_store.specs.Places.{AreIndexesFrom, AreSameFrom}
use Rattle.rv_store.proofs.whole.purge_written.Given as goal

abbrev pub invariant-written : goal.invariant-written
invariant-written l = record {
  tables : AreSameFrom l.horizon l.initial.tables.items l.tables.items;
  indexes : AreIndexesFrom l.horizon l.initial.indexes.items l.indexes.items;
}
