use Rattle.std.proofs.Common.{◌≡◌}
use Rattle.rv_store.proofs.whole.note_indexes.Given as goal

abbrev pub invariant-indexes : goal.invariant-indexes
invariant-indexes l = record {
  indexes : l.indexes.items ≡ l.initial.indexes.items;
  places : l.places ≡ l.initial.places;
}
