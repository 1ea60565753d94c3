use Rattle.try_retrievals.specs.Selecting.{AreIndexes}
use Rattle.try_retrievals.proofs.joins.select.first_indexes.Given as goal

abbrev pub invariant-indexes : goal.invariant-indexes
invariant-indexes l = AreIndexes l.loaded l.index l.indexes.items
