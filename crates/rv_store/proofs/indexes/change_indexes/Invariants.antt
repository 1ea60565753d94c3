use Rattle.std.proofs.Common.{◌≡◌, ◌+◌, ◌<◌, ◌≤◌, ℕ}
use Rattle.rv_store.specs.Indexes.{index_at, AreIndexesBelow, AreSameIndexes, IsThrough}
use Rattle.rv_store.proofs.indexes.change_indexes.Given as goal

abbrev pub invariant-indexes : goal.invariant-indexes
invariant-indexes l =
    let old = l.initial.indexes.items in
    record {
      same : AreSameIndexes l.commit old l.indexes.items;
      newest : AreIndexesBelow (l.commit + 1) l.indexes.items;
      through : (index : ℕ) → index < l.at → IsThrough l.commit l.changes l.tables (index_at old index) (index_at l.indexes.items index);
      left : (index : ℕ) → l.at ≤ index → index_at l.indexes.items index ≡ index_at old index;
    }
