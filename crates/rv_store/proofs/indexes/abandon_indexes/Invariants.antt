use Rattle.std.proofs.Common.{◌+◌, ◌<◌, ◌≤◌, ℕ, length}
use Rattle.rv_versions.specs.Chains.{AllChainsBelow}
use Rattle.rv_store.specs.Indexes.{index_at, AreIndexesBelow, AreSameIndexes}
use Rattle.rv_store.proofs.indexes.abandon_indexes.Given as goal

abbrev pub invariant-indexes : goal.invariant-indexes
invariant-indexes l = record {
  same : AreSameIndexes l.commit l.initial.indexes.items l.indexes.items;
  newest : AreIndexesBelow (l.commit + 1) l.indexes.items;
  below : (index : ℕ) → index < l.at → AllChainsBelow l.commit (index_at l.indexes.items index).tree;
  few : (index : ℕ) → index < l.at → length (index_at l.indexes.items index).tree ≤ 4294967296;
}
