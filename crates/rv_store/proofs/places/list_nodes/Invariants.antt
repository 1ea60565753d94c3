use Rattle.std.proofs.Common.{ℕ, ◌<◌, length}
use Rattle.std.specs.List.{slice_index_or}
use Rattle.rv_store.specs.Indexes.{index_at}
use Rattle.rv_store.specs.Places.{node_places, HasRange, IsLonger}
use Rattle.rv_store.proofs.places.list_nodes.Given as goal

abbrev pub invariant-indexes : goal.invariant-indexes
invariant-indexes l = record {
  longer : IsLonger l.initial.more.items l.more.items;
  has : (k : ℕ) → k < l.at → HasRange (node_places k) l.more.items (slice_index_or l.listed k 0) (length (index_at l.indexes k).tree);
}
