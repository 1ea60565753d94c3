use Rattle.std.proofs.Common.{ℕ, ◌<◌, length}
use Rattle.std.specs.List.{slice_index_or}
use Rattle.rv_store.specs.Tables.{table_at}
use Rattle.rv_store.specs.Places.{page_places, HasRange, IsLonger}
use Rattle.rv_store.proofs.places.list_pages.Given as goal

abbrev pub invariant-tables : goal.invariant-tables
invariant-tables l = record {
  longer : IsLonger l.initial.more.items l.more.items;
  has : (k : ℕ) → k < l.at → HasRange (page_places k) l.more.items (slice_index_or l.listed k 0) (length (table_at l.tables k).records.pages);
}
