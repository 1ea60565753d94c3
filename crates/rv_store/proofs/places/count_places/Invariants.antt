use Rattle.std.proofs.Common.{ℕ}
use Rattle.rv_store.specs.Indexes.{index_at}
use Rattle.rv_store.specs.Places.{node_places, page_places, AreListed}
use Rattle.rv_store.specs.Tables.{table_at}
use Rattle.rv_store.proofs.Placing.{node_count, page_count}
use Rattle.rv_store.proofs.places.count_places.Given as goal

abbrev pub invariant-came : goal.invariant-came
invariant-came l = record {
  pages : AreListed page_places (λ (t : ℕ). page_count (table_at l.tables t)) l.initial.pages.items l.pages.items;
  nodes : AreListed node_places (λ (i : ℕ). node_count (index_at l.indexes i)) l.initial.nodes.items l.nodes.items;
}
