use Rattle.std.proofs.Common.{ℕ}
use Rattle.rv_store.specs.Indexes.{index_at}
use Rattle.rv_store.specs.Places.{node_places, page_places}
use Rattle.rv_store.specs.Tables.{table_at}
use Rattle.rv_store.proofs.Placing.{listed_none, listed_trans, node_count, page_count}
use Rattle.rv_store.proofs.places.count_places.Goals as goal

pub came-init : goal.came-init
came-init c = record {
  pages = listed_none page_places (λ (t : ℕ). page_count (table_at c.args.tables.now t)) c.args.pages.now.items;
  nodes = listed_none node_places (λ (i : ℕ). node_count (index_at c.args.indexes.now i)) c.args.nodes.now.items;
}

pub came-preserved : goal.came-preserved
came-preserved c = record {
  pages = listed_trans page_places (λ (t : ℕ). page_count (table_at c.args.tables.now t)) c.args.pages.now.items c.came.pages.items c.count_place.new.pages.items c.came.invariant.pages c.count_place.ensures.pages;
  nodes = listed_trans node_places (λ (i : ℕ). node_count (index_at c.args.indexes.now i)) c.args.nodes.now.items c.came.nodes.items c.count_place.new.nodes.items c.came.invariant.nodes c.count_place.ensures.nodes;
}
