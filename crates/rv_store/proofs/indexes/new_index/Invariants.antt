use Rattle.std.proofs.Common.{◌≡◌, ◌+◌}
use Rattle.rv_versions.specs.Chains.{AllChainsBelow}
use Rattle.rv_records.specs.Pages.{page_at, rows_of}
use Rattle.rv_index.specs.Index.{empty_tree, tree_of}
use Rattle.rv_store.specs.Indexing.{tree_over, IsIndexed}
use Rattle.rv_store.proofs.indexes.new_index.Given as goal

abbrev pub invariant-pages : goal.invariant-pages
invariant-pages l = record {
  indexed : IsIndexed l.columns (rows_of (page_at l.records l.snap) l.n) l.snap l.tree;
  tree : tree_of l.tree l.snap ≡ tree_over l.columns (rows_of (page_at l.records l.snap) l.n) empty_tree;
  newest : AllChainsBelow (l.snap + 1) l.tree;
}
