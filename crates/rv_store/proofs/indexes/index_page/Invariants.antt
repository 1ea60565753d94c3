use Rattle.std.proofs.Common.{◌≡◌, ◌++◌, ◌+◌, take}
use Rattle.rv_versions.specs.Chains.{AllChainsBelow}
use Rattle.rv_records.specs.Pages.{page_at, rows_of}
use Rattle.rv_index.specs.Index.{tree_of}
use Rattle.rv_store.specs.Indexing.{tree_over, IsIndexed}
use Rattle.rv_store.proofs.indexes.index_page.Given as goal

abbrev pub invariant-rows : goal.invariant-rows
invariant-rows l =
    let page = page_at l.records l.snap in
    record {
      indexed : IsIndexed l.columns (rows_of page l.n ++ take l.row-index (page l.n)) l.snap l.tree;
      tree : tree_of l.tree l.snap ≡ tree_over l.columns (take l.row-index (page l.n)) (tree_of l.initial.tree l.snap);
      newest : AllChainsBelow (l.snap + 1) l.tree;
    }
