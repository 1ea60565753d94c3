use Rattle.std.proofs.Common.{◌∙◌, ap, sym, List}
use Rattle.rv_value.specs.declared.record.Record.{Record}
use Rattle.rv_value.specs.declared.record.IndexEntry.{IndexEntry}
use Rattle.rv_records.specs.Pages.{page_at, rows_of}
use Rattle.rv_node.specs.Trees.{Whole}
use Rattle.rv_index.specs.Index.{empty_tree}
use Rattle.rv_store.specs.Indexing.{tree_over}
use Rattle.rv_store.proofs.Listing.{new_indexed, new_newest, rows_more, tree_over_more}
use Rattle.rv_store.proofs.indexes.new_index.Goals as goal

pub pages-init : goal.pages-init
pages-init c = record {
  indexed = new_indexed c.args.columns.now c.args.snap c.in_ok-tree.tree c.in_ok-tree.ensures;
  tree = c.in_ok-tree.ensures.tree c.args.snap;
  newest = new_newest c.args.snap c.in_ok-tree.tree c.in_ok-tree.ensures;
}

pub pages-preserved : goal.pages-preserved
pages-preserved c =
    let page = page_at c.args.records.now c.args.snap in
    let n = c.pages.n in
    let columns = c.args.columns.now in
    record {
      indexed = c.in-Ok.ensures.ok;
      tree = c.in-Ok.ensures.tree ∙ ap (λ (t : Whole IndexEntry). tree_over columns (page n) t) c.pages.invariant.tree ∙ sym (tree_over_more columns (rows_of page n) (page n) empty_tree)
          ∙ ap (λ (rs : List Record). tree_over columns rs empty_tree) (sym (rows_more page n));
      newest = c.index_page.ensures.newest;
    }
