use Rattle.std.proofs.Common.{◌∙◌, ◌≡◌, ◌∷◌, ◌++◌, ◌+◌, ◌<◌, [], take, drop, length, sym, ap, subst, List, append_assoc}
use Rattle.std.specs.List.{slice_index_or}
use Rattle.std.proofs.lemmas.List.{take_more}
use Rattle.rv_value.specs.declared.value.Value.{Value}
use Rattle.rv_value.specs.declared.record.Record.{Record}
use Rattle.rv_value.specs.declared.record.IndexEntry.{IndexEntry}
use Rattle.rv_reader.specs.Entries.{comes_before, entry_of}
use Rattle.rv_records.specs.Pages.{page_at, rows_of}
use Rattle.rv_node.specs.Sound.{Absent}
use Rattle.rv_node.specs.Trees.{Whole, inserted}
use Rattle.rv_index.specs.Index.{entries_of, tree_of, IsInserted}
use Rattle.rv_store.specs.Indexing.{tree_over, IsIndexed}
use Rattle.rv_store.proofs.Listing.{absent_pushed, page_apart, row_pushed, tree_over_more}
use Rattle.rv_store.proofs.indexes.index_page.Goals as goal

pub insert-requires-clause-absent : goal.insert-requires-clause-absent
insert-requires-clause-absent c =
    let page = page_at c.args.records.now c.args.snap in
    let n = c.args.n in
    let i = c.rows.row-index in
    let item = c.row-item.result in
    let same = c.rows-row-items.ensures.same in
    let entry : c.in_ok-entry.entry ≡ entry_of c.args.columns.now item = c.in_ok-entry.ensures ∙ ap (λ (vs : List Value). entry_of c.args.columns.now (record { row = item.row; values = vs })) c.as_slice.ensures in
    let inside : i < length (page n) = subst (λ (rs : List Record). i < length rs) same c.rows-test.true in
    let is = subst (λ (rs : List Record). item ≡ slice_index_or rs i item) same c.row-item.is in
    let ascend = page_apart page (length c.args.records.now.pages) n i item item c.requires.there inside is c.requires.ascend in
    subst (λ (e : IndexEntry). Absent comes_before e (entries_of c.rows.tree c.args.snap)) (sym entry)
    (absent_pushed c.args.columns.now c.args.snap (rows_of page n ++ take i (page n)) item (drop (i + 1) (page n)) c.rows.tree ascend c.rows.invariant.indexed)

pub rows-preserved : goal.rows-preserved
rows-preserved c =
    let page = page_at c.args.records.now c.args.snap in
    let n = c.args.n in
    let i = c.rows.row-index in
    let item = c.row-item.result in
    let same = c.rows-row-items.ensures.same in
    let entry : c.in_ok-entry.entry ≡ entry_of c.args.columns.now item = c.in_ok-entry.ensures ∙ ap (λ (vs : List Value). entry_of c.args.columns.now (record { row = item.row; values = vs })) c.as_slice.ensures in
    let inside : i < length (page n) = subst (λ (rs : List Record). i < length rs) same c.rows-test.true in
    let is = subst (λ (rs : List Record). item ≡ slice_index_or rs i item) same c.row-item.is in
    let next : take (i + 1) (page n) ≡ take i (page n) ++ item ∷ [] = take_more (page n) i item inside ∙ ap (λ (x : Record). take i (page n) ++ x ∷ []) (sym is) in
    let grown = subst (λ (e : IndexEntry). IsInserted c.args.snap e c.rows.tree c.insert.new.self) entry c.in_ok-insert.ensures.ok in
    let before = tree_of c.args.tree.now c.args.snap in
    record {
      indexed = subst (λ (rs : List Record). IsIndexed c.args.columns.now rs c.args.snap c.insert.new.self)
          (append_assoc (rows_of page n) (take i (page n)) (item ∷ []) ∙ ap (λ (rs : List Record). rows_of page n ++ rs) (sym next))
          (row_pushed c.args.columns.now c.args.snap (rows_of page n ++ take i (page n)) item c.rows.tree c.insert.new.self c.rows.invariant.indexed grown);
      tree = grown.tree ∙ ap (λ (t : Whole IndexEntry). inserted comes_before (entry_of c.args.columns.now item) t) c.rows.invariant.tree
          ∙ sym (tree_over_more c.args.columns.now (take i (page n)) (item ∷ []) before) ∙ ap (λ (rs : List Record). tree_over c.args.columns.now rs before) (sym next);
      newest = c.insert.ensures.newest;
    }
