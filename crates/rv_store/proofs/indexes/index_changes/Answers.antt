use Rattle.std.proofs.Common.{◌≡◌, ◌∙◌, List, OnOk, ap, subst}
use Rattle.rv_value.specs.declared.record.IndexEntry.{IndexEntry}
use Rattle.rv_value.specs.declared.record.Record.{Record}
use Rattle.rv_rows.specs.declared.changes.Change.{Change}
use Rattle.rv_rows.specs.Changes.{rows_with_changes}
use Rattle.rv_records.specs.Pages.{rows_at}
use Rattle.rv_index.specs.Index.{tree_of}
use Rattle.rv_node.specs.Trees.{Whole}
use Rattle.rv_store.specs.Indexing.{IsIndexed, tree_through}
use Rattle.rv_store.proofs.Owning.{own_rise, own_rows, own_tree}
use Rattle.rv_store.proofs.indexes.index_changes.Goals as goal

pub index_part-requires-clause-rise : goal.index_part-requires-clause-rise
index_part-requires-clause-rise c = own_rise c.args.index.now.table c.args.changes.now c.changes_over-own.result.now c.changes_over-own.ensures c.requires.rise

pub returns-clause-ok : goal.returns-clause-ok
returns-clause-ok c =
    let table = c.args.index.now.table in
    let rows = rows_at c.args.records.now c.args.commit in
    let all = ap (λ (cs : List Change). rows_with_changes table cs rows) c.changes_over-own.ensures ∙ own_rows table c.args.changes.now rows in
    subst (λ (rs : List Record). OnOk c.index_part.result (IsIndexed c.args.index.now.columns rs c.args.commit c.index_part.new.index.tree)) all c.index_part.ensures.ok

pub returns-clause-tree : goal.returns-clause-tree
returns-clause-tree c =
    let table = c.args.index.now.table in
    let columns = c.args.index.now.columns in
    let rows = rows_at c.args.records.now c.args.commit in
    let tree = tree_of c.args.index.now.tree c.args.commit in
    let all = ap (λ (cs : List Change). tree_through columns table cs rows tree) c.changes_over-own.ensures ∙ own_tree columns table c.args.changes.now rows tree in
    subst (λ (t : Whole IndexEntry). OnOk c.index_part.result (tree_of c.index_part.new.index.tree c.args.commit ≡ t)) all c.index_part.ensures.tree
