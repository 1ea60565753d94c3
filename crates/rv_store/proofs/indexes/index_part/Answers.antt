use Rattle.std.proofs.Common.{◌∙◌, ◌≡◌, ◌∷◌, ◌++◌, ◌+◌, [], true, take, drop, sym, ap, subst, List, ℕ}
use Rattle.std.specs.List.{list_all}
use Rattle.std.proofs.lemmas.List.{take_more, drop_more}
use Rattle.rv_reader.proofs.Rows.{applied_ascends}
use Rattle.rv_value.specs.declared.record.Record.{Record}
use Rattle.rv_rows.specs.declared.changes.Change.{Change}
use Rattle.rv_rows.specs.Changes.{is_before, rows_with_changes}
use Rattle.rv_rows.proofs.Cuts.{rising_ahead}
use Rattle.rv_reader.specs.Tables.{row_at}
use Rattle.rv_records.specs.Pages.{rows_at}
use Rattle.rv_index.specs.Index.{tree_of, entries_of}
use Rattle.rv_reader.specs.Entries.{entry_at}
use Rattle.rv_store.specs.Indexing.{row_with, taken_out, tree_through, IsAbsent, IsIndexed}
use Rattle.rv_store.proofs.Changing.{same_index_trans, absent_new, row_before, pass_indexed, pass_tree, applied_more}
use Rattle.rv_store.proofs.indexes.index_part.Goals as goal

pub pass_change-requires-clause-absent : goal.pass_change-requires-clause-absent
pass_change-requires-clause-absent c own =
    let i = c.changes.change-index in
    let all = c.args.changes.now in
    let item = c.change-item.result in
    let table = c.args.index.now.table in
    let columns = c.args.index.now.columns in
    let rows = rows_at c.args.records.now c.args.commit in
    let so_far = rows_with_changes table (take i all) rows in
    let front : list_all (λ (d : Change). is_before d item) (take i all) ≡ true = subst (λ (x : Change). list_all (λ (d : Change). is_before d x) (take i all) ≡ true) (sym c.change-item.is) (rising_ahead is_before all i item c.changes-test.true c.requires.rise) in
    let found = row_before table item (take i all) rows (own ∙ c.changes.invariant.same.table) front in
    subst (λ (cs : List ℕ). IsAbsent (entry_at cs (row_with item.row.0 item.values)) (taken_out (entry_at cs (row_at rows item.row.0)) (entries_of c.changes.index.tree c.args.commit))) (sym c.changes.invariant.same.columns)
    (absent_new c.args.commit columns item.row.0 item.values (row_at rows item.row.0) so_far c.changes.index.tree (applied_ascends table (take i all) rows c.requires.ascend) found c.changes.invariant.indexed)

pub returns-in_err-pass_change-clause-same : goal.returns-in_err-pass_change-clause-same
returns-in_err-pass_change-clause-same c = same_index_trans c.args.commit c.args.index.now c.changes.index c.pass_change.new.index c.changes.invariant.same c.pass_change.ensures.same

pub changes-preserved : goal.changes-preserved
changes-preserved c =
    let i = c.changes.change-index in
    let all = c.args.changes.now in
    let item = c.change-item.result in
    let table = c.args.index.now.table in
    let columns = c.args.index.now.columns in
    let rows = rows_at c.args.records.now c.args.commit in
    let so_far = rows_with_changes table (take i all) rows in
    let before = row_at rows item.row.0 in
    let front : list_all (λ (d : Change). is_before d item) (take i all) ≡ true = subst (λ (x : Change). list_all (λ (d : Change). is_before d x) (take i all) ≡ true) (sym c.change-item.is) (rising_ahead is_before all i item c.changes-test.true c.requires.rise) in
    let next : take (i + 1) all ≡ take i all ++ item ∷ [] = take_more all i item c.changes-test.true ∙ ap (λ (x : Change). take i all ++ x ∷ []) (sym c.change-item.is) in
    let rest : drop i all ≡ item ∷ drop (i + 1) all = drop_more all i item c.changes-test.true ∙ ap (λ (x : Change). x ∷ drop (i + 1) all) (sym c.change-item.is) in
    let step = applied_more table (take i all) item (take (i + 1) all) rows next in
    record {
      same = same_index_trans c.args.commit c.args.index.now c.changes.index c.pass_change.new.index c.changes.invariant.same c.pass_change.ensures.same;
      newest = c.pass_change.ensures.newest;
      indexed = subst (λ (rs : List Record). IsIndexed columns rs c.args.commit c.pass_change.new.index.tree) (sym step)
          (pass_indexed c.args.commit columns table item before so_far c.changes.index c.pass_change.new.index c.changes.invariant.same.table c.changes.invariant.same.columns (applied_ascends table (take i all) rows c.requires.ascend)
          (λ own. row_before table item (take i all) rows own front) c.changes.invariant.indexed c.in_ok-pass_change.ensures.ok);
      tree = ap (λ (rs : List Record). tree_through columns table (drop (i + 1) all) rs (tree_of c.pass_change.new.index.tree c.args.commit)) step
          ∙ pass_tree c.args.commit columns table item (drop (i + 1) all) before so_far c.changes.index c.pass_change.new.index c.changes.invariant.same.table c.changes.invariant.same.columns (λ own. row_before table item (take i all) rows own front) c.in_ok-pass_change.ensures.ok
          ∙ ap (λ (ds : List Change). tree_through columns table ds so_far (tree_of c.changes.index.tree c.args.commit)) (sym rest) ∙ c.changes.invariant.tree;
    }
