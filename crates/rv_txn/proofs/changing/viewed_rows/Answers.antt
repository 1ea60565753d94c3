use Rattle.std.proofs.Common.{◌≡◌, ◌∙◌, List, [], ap, filter, map, rules, subst, sym}
use Rattle.std.specs.List.{AllByRecursion}
use Rattle.rv_rows.specs.Changes.{rows_with_changes}
use Rattle.rv_rows.specs.Rows.{comes_below}
use Rattle.rv_rows.proofs.Puts.{rising_filter}
use Rattle.rv_restrict.specs.declared.atom.Atom.{Atom}
use Rattle.rv_txn.specs.Changing.{LeavesColumns, kept_change}
use Rattle.rv_txn.proofs.Views.{all_kept, all_leave, changes_kept, keeps}
use Rattle.rv_txn.proofs.changing.viewed_rows.Goals as goal

pub lay_over-requires-clause-ascend : goal.lay_over-requires-clause-ascend
lay_over-requires-clause-ascend g c = rw (c.as_slice.ensures.value ∙ c.in_ok-kept.ensures.kept) (rising_filter comes_below (keeps c.from_groups-all.result) _ c.in_ok-kept.ensures.ascend)

pub lay_over-requires-clause-columns : goal.lay_over-requires-clause-columns
lay_over-requires-clause-columns g c =
    let none : c.from_groups-all.result ≡ [] = search rules in
    subst (λ (o : List (List Atom)). AllByRecursion (LeavesColumns c.args.table o) c.args.transaction.now.changes) (sym none) (all_leave c.args.table c.args.transaction.now.changes)

pub returns-clause-seen : goal.returns-clause-seen
returns-clause-seen g c =
    let none : c.from_groups-all.result ≡ [] = search rules in
    let changes = c.args.transaction.now.changes in
    let rows = (g.S.Reader.shown c.args.store.now).rows c.args.table c.args.transaction.now.base in
    let told = rw (c.as_slice.ensures.value ∙ c.in_ok-kept.ensures.kept) at c.in_ok-rows.ensures in
    told
    ∙ ap (λ (o : List (List Atom)). rows_with_changes c.args.table (map (kept_change o) changes) (filter (keeps o) rows)) none
    ∙ (λ i. rows_with_changes c.args.table (changes_kept changes i) (all_kept rows i))
