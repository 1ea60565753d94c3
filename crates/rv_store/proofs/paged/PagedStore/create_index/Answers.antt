use Rattle.std.proofs.Common.{◌∙◌, arith, subst}
use Rattle.std.proofs.lemmas.List.{get_or_default}
use Rattle.rv_records.specs.Pages.{rows_at}
use Rattle.rv_records.proofs.Keeping.{by_result, ok_only}
use Rattle.rv_store.specs.declared.tables.Table.{Table}
use Rattle.rv_store.specs.Tables.{no_table, rows_in}
use Rattle.rv_store.specs.Indexes.{IsNewIndex}
use Rattle.rv_store.proofs.Standing.{indexed_is, kept_index, kept_turns, tree_indexed}
use Rattle.rv_store.proofs.paged.PagedStore.create_index.Goals as goal

made : (c : goal.After-add_index) → IsNewIndex c.args.table c.args.columns.now (rows_in c.self.inside.tables.items c.args.table c.self.inside.newest) c.self.inside.newest c.in_ok-index.index
made c =
    let there = rw (← c.self.view_is) at c.requires.there in
    let was = c.index.ensures ∙ get_or_default c.self.inside.tables.items c.args.table c.index.result.now no_table there in
    subst (λ (x : Table). IsNewIndex c.args.table c.args.columns.now (rows_at x.records c.self.inside.newest) c.self.inside.newest c.in_ok-index.index) was c.in_ok-index.ensures

pub invariant_of-self : goal.invariant_of-self
invariant_of-self c =
    let next = rw (← c.self.view_is) at c.requires.next in
    let there = rw (← c.self.view_is) at c.requires.there in
    let suits = rw (← c.self.view_is) at c.requires.columns in
    let alone = rw (← c.self.view_is) at c.requires.alone in
    by_result c.add_index.result _ _ _ c.add_index.ensures.ok c.add_index.ensures.err
    (λ e. rw e (kept_index _ c.args.table c.args.columns.now c.in_ok-index.index c.add_index.new.places c.self.invariant (omega (arith, next)) there suits alone (made c)))
    (λ e. rw e (kept_turns _ c.add_index.new.places c.self.invariant))

pub returns-clause-ok : goal.returns-clause-ok
returns-clause-ok c =
    rw (← c.self.view_is) (ok_only c.add_index.result _ _ c.add_index.ensures.ok
    (λ e. rw e (indexed_is (record { horizon = c.self.inside.horizon; newest = c.self.inside.newest; tables = c.self.inside.tables.items; indexes = c.self.inside.indexes.items; turns = c.self.inside.places }) c.args.table c.args.columns.now c.in_ok-index.index c.add_index.new.places (made c))))

pub returns-clause-tree : goal.returns-clause-tree
returns-clause-tree c =
    let next = rw (← c.self.view_is) at c.requires.next in
    rw (← c.self.view_is) (ok_only c.add_index.result _ _ c.add_index.ensures.ok
    (λ e. rw (e, next) (tree_indexed (record { horizon = c.self.inside.horizon; newest = c.self.inside.newest; tables = c.self.inside.tables.items; indexes = c.self.inside.indexes.items; turns = c.self.inside.places }) c.args.table c.args.columns.now c.in_ok-index.index (made c))))
