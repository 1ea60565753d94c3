use Rattle.std.proofs.Common.{◌≡◌, ◌+◌, ◌∙◌, ◌++◌, ◌==◌, List, [], ap, arith, drop, false, map, subst, sym, true}
use Rattle.std.specs.List.{AllByRecursion, list_all}
use Rattle.std.specs.Map.Iter.{deref_pair}
use Rattle.std.proofs.lemmas.Bool.Decides.{nat_tests}
use Rattle.std.proofs.lemmas.List.{drop_all}
use Rattle.std.proofs.lemmas.Map.Iter.{rest_more}
use Rattle.std.proofs.lemmas.Bool.{and_parts}
use Rattle.rv_value.proofs.Lists.{all_filter, filter_passes}
use Rattle.rv_rows.specs.declared.changes.Change.{Change}
use Rattle.rv_rows.specs.Changes.{Rise, change_at, is_from, rows_with_changes}
use Rattle.rv_txn.specs.Changing.{LeavesColumns, kept_change}
use Rattle.rv_txn.proofs.Laying.{from_rises, laid, laid_at_last, laid_begins, next_listed}
use Rattle.rv_txn.proofs.Views.{one_laid}
use Rattle.rv_txn.proofs.changing.lay_over.Goals as goal

pub list-init : goal.list-init
list-init c =
    let are = c.parts_from-mapped.ensures.same in
    record {
      ascend = c.requires.ascend;
      rise = subst Rise (sym are) (from_rises c.args.table c.args.changes.now c.parts_from-mapped.ensures.rise);
      from = subst (λ (cs : List Change). list_all (is_from c.args.table) cs ≡ true) (sym are) (filter_passes (is_from c.args.table) c.args.changes.now);
      columns = subst (AllByRecursion (LeavesColumns c.args.table c.args.only.now)) (sym are) (all_filter (LeavesColumns c.args.table c.args.only.now) (is_from c.args.table) c.args.changes.now c.requires.columns);
      same = subst (λ (cs : List Change). c.new-all.result.items ++ laid c.args.only.now c.args.table cs c.args.rows.now ≡ laid c.args.only.now c.args.table c.args.changes.now c.args.rows.now) (sym are) (laid_begins c.args.only.now c.args.table c.args.changes.now c.args.rows.now c.new-all.result.items c.new-all.ensures.items);
    }

pub list-preserved : goal.list-preserved
list-preserved c =
    let behind = map change_at c.parts_from-mapped.result.1 in
    let next = next_listed c.parts_from-mapped.result.0.now c.list.change-index c.change-item.result behind c.list-test.true c.change-item.is in
    let rise = subst Rise next c.list.invariant.rise in
    let from = subst (λ (cs : List Change). list_all (is_from c.args.table) cs ≡ true) next c.list.invariant.from in
    let columns = subst (AllByRecursion (LeavesColumns c.args.table c.args.only.now)) next c.list.invariant.columns in
    record {
      ascend = c.in_ok-rest.ensures.ascend;
      rise = rise.1;
      from = (and_parts _ _ from).1;
      columns = columns.1;
      same = one_laid c.args.only.now c.args.table c.list.all.items c.list.rest.now c.lay_one.new.all.items c.in_ok-rest.rest.now _ (drop c.list.change-index c.parts_from-mapped.result.0.now ++ behind) (drop (c.list.change-index + 1) c.parts_from-mapped.result.0.now ++ behind) c.change-item.result next c.list.invariant.rise c.in_ok-rest.ensures.passes c.list.invariant.same;
    }

pub returns-then-change-table : goal.returns-then-change-table
returns-then-change-table c =
    let behind = map change_at c.parts_from-mapped.result.1 in
    let next = next_listed c.parts_from-mapped.result.0.now c.list.change-index c.change-item.result behind c.list-test.true c.change-item.is in
    let other : (c.change-item.result.table == c.args.table) ≡ false = (let apart = c.if-change-table.true in grind (arith, nat_tests)) in
    laid_at_last c.args.only.now c.args.table c.change-item.result (drop (c.list.change-index + 1) c.parts_from-mapped.result.0.now ++ behind) c.list.all.items c.list.rest.now c.add_rows.new.new.items (rows_with_changes c.args.table (map (kept_change c.args.only.now) c.args.changes.now) c.args.rows.now) (drop c.list.change-index c.parts_from-mapped.result.0.now ++ behind) next c.list.invariant.rise c.list.invariant.from other c.in_ok-add_rows.ensures c.list.invariant.same

pub lay_one-requires-clause-columns : goal.lay_one-requires-clause-columns
lay_one-requires-clause-columns c =
    let behind = map change_at c.parts_from-mapped.result.1 in
    let next = next_listed c.parts_from-mapped.result.0.now c.list.change-index c.change-item.result behind c.list-test.true c.change-item.is in
    (subst (AllByRecursion (LeavesColumns c.args.table c.args.only.now)) next c.list.invariant.columns).0

pub changes-init : goal.changes-init
changes-init c =
    let behind = map change_at c.parts_from-mapped.result.1 in
    let none : drop c.list.change-index c.parts_from-mapped.result.0.now ≡ [] = drop_all c.list.change-index c.parts_from-mapped.result.0.now (omega (arith, c.list-test.false)) in
    let are = ap (λ (cs : List Change). cs ++ behind) none ∙ sym (ap (map change_at) c.into_iter-key-iterator.ensures.into_iter_gives) in
    record {
      ascend = c.list.invariant.ascend;
      rise = subst Rise are c.list.invariant.rise;
      from = subst (λ (cs : List Change). list_all (is_from c.args.table) cs ≡ true) are c.list.invariant.from;
      columns = subst (AllByRecursion (LeavesColumns c.args.table c.args.only.now)) are c.list.invariant.columns;
      same = subst (λ (cs : List Change). c.list.all.items ++ laid c.args.only.now c.args.table cs c.list.rest.now ≡ laid c.args.only.now c.args.table c.args.changes.now c.args.rows.now) are c.list.invariant.same;
    }

pub changes-preserved : goal.changes-preserved
changes-preserved c =
    let next = rest_more deref_pair c.changes.key-iterator c.next.new.self c.next.result (c.in-Some.key, c.in-Some.values) c.in-Some.is c.next.ensures.steps in
    let rise = rw next at c.changes.invariant.rise in
    let from = rw next at c.changes.invariant.from in
    let columns = rw next at c.changes.invariant.columns in
    record {
      ascend = c.in_ok-rest-2.ensures.ascend;
      rise = rise.1;
      from = (and_parts _ _ from).1;
      columns = columns.1;
      same = one_laid c.args.only.now c.args.table c.changes.all.items c.changes.rest.now c.lay_one-in-changes.new.all.items c.in_ok-rest-2.rest.now _ (map change_at c.changes.key-iterator) (map change_at c.next.new.self) (change_at (c.in-Some.key.now, c.in-Some.values.now)) (ap (map change_at) next) c.changes.invariant.rise c.in_ok-rest-2.ensures.passes c.changes.invariant.same;
    }

pub returns-then-key-table : goal.returns-then-key-table
returns-then-key-table c =
    let next = rest_more deref_pair c.changes.key-iterator c.next.new.self c.next.result (c.in-Some.key, c.in-Some.values) c.in-Some.is c.next.ensures.steps in
    let other : (c.in-Some.key.now.table == c.args.table) ≡ false = (let apart = c.if-key-table.true in grind (arith, nat_tests)) in
    laid_at_last c.args.only.now c.args.table (change_at (c.in-Some.key.now, c.in-Some.values.now)) (map change_at c.next.new.self) c.changes.all.items c.changes.rest.now c.add_rows-then-key-table.new.new.items (rows_with_changes c.args.table (map (kept_change c.args.only.now) c.args.changes.now) c.args.rows.now) (map change_at c.changes.key-iterator) (ap (map change_at) next) c.changes.invariant.rise c.changes.invariant.from other c.in_ok-add_rows-2.ensures c.changes.invariant.same
