use Rattle.std.proofs.Common.{◌≡◌, ◌+◌, ◌∙◌, ◌++◌, List, [], ap, arith, drop, map, sym}
use Rattle.std.proofs.lemmas.List.{drop_all}
use Rattle.rv_rows.specs.declared.changes.Change.{Change}
use Rattle.rv_rows.specs.Changes.{change_at}
use Rattle.rv_model.specs.Transactions.{touch_all}
use Rattle.rv_txn.proofs.Laying.{next_listed}
use Rattle.rv_txn.proofs.touched.touch_all.Goals as goal

pub list-init : goal.list-init
list-init c = ap (λ (cs : List Change). touch_all c.args.commit cs c.args.touched.now) c.parts-mapped.ensures.same

pub list-preserved : goal.list-preserved
list-preserved c =
    let behind = map change_at c.parts-mapped.result.1 in
    let next = next_listed c.parts-mapped.result.0.now c.list.change-index c.change-item.result behind c.list-test.true c.change-item.is in
    ap (touch_all c.args.commit (drop (c.list.change-index + 1) c.parts-mapped.result.0.now ++ behind)) c.touch.ensures
    ∙ sym (ap (λ (cs : List Change). touch_all c.args.commit cs c.list.touched) next)
    ∙ c.list.invariant

pub changes-init : goal.changes-init
changes-init c =
    let behind = map change_at c.parts-mapped.result.1 in
    let none : drop c.list.change-index c.parts-mapped.result.0.now ≡ [] = drop_all c.list.change-index c.parts-mapped.result.0.now (omega (arith, c.list-test.false)) in
    let are = ap (λ (cs : List Change). cs ++ behind) none ∙ sym (ap (map change_at) c.into_iter-key-iterator.ensures.into_iter_gives) in
    sym (ap (λ (cs : List Change). touch_all c.args.commit cs c.list.touched) are) ∙ c.list.invariant
