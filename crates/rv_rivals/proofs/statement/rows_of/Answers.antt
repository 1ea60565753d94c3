use Rattle.std.proofs.Common.{◌≡◌, ◌+◌, ◌∙◌, None, suc, Some, ap, arith, length, refl, take, take_all}
use Rattle.std.specs.Prelude.{slice_get}
use Rattle.std.proofs.lemmas.Option.{slice_get_read}
use Rattle.rv_rows.specs.declared.changes.Change.{Change}
use Rattle.rv_rows.specs.Changes.{has_change}
use Rattle.rv_rivals.proofs.Entries.{rows_next}
use Rattle.rv_rivals.proofs.Numbers.{has_one}
use Rattle.rv_rivals.proofs.statement.rows_of.Goals as goal

pub changes-init : goal.changes-init
changes-init c table row = ap (has_change table row) c.new-rows.ensures

pub changes-preserved : goal.changes-preserved
changes-preserved c table row =
    let new = c.args.new.now in
    let k = c.changes.change-index in
    let item = c.change-item.result in
    let is : slice_get new k ≡ Some item = slice_get_read new (length new) k item refl c.changes-test.true c.change-item.is in
    let more : suc k ≡ k + 1 = omega arith in
    let put : Change = record { table = item.table; row = item.row; values = None } in
    rows_next table row k item put new c.changes.rows c.put.new.self is refl refl (c.changes.invariant table row)
    (ap (has_change table row) c.in_ok-put.ensures.ok ∙ has_one table row put c.changes.rows)
    ∙ ap (λ n. has_change table row (take n new)) more

pub returns : goal.returns
returns c table row =
    let new = c.args.new.now in
    let all : take c.changes.change-index new ≡ new = take_all c.changes.change-index new (let past = c.changes-test.false in omega (arith, past)) in
    c.changes.invariant table row ∙ ap (has_change table row) all
