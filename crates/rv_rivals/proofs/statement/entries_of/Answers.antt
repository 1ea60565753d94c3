use Rattle.std.proofs.Common.{◌≡◌, ◌+◌, ◌∙◌, suc, Some, ap, arith, length, refl, sym, take, take_all}
use Rattle.std.specs.Prelude.{slice_get}
use Rattle.std.proofs.lemmas.Option.{slice_get_read}
use Rattle.rv_reader.specs.Entries.{entries_of}
use Rattle.rv_rivals.proofs.Entries.{entries_next, given, written_given}
use Rattle.rv_rivals.proofs.statement.entries_of.Goals as goal

pub changes-init : goal.changes-init
changes-init c table of = c.new-entries.ensures

pub changes-preserved : goal.changes-preserved
changes-preserved c table of =
    let new = c.args.new.now in
    let k = c.changes.change-index in
    let item = c.change-item.result in
    let is : slice_get new k ≡ Some item = slice_get_read new (length new) k item refl c.changes-test.true c.change-item.is in
    let more : suc k ≡ k + 1 = omega arith in
    entries_next c.args.columns.now table k item new c.changes.entries c.put_entry.new.entries c.requires.rise of is (c.changes.invariant table of) c.in_ok-put_entry.ensures
    ∙ ap (λ n. entries_of c.args.columns.now (given (take n new))) more

pub returns : goal.returns
returns c table of =
    let new = c.args.new.now in
    let all : take c.changes.change-index new ≡ new = take_all c.changes.change-index new (let past = c.changes-test.false in omega (arith, past)) in
    c.changes.invariant table of ∙ ap (λ cs. entries_of c.args.columns.now (given cs)) all ∙ ap (entries_of c.args.columns.now) (sym (written_given table new c.requires.rise of))
