use Rattle.std.proofs.Common.{◌≡◌, ◌+◌, ◌∙◌, suc, Some, ap, arith, length, refl, subst, sym, take, take_all}
use Rattle.std.specs.Prelude.{slice_get}
use Rattle.std.proofs.lemmas.Option.{slice_get_read}
use Rattle.rv_value.proofs.Lists.{all_got}
use Rattle.rv_rows.specs.Changes.{with_change, with_changes}
use Rattle.rv_reader.specs.Shown.{CanRead}
use Rattle.rv_own.specs.Views.{CanKeep}
use Rattle.rv_own.proofs.Steps.{changes_next}
use Rattle.rv_own.proofs.views.kept_on.Goals as goal

pub keep-requires-clause-can : goal.keep-requires-clause-can
keep-requires-clause-can g c =
    let shown = g.S.Reader.shown c.args.store.now in
    let new = c.args.new.now in
    let item = c.change-item.result in
    let is : slice_get new c.changes.change-index ≡ Some item = slice_get_read new (length new) c.changes.change-index item refl c.changes-test.true c.change-item.is in
    let can : CanKeep shown c.args.kept.view.base item = all_got (CanKeep shown c.args.kept.view.base) new c.changes.change-index item c.requires.can is in
    subst (CanRead shown item.table) (sym c.changes.invariant.base) can.read

pub keep-requires-clause-low : goal.keep-requires-clause-low
keep-requires-clause-low g c =
    let shown = g.S.Reader.shown c.args.store.now in
    let new = c.args.new.now in
    let item = c.change-item.result in
    let is : slice_get new c.changes.change-index ≡ Some item = slice_get_read new (length new) c.changes.change-index item refl c.changes-test.true c.change-item.is in
    let can : CanKeep shown c.args.kept.view.base item = all_got (CanKeep shown c.args.kept.view.base) new c.changes.change-index item c.requires.can is in
    can.low

pub changes-preserved : goal.changes-preserved
changes-preserved g c =
    let new = c.args.new.now in
    let k = c.changes.change-index in
    let item = c.change-item.result in
    let is : slice_get new k ≡ Some item = slice_get_read new (length new) k item refl c.changes-test.true c.change-item.is in
    let more : suc k ≡ k + 1 = omega arith in
    record {
      base = c.in_ok-keep.ensures.base ∙ c.changes.invariant.base;
      changes = c.in_ok-keep.ensures.changes ∙ ap (with_change item) c.changes.invariant.changes
          ∙ changes_next new k item c.args.kept.view.changes is ∙ ap (λ n. with_changes (take n new) c.args.kept.view.changes) more;
      keeps = c.in_ok-keep.ensures.keeps;
    }

pub returns : goal.returns
returns g c =
    let new = c.args.new.now in
    let all : take c.changes.change-index new ≡ new = take_all c.changes.change-index new (let past = c.changes-test.false in omega (arith, past)) in
    record {
      session = refl;
      base = c.changes.invariant.base;
      changes = c.changes.invariant.changes ∙ ap (λ cs. with_changes cs c.args.kept.view.changes) all;
      keeps = c.changes.invariant.keeps;
    }
