use Rattle.std.proofs.Common.{◌≡◌, ◌+◌, suc, ◌∙◌, ap, sym, arith, length, refl, Some, take}
use Rattle.std.specs.Prelude.{slice_get}
use Rattle.std.proofs.lemmas.Option.{slice_get_read}
use Rattle.rv_rows.specs.Changes.{with_change}
use Rattle.rv_view.proofs.Parts.{taken_next}
use Rattle.rv_view.proofs.making.keep_changes.Goals as goal

pub changes-init : goal.changes-init
changes-init g c = record { keeps = c.requires.starts; changes = c.requires.none; base = refl }

pub changes-preserved : goal.changes-preserved
changes-preserved g c =
    let changes = c.args.changes.now in
    let k = c.changes.change-index in
    let is : slice_get changes k ≡ Some c.change-item.result = slice_get_read changes (length changes) k c.change-item.result refl c.changes-test.true c.change-item.is in
    let more : suc k ≡ k + 1 = omega arith in
    record {
      keeps = c.in_ok-keep_change.ensures.keeps;
      changes = c.in_ok-keep_change.ensures.changes ∙ ap (with_change c.change-item.result) c.changes.invariant.changes
          ∙ taken_next changes k c.change-item.result is c.requires.rise ∙ ap (λ n. take n changes) more;
      base = c.in_ok-keep_change.ensures.base ∙ c.changes.invariant.base;
    }
