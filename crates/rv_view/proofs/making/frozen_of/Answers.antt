use Rattle.std.proofs.Common.{◌<◌, ◌∙◌, ap, sym, subst, List, []}
use Rattle.std.specs.List.{AllByRecursion}
use Rattle.rv_rows.specs.declared.changes.Change.{Change}
use Rattle.rv_overlay.specs.declared.frozen.Frozen.{Frozen}
use Rattle.rv_reader.specs.Shown.{CanRead}
use Rattle.rv_view.specs.Making.{Keeps}
use Rattle.rv_view.proofs.Keeping.{starts_kept}
use Rattle.rv_view.proofs.making.frozen_of.Goals as goal

pub keep_changes-requires-clause-can : goal.keep_changes-requires-clause-can
keep_changes-requires-clause-can g c =
    let shown = g.R.Reader.shown c.args.reader.now in
    subst (λ (f : Frozen). AllByRecursion (λ (x : Change). CanRead shown x.table f.base × (x.row.0 < 4294967296)) c.args.changes.now) (sym c.in_ok-frozen.ensures) c.requires.can

pub keep_changes-requires-clause-starts : goal.keep_changes-requires-clause-starts
keep_changes-requires-clause-starts g c =
    let shown = g.R.Reader.shown c.args.reader.now in
    let start = subst (λ (f : Frozen). Keeps shown f []) (sym c.in_ok-frozen.ensures) (starts_kept shown c.args.indexes.now c.args.base c.requires.indexes) in
    subst (λ (w : List Change). Keeps shown c.in_ok-frozen.frozen w) (sym c.new-written.ensures) start

pub keep_changes-requires-clause-none : goal.keep_changes-requires-clause-none
keep_changes-requires-clause-none g c = ap (λ (f : Frozen). f.changes) c.in_ok-frozen.ensures

pub returns-in-Ok-clause-base : goal.returns-in-Ok-clause-base
returns-in-Ok-clause-base g c = c.in-Ok.ensures.base ∙ ap (λ (f : Frozen). f.base) c.in_ok-frozen.ensures
