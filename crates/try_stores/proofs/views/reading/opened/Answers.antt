use Rattle.std.proofs.Common.{subst, sym}
use Rattle.rv_overlay.specs.declared.frozen.Frozen.{Frozen}
use Rattle.rv_overlay.specs.Overlaid.{Lays}
use Rattle.try_stores.proofs.Laying.{lays_it}
use Rattle.try_stores.proofs.views.reading.opened.Goals as goal

pub returns : goal.returns
returns g c =
    let shown = g.S.Reader.shown c.args.store.now in
    subst (λ (f : Frozen). Lays shown f) (sym c.in_ok-shared.ensures) (lays_it shown c.args.indexes.now c.args.view.now c.args.written.now c.lays_kept.ensures c.requires.stands c.requires.kept)
