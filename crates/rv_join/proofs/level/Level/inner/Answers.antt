use Rattle.std.proofs.Common.{length, subst, sym, ◌∙◌}
use Rattle.rv_scan.specs.Told.{width}
use Rattle.rv_join.specs.Asking.{AreWide, OpensItem, item_at}
use Rattle.rv_join.proofs.Binding.{wide_more}
use Rattle.rv_join.proofs.Opening.{descends, opens_inner}
use Rattle.rv_join.proofs.level.Level.inner.Goals as goal

pub open_item-requires-clause-wide : goal.open_item-requires-clause-wide
open_item-requires-clause-wide g c = subst (AreWide c.args.asked.now) (sym (c.as_slice.ensures ∙ c.in_ok-outer.ensures)) (wide_more c.args.asked.now (g.R.Reader.shown c.args.reader.now) c.args.self.now.outer c.args.row.now c.requires.can c.requires.fits.inside c.requires.fits.wide)

pub returns-clause-descends : goal.returns-clause-descends
returns-clause-descends g c =
    let asked = c.args.asked.now in
    let shown = g.R.Reader.shown c.args.reader.now in
    let wide = wide_more asked shown c.args.self.now.outer c.args.row.now c.requires.can c.requires.fits.inside c.requires.fits.wide in
    let opens = subst (λ rows. OpensItem asked shown rows c.in_ok-here.here) c.as_slice.ensures c.in_ok-here.ensures.opens in
    descends asked shown c.args.self.now c.args.row.now (width (item_at asked (length c.args.self.now.outer)).need) c.in_ok-outer.outer c.in_ok-here.here c.requires.holds c.in_ok-outer.ensures c.requires.inside (subst (AreWide asked) (sym c.in_ok-outer.ensures) wide) opens

pub returns-clause-opens : goal.returns-clause-opens
returns-clause-opens g c =
    let asked = c.args.asked.now in
    let shown = g.R.Reader.shown c.args.reader.now in
    let opens = subst (λ rows. OpensItem asked shown rows c.in_ok-here.here) c.as_slice.ensures c.in_ok-here.ensures.opens in
    opens_inner asked shown c.args.opening c.args.steps.now c.open_item.new.steps c.args.self.now c.args.row.now c.in_ok-outer.outer c.in_ok-here.here c.requires.holds c.in_ok-outer.ensures opens c.in_ok-here.ensures.opened c.in_ok-here.ensures.counts c.open_item.ensures.only
