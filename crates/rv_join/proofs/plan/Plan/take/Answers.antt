use Rattle.std.proofs.Common.{ap}
use Rattle.rv_join.specs.Plans.{Planned}
use Rattle.rv_join.proofs.Accounting.{alone_above, fits_counted}
use Rattle.rv_join.proofs.Keeping.{level_fits, stays_good, taken_rises}
use Rattle.rv_join.proofs.plan.Plan.take.Goals as goal

pub take_at-taken-requires : goal.take_at-taken-requires
take_at-taken-requires g c = record { fits = level_fits c.args.self.now.asked (g.R.Reader.shown c.args.reader.now) c.args.self.now.stack c.waits-at.result c.requires.fits.holds.stack }

pub returns-clause-fits : goal.returns-clause-fits
returns-clause-fits g c =
    let shown = g.R.Reader.shown c.args.reader.now in
    let stays = c.take_at-taken.ensures.stays c.requires.fits.holds.stack in
    let same = c.take_at-taken.ensures.same in
    fits_counted shown c.args.self.now c.take_at-taken.new.self c.count.new.self c.counts-before.result c.counts.result c.requires.fits (stays_good shown c.args.self.now c.take_at-taken.new.self c.requires.fits.holds stays same) (taken_rises shown c.args.self.now c.take_at-taken.new.self c.waits-at.result c.counts-before.result c.counts.result c.requires.fits.holds stays (rw (c.counts-before.ensures, c.counts.ensures) c.take_at-taken.ensures.counts)) (ap (λ (p : Planned). p.reads) same) (ap (λ (p : Planned). p.asked) same) c.take_at-taken.ensures.plans c.count.ensures.same c.count.ensures.none

pub returns-clause-spends : goal.returns-clause-spends
returns-clause-spends g c = λ one. (let none = alone_above c.args.self.now.asked (g.R.Reader.shown c.args.reader.now) c.args.self.now.stack c.requires.fits.holds.stack one in rw c.count.ensures.same (c.take_at-taken.ensures.spends none))
