use Rattle.std.proofs.Common.{refl, subst, sym}
use Rattle.rv_value.proofs.Lists.{on_err}
use Rattle.rv_access.specs.declared.access.Access.{Access}
use Rattle.rv_join.specs.declared.level.Level.{Level}
use Rattle.rv_join.specs.Levels.{Stacked, first_of}
use Rattle.rv_access.specs.Accesses.{SamePlans}
use Rattle.rv_join.proofs.OneItem.{alone_ended, alone_none, done_spends, first_plans, once_plans, uses_fetches, uses_once, uses_spends}
use Rattle.rv_join.proofs.Accounting.{alone_ends, alone_rises, alone_uses}
use Rattle.rv_join.proofs.Catching.{stays_moves}
use Rattle.rv_join.proofs.Going.{calls_at, calls_on}
use Rattle.rv_join.proofs.Stacking.{kept_at, kept_less, kept_or, kept_then, kept_then_if}
use Rattle.rv_join.proofs.stack.Stack.advance.Goals as goal

pub returns-in_err-ready-clause-err : goal.returns-in_err-ready-clause-err
returns-in_err-ready-clause-err g c =
    let asked = c.args.asked.now in
    let shown = g.R.Reader.shown c.args.reader.now in
    let old : Stacked = record { above = c.self.inside.above.items; at = c.self.inside.at; openings = c.self.inside.openings } in
    let mid : Stacked = record old { at = c.ready.new.self } in
    let fits = rw (← c.self.view_is) at c.requires.fits in
    rw (← c.self.view_is) (on_err _ _ (kept_at asked shown old mid fits refl (stays_moves asked shown old.at c.ready.new.self c.in_err-ready.ensures.err)))

pub returns-in-Working-clause-moves : goal.returns-in-Working-clause-moves
returns-in-Working-clause-moves g c =
    let asked = c.args.asked.now in
    let shown = g.R.Reader.shown c.args.reader.now in
    let old : Stacked = record { above = c.self.inside.above.items; at = c.self.inside.at; openings = c.self.inside.openings } in
    let mid : Stacked = record old { at = c.ready.new.self } in
    let fits = rw (← c.self.view_is) at c.requires.fits in
    let caught = rw c.in-Working.is at c.in_ok-ready.ensures.caught in
    rw (← c.self.view_is) (kept_less asked shown old mid fits refl caught.0 caught.1)

pub returns-in-End-clause-moves : goal.returns-in-End-clause-moves
returns-in-End-clause-moves g c =
    let asked = c.args.asked.now in
    let shown = g.R.Reader.shown c.args.reader.now in
    let old : Stacked = record { above = c.self.inside.above.items; at = c.self.inside.at; openings = c.self.inside.openings } in
    let mid : Stacked = record old { at = c.ready.new.self } in
    let fits = rw (← c.self.view_is) at c.requires.fits in
    let caught = rw c.in-End.is at c.in_ok-ready.ensures.caught in
    let kept = kept_at asked shown old mid fits refl caught.0 in
    rw (← c.self.view_is) (kept_then asked shown c.end.result old mid c.end.new.self kept (c.end.ensures.moves asked shown kept.fits caught.1))

pub returns-in-Row-clause-moves : goal.returns-in-Row-clause-moves
returns-in-Row-clause-moves g c =
    let asked = c.args.asked.now in
    let shown = g.R.Reader.shown c.args.reader.now in
    let old : Stacked = record { above = c.self.inside.above.items; at = c.self.inside.at; openings = c.self.inside.openings } in
    let mid : Stacked = record old { at = c.ready.new.self } in
    let fits = rw (← c.self.view_is) at c.requires.fits in
    let caught = rw c.in-Row.is at c.in_ok-ready.ensures.caught in
    let kept = kept_at asked shown old mid fits refl caught.0 in
    rw (← c.self.view_is) (kept_then_if asked shown c.use_row.result old mid _ kept c.use_row.ensures.moves)

pub returns-in_err-ready-clause-alone : goal.returns-in_err-ready-clause-alone
returns-in_err-ready-clause-alone g c =
    let old : Stacked = record { above = c.self.inside.above.items; at = c.self.inside.at; openings = c.self.inside.openings } in
    let mid : Stacked = record old { at = c.ready.new.self } in
    let fits = rw (← c.self.view_is) at c.requires.fits in
    rw (← c.self.view_is) (alone_rises c.args.asked.now (g.R.Reader.shown c.args.reader.now) old mid c.args.steps.now c.ready.new.steps fits refl c.ready.ensures.counts)

pub returns-in-Working-clause-alone : goal.returns-in-Working-clause-alone
returns-in-Working-clause-alone g c =
    let old : Stacked = record { above = c.self.inside.above.items; at = c.self.inside.at; openings = c.self.inside.openings } in
    let mid : Stacked = record old { at = c.ready.new.self } in
    let fits = rw (← c.self.view_is) at c.requires.fits in
    rw (← c.self.view_is) (alone_rises c.args.asked.now (g.R.Reader.shown c.args.reader.now) old mid c.args.steps.now c.ready.new.steps fits refl c.ready.ensures.counts)

pub returns-in-End-clause-alone : goal.returns-in-End-clause-alone
returns-in-End-clause-alone g c =
    let old : Stacked = record { above = c.self.inside.above.items; at = c.self.inside.at; openings = c.self.inside.openings } in
    let mid : Stacked = record old { at = c.ready.new.self } in
    let fits = rw (← c.self.view_is) at c.requires.fits in
    rw (← c.self.view_is) (alone_ends c.args.asked.now (g.R.Reader.shown c.args.reader.now) old mid c.end.new.self c.args.steps.now c.ready.new.steps fits refl c.ready.ensures.counts c.end.ensures.alone)

pub returns-in-Row-clause-alone : goal.returns-in-Row-clause-alone
returns-in-Row-clause-alone g c =
    let old : Stacked = record { above = c.self.inside.above.items; at = c.self.inside.at; openings = c.self.inside.openings } in
    let mid : Stacked = record old { at = c.ready.new.self } in
    let fits = rw (← c.self.view_is) at c.requires.fits in
    rw (← c.self.view_is) (alone_uses c.args.asked.now (g.R.Reader.shown c.args.reader.now) old mid c.use_row.new.self c.args.steps.now c.ready.new.steps c.use_row.new.steps fits refl c.ready.ensures.counts c.use_row.ensures.alone)

pub returns-in_err-ready-clause-plans : goal.returns-in_err-ready-clause-plans
returns-in_err-ready-clause-plans g c =
    let old : Stacked = record { above = c.self.inside.above.items; at = c.self.inside.at; openings = c.self.inside.openings } in
    let mid : Stacked = record old { at = c.ready.new.self } in
    rw (← c.self.view_is) (first_plans old mid refl (once_plans _ _ _ _ _ _ _ _ c.ready.ensures.once.calls))

pub returns-in-Working-clause-plans : goal.returns-in-Working-clause-plans
returns-in-Working-clause-plans g c =
    let old : Stacked = record { above = c.self.inside.above.items; at = c.self.inside.at; openings = c.self.inside.openings } in
    let mid : Stacked = record old { at = c.ready.new.self } in
    rw (← c.self.view_is) (first_plans old mid refl (once_plans _ _ _ _ _ _ _ _ c.ready.ensures.once.calls))

pub returns-in-End-clause-plans : goal.returns-in-End-clause-plans
returns-in-End-clause-plans g c =
    let old : Stacked = record { above = c.self.inside.above.items; at = c.self.inside.at; openings = c.self.inside.openings } in
    let mid : Stacked = record old { at = c.ready.new.self } in
    rw (← c.self.view_is) (subst (λ (l : Level). SamePlans (first_of old).here l.here) (sym c.end.ensures.first) (first_plans old mid refl (once_plans _ _ _ _ _ _ _ _ c.ready.ensures.once.calls)))

pub returns-in-Row-clause-plans : goal.returns-in-Row-clause-plans
returns-in-Row-clause-plans g c =
    let old : Stacked = record { above = c.self.inside.above.items; at = c.self.inside.at; openings = c.self.inside.openings } in
    let mid : Stacked = record old { at = c.ready.new.self } in
    rw (← c.self.view_is) (subst (λ (v : Access). SamePlans (first_of old).here v) (sym c.use_row.ensures.first) (first_plans old mid refl (once_plans _ _ _ _ _ _ _ _ c.ready.ensures.once.calls)))

pub returns-in-Working-clause-spends : goal.returns-in-Working-clause-spends
returns-in-Working-clause-spends g c =
    rw (← c.self.view_is) (λ one. (let spends = c.in_ok-ready.ensures.spends in rw c.in-Working.is at spends))

pub returns-in-End-clause-once : goal.returns-in-End-clause-once
returns-in-End-clause-once g c =
    let old : Stacked = record { above = c.self.inside.above.items; at = c.self.inside.at; openings = c.self.inside.openings } in
    let mid : Stacked = record old { at = c.ready.new.self } in
    let fits = rw (← c.self.view_is) at c.requires.fits in
    rw (← c.self.view_is) (λ one. (let same = alone_ended c.args.asked.now (g.R.Reader.shown c.args.reader.now) old mid c.end.new.self fits refl c.end.ensures.alone one in rw same c.ready.ensures.once))

pub returns-in-End-clause-spends : goal.returns-in-End-clause-spends
returns-in-End-clause-spends g c =
    let old : Stacked = record { above = c.self.inside.above.items; at = c.self.inside.at; openings = c.self.inside.openings } in
    let mid : Stacked = record old { at = c.ready.new.self } in
    let fits = rw (← c.self.view_is) at c.requires.fits in
    rw (← c.self.view_is) (λ one. (
    let asked = c.args.asked.now in
    let shown = g.R.Reader.shown c.args.reader.now in
    let same = alone_ended asked shown old mid c.end.new.self fits refl c.end.ensures.alone one in
    let none = alone_none asked shown old mid fits refl one in
    let spends = c.in_ok-ready.ensures.spends in
    rw same (done_spends c.end.result _ _ _ _ (c.end.ensures.done none) (rw c.in-End.is at spends))))

pub returns-in-Row-clause-once : goal.returns-in-Row-clause-once
returns-in-Row-clause-once g c =
    let old : Stacked = record { above = c.self.inside.above.items; at = c.self.inside.at; openings = c.self.inside.openings } in
    let mid : Stacked = record old { at = c.ready.new.self } in
    rw (← c.self.view_is) (λ one. uses_once c.use_row.result _ _ _ (g.R.Reader.shown c.args.reader.now) c.args.steps.now c.ready.new.steps c.use_row.new.steps old.at mid c.use_row.new.self (c.use_row.ensures.used one) c.use_row.ensures.err (c.use_row.ensures.alone one).1 c.ready.ensures.once)

pub returns-in-Row-clause-spends : goal.returns-in-Row-clause-spends
returns-in-Row-clause-spends g c =
    let old : Stacked = record { above = c.self.inside.above.items; at = c.self.inside.at; openings = c.self.inside.openings } in
    let mid : Stacked = record old { at = c.ready.new.self } in
    rw (← c.self.view_is) (λ one. (let spends = c.in_ok-ready.ensures.spends in uses_spends c.use_row.result (g.R.Reader.shown c.args.reader.now) c.args.steps.now c.ready.new.steps c.use_row.new.steps old.at mid c.use_row.new.self (c.use_row.ensures.used one) (c.use_row.ensures.alone one).1 (rw c.in-Row.is at spends)))

pub returns-in_err-ready-clause-asks : goal.returns-in_err-ready-clause-asks
returns-in_err-ready-clause-asks g c =
    let old : Stacked = record { above = c.self.inside.above.items; at = c.self.inside.at; openings = c.self.inside.openings } in
    let mid : Stacked = record old { at = c.ready.new.self } in
    rw (← c.self.view_is) (calls_at _ _ _ _ _ _ _ old mid refl c.ready.ensures.once)

pub returns-in-Working-clause-asks : goal.returns-in-Working-clause-asks
returns-in-Working-clause-asks g c =
    let old : Stacked = record { above = c.self.inside.above.items; at = c.self.inside.at; openings = c.self.inside.openings } in
    let mid : Stacked = record old { at = c.ready.new.self } in
    rw (← c.self.view_is) (calls_at _ _ _ _ _ _ _ old mid refl c.ready.ensures.once)

pub returns-in-End-clause-asks : goal.returns-in-End-clause-asks
returns-in-End-clause-asks g c =
    let old : Stacked = record { above = c.self.inside.above.items; at = c.self.inside.at; openings = c.self.inside.openings } in
    let mid : Stacked = record old { at = c.ready.new.self } in
    rw (← c.self.view_is) (calls_on _ _ _ _ _ _ _ _ old mid c.end.new.self refl c.ready.ensures.once (c.end.ensures.goes c.args.asked.now (g.R.Reader.shown c.args.reader.now) c.ready.new.steps))

pub returns-in-Row-clause-asks : goal.returns-in-Row-clause-asks
returns-in-Row-clause-asks g c =
    let old : Stacked = record { above = c.self.inside.above.items; at = c.self.inside.at; openings = c.self.inside.openings } in
    let mid : Stacked = record old { at = c.ready.new.self } in
    rw (← c.self.view_is) (calls_on _ _ _ _ _ _ _ _ old mid c.use_row.new.self refl c.ready.ensures.once c.use_row.ensures.goes)

pub returns-in-Working-clause-fetches : goal.returns-in-Working-clause-fetches
returns-in-Working-clause-fetches g c =
    rw (← c.self.view_is) (λ one. c.in_ok-ready.ensures.fetches)

pub returns-in-End-clause-fetches : goal.returns-in-End-clause-fetches
returns-in-End-clause-fetches g c =
    let old : Stacked = record { above = c.self.inside.above.items; at = c.self.inside.at; openings = c.self.inside.openings } in
    let mid : Stacked = record old { at = c.ready.new.self } in
    let fits = rw (← c.self.view_is) at c.requires.fits in
    rw (← c.self.view_is) (λ one. (let same = alone_ended c.args.asked.now (g.R.Reader.shown c.args.reader.now) old mid c.end.new.self fits refl c.end.ensures.alone one in rw same c.in_ok-ready.ensures.fetches))

pub returns-in-Row-clause-fetches : goal.returns-in-Row-clause-fetches
returns-in-Row-clause-fetches g c =
    let old : Stacked = record { above = c.self.inside.above.items; at = c.self.inside.at; openings = c.self.inside.openings } in
    let mid : Stacked = record old { at = c.ready.new.self } in
    rw (← c.self.view_is) (λ one. uses_fetches c.use_row.result (g.R.Reader.shown c.args.reader.now) c.args.steps.now c.ready.new.steps c.use_row.new.steps old.at.here mid c.use_row.new.self (c.use_row.ensures.used one) (c.use_row.ensures.alone one).1 c.in_ok-ready.ensures.fetches)

pub ready-requires-clause-fits : goal.ready-requires-clause-fits
ready-requires-clause-fits g c =
    let fits = rw (← c.self.view_is) at c.requires.fits in
    fits.at

pub use_row-requires-clause-fits : goal.use_row-requires-clause-fits
use_row-requires-clause-fits g c =
    let asked = c.args.asked.now in
    let shown = g.R.Reader.shown c.args.reader.now in
    let old : Stacked = record { above = c.self.inside.above.items; at = c.self.inside.at; openings = c.self.inside.openings } in
    let mid : Stacked = record old { at = c.ready.new.self } in
    let fits = rw (← c.self.view_is) at c.requires.fits in
    let caught = rw c.in-Row.is at c.in_ok-ready.ensures.caught in
    (kept_at asked shown old mid fits refl caught.0).fits

pub returns-in_err-ready-clause-once : goal.returns-in_err-ready-clause-once
returns-in_err-ready-clause-once g c =
    rw (← c.self.view_is) (λ one. c.ready.ensures.once)

pub returns-in-Working-clause-once : goal.returns-in-Working-clause-once
returns-in-Working-clause-once g c =
    rw (← c.self.view_is) (λ one. c.ready.ensures.once)

pub returns-in-Row-clause-err : goal.returns-in-Row-clause-err
returns-in-Row-clause-err g c =
    let asked = c.args.asked.now in
    let shown = g.R.Reader.shown c.args.reader.now in
    let old : Stacked = record { above = c.self.inside.above.items; at = c.self.inside.at; openings = c.self.inside.openings } in
    let mid : Stacked = record old { at = c.ready.new.self } in
    let fits = rw (← c.self.view_is) at c.requires.fits in
    let caught = rw c.in-Row.is at c.in_ok-ready.ensures.caught in
    rw (← c.self.view_is) (kept_or c.use_row.result asked shown old mid c.use_row.new.self (kept_at asked shown old mid fits refl caught.0) c.use_row.ensures.err)
