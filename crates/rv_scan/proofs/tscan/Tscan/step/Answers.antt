use Rattle.std.proofs.Common.{ap}
use Rattle.rv_scan.specs.Due.{skipped}
use Rattle.rv_scan.specs.Places.{Place}
use Rattle.rv_scan.proofs.Pages.{held_columns, given_fits, given_step, fits_after, pages_after, step_after}
use Rattle.rv_scan.proofs.tscan.Tscan.step.Goals as goal

pub next_due-requires-clause-columns : goal.next_due-requires-clause-columns
next_due-requires-clause-columns g c =
    let rows = (g.R.Reader.shown c.args.reader.now).rows c.args.self.now.table c.args.self.now.snap in
    rw c.held.ensures (held_columns c.args.only.now c.args.self.now rows c.requires.fits c.requires.columns)

pub returns-in-Some-clause-fits : goal.returns-in-Some-clause-fits
returns-in-Some-clause-fits g c =
    let rows = (g.R.Reader.shown c.args.reader.now).rows c.args.self.now.table c.args.self.now.snap in
    let found = rw c.held.ensures at c.in-Some.ensures in
    rw c.give.ensures.after (given_fits c.args.self.now c.in-Some.passed rows found.0 c.requires.fits)

pub returns-in-Some-clause-step : goal.returns-in-Some-clause-step
returns-in-Some-clause-step g c =
    let rows = (g.R.Reader.shown c.args.reader.now).rows c.args.self.now.table c.args.self.now.snap in
    let pages = (g.R.Reader.shown c.args.reader.now).pages c.args.self.now.table c.args.self.now.snap in
    let found = rw c.held.ensures at c.in-Some.ensures in
    rw c.give.ensures.after (given_step c.args.only.now (skipped c.args.skip.now) c.args.self.now c.in-Some.passed rows pages c.give.result found c.give.ensures.row)

pub returns-in-None-clause-fits : goal.returns-in-None-clause-fits
returns-in-None-clause-fits g c =
    let rows = (g.R.Reader.shown c.args.reader.now).rows c.args.self.now.table c.args.self.now.snap in
    let pages = (g.R.Reader.shown c.args.reader.now).pages c.args.self.now.table c.args.self.now.snap in
    fits_after c.turn.result c.args.self.now c.turn.new.self rows pages c.turn.ensures.table c.requires.fits c.turn.ensures.turns c.turn.ensures.err

pub returns-in-None-clause-step : goal.returns-in-None-clause-step
returns-in-None-clause-step g c =
    let rows = (g.R.Reader.shown c.args.reader.now).rows c.args.self.now.table c.args.self.now.snap in
    let pages = (g.R.Reader.shown c.args.reader.now).pages c.args.self.now.table c.args.self.now.snap in
    let none = rw c.held.ensures at c.in-None.ensures in
    step_after c.turn.result c.args.only.now (skipped c.args.skip.now) c.args.self.now c.turn.new.self rows pages c.turn.ensures.table none c.turn.ensures.turns

pub returns-in-Some-clause-pages : goal.returns-in-Some-clause-pages
returns-in-Some-clause-pages g c = ap (λ (p : Place). p.next) c.give.ensures.after

pub returns-in-None-clause-pages : goal.returns-in-None-clause-pages
returns-in-None-clause-pages g c =
    let rows = (g.R.Reader.shown c.args.reader.now).rows c.args.self.now.table c.args.self.now.snap in
    let pages = (g.R.Reader.shown c.args.reader.now).pages c.args.self.now.table c.args.self.now.snap in
    pages_after c.turn.result c.args.self.now c.turn.new.self rows pages c.turn.ensures.turns
