use Rattle.std.proofs.Common.{◌∙◌, sym}
use Rattle.rv_value.proofs.Lists.{on_err}
use Rattle.rv_reader.specs.declared.step.Step.TheVariants.{Row, Working}
use Rattle.rv_search.proofs.Gathering.{gathers_none, gathers_row}
use Rattle.rv_search.proofs.Goings.{some_none, some_one}
use Rattle.rv_search.proofs.search.forward.Goals as goal

pub returns-in_ok-push-in-Row-clause-gathers : goal.returns-in_ok-push-in-Row-clause-gathers
returns-in_ok-push-in-Row-clause-gathers g c =
    let shown = g.R.Reader.shown c.args.reader.now in
    let gives = rw c.in-Row.is at c.in_ok-row.ensures.step in
    let spends = rw c.in-Row.is at (c.in_ok-row.ensures.spends c.requires.awaiting) in
    rw c.in_ok-push-in-Row.ensures.items (gathers_row shown c.args.steps.now c.fg_step.new.steps c.args.found.now.items c.args.retrieval.now.query.need c.args.retrieval.now c.fg_step.new.self c.in-Row.row
    (record { fits = c.fg_step.ensures.fits; awaiting = c.fg_step.ensures.awaiting c.requires.awaiting; spends = spends.0; settled = c.fg_step.ensures.settled; pages = c.fg_step.ensures.pages; records = c.in_ok-row.ensures.records }) gives.0)

pub returns-in_ok-push-in-Row-clause-nearer : goal.returns-in_ok-push-in-Row-clause-nearer
returns-in_ok-push-in-Row-clause-nearer g c = λ more. (let spends = rw c.in-Row.is at (c.in_ok-row.ensures.spends c.requires.awaiting) in spends.1)

pub returns-in-Working-clause-gathers : goal.returns-in-Working-clause-gathers
returns-in-Working-clause-gathers g c =
    let shown = g.R.Reader.shown c.args.reader.now in
    let same = rw c.in-Working.is at c.in_ok-row.ensures.step in
    let spends = rw c.in-Working.is at (c.in_ok-row.ensures.spends c.requires.awaiting) in
    gathers_none shown c.args.steps.now c.fg_step.new.steps c.args.found.now.items c.args.retrieval.now c.fg_step.new.self
    (record { fits = c.fg_step.ensures.fits; awaiting = c.fg_step.ensures.awaiting c.requires.awaiting; spends = spends.0; settled = c.fg_step.ensures.settled; pages = c.fg_step.ensures.pages; records = c.in_ok-row.ensures.records }) same

pub returns-in-Working-clause-nearer : goal.returns-in-Working-clause-nearer
returns-in-Working-clause-nearer g c = λ more. (let spends = rw c.in-Working.is at (c.in_ok-row.ensures.spends c.requires.awaiting) in spends.1)

pub returns-in-End-clause-gathers : goal.returns-in-End-clause-gathers
returns-in-End-clause-gathers g c =
    let shown = g.R.Reader.shown c.args.reader.now in
    let none = rw c.in-End.is at c.in_ok-row.ensures.step in
    let spends = rw c.in-End.is at (c.in_ok-row.ensures.spends c.requires.awaiting) in
    gathers_none shown c.args.steps.now c.fg_step.new.steps c.args.found.now.items c.args.retrieval.now c.fg_step.new.self
    (record { fits = c.fg_step.ensures.fits; awaiting = c.fg_step.ensures.awaiting c.requires.awaiting; spends = spends.0; settled = c.fg_step.ensures.settled; pages = c.fg_step.ensures.pages; records = c.in_ok-row.ensures.records }) (none.1 ∙ sym none.0)

pub returns-in-End-clause-ends : goal.returns-in-End-clause-ends
returns-in-End-clause-ends g c = λ ended. (let none = rw c.in-End.is at c.in_ok-row.ensures.step in none.1)

pub returns-in_ok-push-in-Row-clause-does : goal.returns-in_ok-push-in-Row-clause-does
returns-in_ok-push-in-Row-clause-does g c = (Row c.in-Row.row, rw c.in-Row.is at (c.in_ok-row.ensures.does c.requires.tells))

pub returns-in-Working-clause-does : goal.returns-in-Working-clause-does
returns-in-Working-clause-does g c = (Working, rw c.in-Working.is at (c.in_ok-row.ensures.does c.requires.tells))

pub returns-in-End-clause-does : goal.returns-in-End-clause-does
returns-in-End-clause-does g c = rw c.in-End.is at (c.in_ok-row.ensures.does c.requires.tells)

pub returns-in_err-push-in-Row-clause-lost : goal.returns-in_err-push-in-Row-clause-lost
returns-in_err-push-in-Row-clause-lost g c = on_err _ _ (some_one _ _ _ (g.R.Reader.shown c.args.reader.now) c.args.steps.now c.fg_step.new.steps _ c.args.retrieval.now c.fg_step.new.self (c.in_ok-row.ensures.does c.requires.tells))

pub returns-in_err-row-clause-lost : goal.returns-in_err-row-clause-lost
returns-in_err-row-clause-lost g c = on_err _ _ (some_none _ _ _ (g.R.Reader.shown c.args.reader.now) c.args.steps.now c.args.retrieval.now c.in_err-row.ensures.quiet)
