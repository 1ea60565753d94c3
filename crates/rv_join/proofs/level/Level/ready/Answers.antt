use Rattle.std.proofs.Common.{inr, refl, sym, ◌∙◌}
use Rattle.rv_value.proofs.Tests.{not_some}
use Rattle.rv_access.specs.Accesses.{effort}
use Rattle.rv_join.proofs.OneItem.{catch_err, catch_none, catch_row, ended_spends, held_spends, no_call, no_fetch, row_spends, worked_spends}
use Rattle.rv_join.proofs.Catching.{ended_moves, found_moves, same_moves, worked_moves}
use Rattle.rv_join.proofs.level.Level.ready.Goals as goal

pub returns-then-is_some : goal.returns-then-is_some
returns-then-is_some g c =
    let some = sym c.is_some.ensures ∙ c.if-is_some.true in
    record {
      caught = (same_moves c.args._asked.now (g.R.Reader.shown c.args.reader.now) c.args.self.now c.requires.fits, some);
      counts = inr (refl, refl);
      stays = refl;
      once = no_call _ _ _ _ _;
      spends = held_spends c.args.steps.now (effort c.args.self.now.here (g.R.Reader.shown c.args.reader.now)) c.args.self.now.row some;
      fetches = no_fetch _ _ _;
      err = tt;
    }

pub returns-in-Row-clause-caught : goal.returns-in-Row-clause-caught
returns-in-Row-clause-caught g c =
    let none = not_some c.args.self.now.row (sym c.is_some.ensures ∙ c.if-is_some.false) in
    rw c.replace-before.ensures.after (found_moves c.args._asked.now (g.R.Reader.shown c.args.reader.now) c.args.self.now c.fg_step.new.self c.in-Row.record c.args.steps.now c.fg_step.new.steps c.requires.can c.requires.fits none c.fg_step.ensures.query c.fg_step.ensures.fits c.fg_step.ensures.tries c.fg_step.ensures.awaiting c.fg_step.ensures.tells (rw c.in-Row.is at c.in_ok-record.ensures.step), refl)

pub returns-in-Working-clause-caught : goal.returns-in-Working-clause-caught
returns-in-Working-clause-caught g c =
    let spends = c.in_ok-record.ensures.spends c.requires.fits.awaiting in
    worked_moves c.args._asked.now (g.R.Reader.shown c.args.reader.now) c.args.self.now c.fg_step.new.self c.args.steps.now c.fg_step.new.steps c.requires.fits c.fg_step.ensures.query c.fg_step.ensures.fits c.fg_step.ensures.tries c.fg_step.ensures.awaiting c.fg_step.ensures.tells (rw c.in-Working.is at c.in_ok-record.ensures.step) (rw c.in-Working.is at spends).1

pub returns-in-End-clause-caught : goal.returns-in-End-clause-caught
returns-in-End-clause-caught g c =
    let none = not_some c.args.self.now.row (sym c.is_some.ensures ∙ c.if-is_some.false) in
    ended_moves c.args._asked.now (g.R.Reader.shown c.args.reader.now) c.args.self.now c.fg_step.new.self c.args.steps.now c.fg_step.new.steps c.requires.fits none c.fg_step.ensures.query c.fg_step.ensures.fits c.fg_step.ensures.tries c.fg_step.ensures.awaiting c.fg_step.ensures.tells (rw c.in-End.is at c.in_ok-record.ensures.step)

pub returns-in-Row-clause-once : goal.returns-in-Row-clause-once
returns-in-Row-clause-once g c =
    let none = not_some c.args.self.now.row (sym c.is_some.ensures ∙ c.if-is_some.false) in
    let spends = c.in_ok-record.ensures.spends c.requires.fits.awaiting in
    rw c.replace-before.ensures.after (catch_row _ _ _ (g.R.Reader.shown c.args.reader.now) c.args.steps.now c.fg_step.new.steps _ c.args.self.now c.fg_step.new.self c.in-Row.record.values none (c.in_ok-record.ensures.does c.requires.fits.tells) (c.fg_step.ensures.may_read c.requires.fits.tells) c.fg_step.ensures.settled c.fg_step.ensures.unasked c.fg_step.ensures.pages c.in_ok-record.ensures.records c.fg_step.ensures.tries (rw c.in-Row.is at spends).1)

pub returns-in-Row-clause-spends : goal.returns-in-Row-clause-spends
returns-in-Row-clause-spends g c =
    let none = not_some c.args.self.now.row (sym c.is_some.ensures ∙ c.if-is_some.false) in
    let spends = c.in_ok-record.ensures.spends c.requires.fits.awaiting in
    let row = rw c.in-Row.is at spends in
    row_spends c.args.steps.now c.fg_step.new.steps _ _ c.args.self.now.row none row.0 row.1

pub returns-in-Working-clause-once : goal.returns-in-Working-clause-once
returns-in-Working-clause-once g c = catch_none _ _ _ (g.R.Reader.shown c.args.reader.now) c.args.steps.now c.fg_step.new.steps _ c.args.self.now c.fg_step.new.self (c.in_ok-record.ensures.does c.requires.fits.tells) (c.fg_step.ensures.may_read c.requires.fits.tells) c.fg_step.ensures.settled c.fg_step.ensures.unasked c.fg_step.ensures.pages c.in_ok-record.ensures.records c.fg_step.ensures.tries

pub returns-in-Working-clause-spends : goal.returns-in-Working-clause-spends
returns-in-Working-clause-spends g c =
    let spends = c.in_ok-record.ensures.spends c.requires.fits.awaiting in
    let row = rw c.in-Working.is at spends in
    worked_spends c.args.steps.now c.fg_step.new.steps _ _ c.args.self.now.row row.0 row.1

pub returns-in-End-clause-once : goal.returns-in-End-clause-once
returns-in-End-clause-once g c = catch_none _ _ _ (g.R.Reader.shown c.args.reader.now) c.args.steps.now c.fg_step.new.steps _ c.args.self.now c.fg_step.new.self (c.in_ok-record.ensures.does c.requires.fits.tells) (c.fg_step.ensures.may_read c.requires.fits.tells) c.fg_step.ensures.settled c.fg_step.ensures.unasked c.fg_step.ensures.pages c.in_ok-record.ensures.records c.fg_step.ensures.tries

pub returns-in-End-clause-spends : goal.returns-in-End-clause-spends
returns-in-End-clause-spends g c =
    let spends = c.in_ok-record.ensures.spends c.requires.fits.awaiting in
    let row = rw c.in-End.is at spends in
    ended_spends c.args.steps.now c.fg_step.new.steps _ _ c.args.self.now.row row.0 row.1

pub returns-in_err-record-clause-once : goal.returns-in_err-record-clause-once
returns-in_err-record-clause-once g c = catch_err _ _ _ (g.R.Reader.shown c.args.reader.now) c.args.steps.now c.fg_step.new.steps c.args.self.now c.fg_step.new.self c.in_err-record.ensures.quiet c.in_err-record.ensures.course c.in_err-record.ensures.still (c.fg_step.ensures.may_read c.requires.fits.tells) c.in_err-record.ensures.fewer c.fg_step.ensures.settled c.fg_step.ensures.pages c.fg_step.ensures.tries

pub returns-in-Row-clause-fetches : goal.returns-in-Row-clause-fetches
returns-in-Row-clause-fetches g c = record { records = c.in_ok-record.ensures.records }

pub returns-in-Working-clause-fetches : goal.returns-in-Working-clause-fetches
returns-in-Working-clause-fetches g c = record { records = c.in_ok-record.ensures.records }

pub returns-in-End-clause-fetches : goal.returns-in-End-clause-fetches
returns-in-End-clause-fetches g c = record { records = c.in_ok-record.ensures.records }
