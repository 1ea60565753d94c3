use Rattle.std.proofs.Common.{◌∙◌, ap, refl}
use Rattle.rv_lang.specs.declared.reply.Reply.TheVariants.{End}
use Rattle.rv_value.proofs.Lists.{on_err}
use Rattle.rv_cursor.specs.Left.{left}
use Rattle.rv_cursor.proofs.Holding.{end_takes, same_on, takes_then}
use Rattle.rv_cursor.proofs.Moving.{moves_given, none_told, ruled_same, turn_given}
use Rattle.rv_cursor.proofs.fetching.fetch_step.Goals as goal

pub give-requires : goal.give-requires
give-requires g c = record { held = rw c.in-Ok-Row.field-0-is at c.in-Ok-Row.ensures.hand }

pub returns-in_ok-replies-in-Ok-Row : goal.returns-in_ok-replies-in-Ok-Row
returns-in_ok-replies-in-Ok-Row g c =
    let shown = g.R.Reader.shown c.args.reader.now in
    let stays = c.turn.ensures.stays in
    record {
      fits = c.give.ensures.fits shown stays.fits;
      same = same_on _ c.turn.new.cursor _ stays.same c.give.ensures.same;
      ok = takes_then _ _ _ c.in_ok-replies-in-Ok-Row.replies stays.left (c.in_ok-replies-in-Ok-Row.ensures.ok shown stays.fits);
      err = tt;
      given = c.in_ok-replies-in-Ok-Row.ensures.given;
      nearer = tt;
      turn = turn_given _ _ c.args.beside _ _ _ _ c.turn.new.cursor.plan c.give.new.cursor.plan c.give.ensures.plan (rw c.in-Ok-Row.field-0-is at (c.in-Ok-Row.ensures.turn c.in_ok-replies-in-Ok-Row.replies));
      held = λ some. ruled_same _ _ _ _ (c.give.ensures.plan, refl) ∙ c.turn.ensures.held some;
      moves = moves_given _ _ _ _ c.turn.new.cursor.plan c.give.new.cursor.plan c.give.ensures.plan c.turn.ensures.moves;
      stays_rule = c.turn.ensures.stays_rule;
    }

pub returns-in_err-replies-in-Ok-Row-clause-fits : goal.returns-in_err-replies-in-Ok-Row-clause-fits
returns-in_err-replies-in-Ok-Row-clause-fits g c = c.give.ensures.fits (g.R.Reader.shown c.args.reader.now) c.turn.ensures.stays.fits

pub returns-in_err-replies-in-Ok-Row-clause-same : goal.returns-in_err-replies-in-Ok-Row-clause-same
returns-in_err-replies-in-Ok-Row-clause-same g c = same_on _ c.turn.new.cursor _ c.turn.ensures.stays.same c.give.ensures.same

pub returns-in_err-replies-in-Ok-Row-clause-err : goal.returns-in_err-replies-in-Ok-Row-clause-err
returns-in_err-replies-in-Ok-Row-clause-err g c = on_err _ _ (ap (left (g.R.Reader.shown c.args.reader.now)) c.in_err-replies-in-Ok-Row.ensures.err ∙ c.turn.ensures.stays.left)

pub returns-in_err-replies-in-Ok-Row-clause-held : goal.returns-in_err-replies-in-Ok-Row-clause-held
returns-in_err-replies-in-Ok-Row-clause-held g c = λ some. ruled_same _ _ _ _ (c.give.ensures.plan, refl) ∙ c.turn.ensures.held some

pub returns-in_err-replies-in-Ok-Row-clause-moves : goal.returns-in_err-replies-in-Ok-Row-clause-moves
returns-in_err-replies-in-Ok-Row-clause-moves g c = moves_given _ _ _ _ c.turn.new.cursor.plan c.give.new.cursor.plan c.give.ensures.plan c.turn.ensures.moves

pub returns-in-Ok-End : goal.returns-in-Ok-End
returns-in-Ok-End g c =
    let stays = c.turn.ensures.stays in
    let ended = rw c.in-Ok-End.field-0-is at c.in-Ok-End.ensures.hand in
    record {
      fits = stays.fits;
      same = stays.same;
      ok = end_takes _ _ ended.1 stays.left;
      err = tt;
      given = ended.0;
      nearer = tt;
      turn = rw c.in-Ok-End.field-0-is at (c.in-Ok-End.ensures.turn (End, End));
      held = c.turn.ensures.held;
      moves = c.turn.ensures.moves;
      stays_rule = c.turn.ensures.stays_rule;
    }

pub returns-in-Ok-Working : goal.returns-in-Ok-Working
returns-in-Ok-Working g c =
    let stays = c.turn.ensures.stays in
    record {
      fits = stays.fits;
      same = stays.same;
      ok = stays.left;
      err = tt;
      given = rw c.in-Ok-Working.field-0-is at c.in-Ok-Working.ensures.hand;
      nearer = c.in-Ok-Working.ensures.nearer c.in-Ok-Working.field-0-is;
      turn = rw c.in-Ok-Working.field-0-is at (c.in-Ok-Working.ensures.turn none_told);
      held = c.turn.ensures.held;
      moves = c.turn.ensures.moves;
      stays_rule = c.turn.ensures.stays_rule;
    }
