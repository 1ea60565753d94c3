use Rattle.std.proofs.Common.{IsSome, ◌∙◌, ap, refl, subst, suc, sym}
use Rattle.std.proofs.lemmas.Result.{IfOk-weaker, on_err_weaker}
use Rattle.rv_value.proofs.Lists.{on_ok}
use Rattle.rv_cursor.specs.Left.{left}
use Rattle.rv_cursor.proofs.Holding.{end_takes, same_on, seen_stays, stays_on, takes_then}
use Rattle.rv_cursor.proofs.Moving.{fetch_ends, fetch_on, moves_given, moves_on, no_hand, none_held, none_told, ruled_same, turn_given}
use Rattle.rv_cursor.proofs.fetching.fetch.Goals as goal

pub give-requires : goal.give-requires
give-requires g c = record { held = rw c.in-Ok-Row.field-0-is at c.in-Ok-Row.ensures.hand }

pub returns-in-Ok-Row : goal.returns-in-Ok-Row
returns-in-Ok-Row g c =
    let shown = g.R.Reader.shown c.args.reader.now in
    let before = c.turns.invariant in
    let stays = stays_on shown _ _ _ before.stays c.turn.ensures.stays in
    let seen = seen_stays shown c.args.cursor.now c.turns.cursor before.stays.same in
    let turn = turn_given _ _ c.args.beside _ _ _ _ c.turn.new.cursor.plan c.give.new.cursor.plan c.give.ensures.plan (rw c.in-Ok-Row.field-0-is at (c.in-Ok-Row.ensures.turn none_told)) in
    record {
      fits = c.give.ensures.fits shown stays.fits;
      same = same_on _ c.turn.new.cursor _ stays.same c.give.ensures.same;
      ok = IfOk-weaker c.give.result _ _ (λ replies takes. takes_then _ _ _ replies stays.left (takes shown stays.fits)) c.give.ensures.ok;
      err = on_err_weaker c.give.result (λ same. ap (left shown) same ∙ stays.left) c.give.ensures.err;
      given = c.give.ensures.given;
      turns = on_ok c.give.result _ (fetch_ends c.turns.cursor.hand c.args.cursor.now.hand none_told c.args.beside before.turns.0 _ _ _ _ _ _ _ before.rule seen before.hand before.turns.1 turn);
      held = λ some. ruled_same _ _ _ _ (c.give.ensures.plan, refl) ∙ c.turn.ensures.held (subst IsSome (sym before.hand) some) ∙ before.held some;
      moves = moves_given _ _ _ _ c.turn.new.cursor.plan c.give.new.cursor.plan c.give.ensures.plan (moves_on _ _ _ _ _ _ _ before.rule seen before.moves c.turn.ensures.moves);
      stays_rule = c.turn.ensures.stays_rule ∙ before.rule;
    }

pub returns-in-Ok-End : goal.returns-in-Ok-End
returns-in-Ok-End g c =
    let shown = g.R.Reader.shown c.args.reader.now in
    let before = c.turns.invariant in
    let stays = stays_on shown _ _ _ before.stays c.turn.ensures.stays in
    let seen = seen_stays shown c.args.cursor.now c.turns.cursor before.stays.same in
    let ended = rw c.in-Ok-End.field-0-is at c.in-Ok-End.ensures.hand in
    record {
      fits = stays.fits;
      same = stays.same;
      ok = end_takes _ _ ended.1 stays.left;
      err = tt;
      given = ended.0;
      turns = fetch_ends c.turns.cursor.hand c.args.cursor.now.hand none_told c.args.beside before.turns.0 _ _ _ _ _ _ _ before.rule seen before.hand before.turns.1 (rw c.in-Ok-End.field-0-is at (c.in-Ok-End.ensures.turn none_told));
      held = λ some. c.turn.ensures.held (subst IsSome (sym before.hand) some) ∙ before.held some;
      moves = moves_on _ _ _ _ _ _ _ before.rule seen before.moves c.turn.ensures.moves;
      stays_rule = c.turn.ensures.stays_rule ∙ before.rule;
    }

pub returns-in-Err : goal.returns-in-Err
returns-in-Err g c =
    let shown = g.R.Reader.shown c.args.reader.now in
    let before = c.turns.invariant in
    let stays = stays_on shown _ _ _ before.stays c.turn.ensures.stays in
    record {
      fits = stays.fits;
      same = stays.same;
      ok = tt;
      err = stays.left;
      given = tt;
      turns = tt;
      held = λ some. c.turn.ensures.held (subst IsSome (sym before.hand) some) ∙ before.held some;
      moves = moves_on _ _ _ _ _ _ _ before.rule (seen_stays shown c.args.cursor.now c.turns.cursor before.stays.same) before.moves c.turn.ensures.moves;
      stays_rule = c.turn.ensures.stays_rule ∙ before.rule;
    }

pub turns-preserved : goal.turns-preserved
turns-preserved g c =
    let shown = g.R.Reader.shown c.args.reader.now in
    let turn = rw c.in-Ok-Working.field-0-is at (c.in-Ok-Working.ensures.turn none_told) in
    let before = c.turns.invariant in
    let none = no_hand c.turns.cursor.hand c.args.beside _ _ _ _ turn in
    let seen = seen_stays shown c.args.cursor.now c.turns.cursor before.stays.same in
    record {
      stays = stays_on shown _ _ _ before.stays c.turn.ensures.stays;
      rule = c.turn.ensures.stays_rule ∙ before.rule;
      turns = (suc before.turns.0, fetch_on c.turns.cursor.hand c.args.beside before.turns.0 _ _ _ _ _ _ _ before.rule seen before.turns.1 turn);
      hand = (rw c.in-Ok-Working.field-0-is at c.in-Ok-Working.ensures.hand) ∙ sym none ∙ before.hand;
      held = λ some. absurd (none_held _ some (sym before.hand ∙ none));
      moves = moves_on _ _ _ _ _ _ _ before.rule seen before.moves c.turn.ensures.moves;
    }
