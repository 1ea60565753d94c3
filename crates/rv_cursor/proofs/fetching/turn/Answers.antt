use Rattle.std.proofs.Common.{IsSome, ◌∙◌, refl, subst, sym}
use Rattle.rv_value.proofs.Tests.{not_some}
use Rattle.rv_reader.specs.declared.step.Step.TheVariants.{Row, Working, End}
use Rattle.rv_cursor.specs.Left.{seen_by}
use Rattle.rv_cursor.specs.Moves.Move.{Lost}
use Rattle.rv_cursor.proofs.Holding.{kept_stays, nearer_beside, none_left, none_moved, row_stays, stays_itself, stays_on}
use Rattle.rv_cursor.proofs.Moving.{end_is_no_work, front_err, front_moves, front_ok, held_is_no_work, held_turn, moves_by, moves_on, moves_rest, none_held, turn_ends, turn_gives, turn_works}
use Rattle.rv_cursor.proofs.fetching.turn.Goals as goal

pub work_beside-requires : goal.work_beside-requires
work_beside-requires g c =
    let shown = g.R.Reader.shown c.args.reader.now in
    let empty = not_some c.args.cursor.now.hand (sym c.is_some.ensures ∙ c.if-is_some.false) in
    let moves = rw c.in-Row.is at c.in_ok-offer.ensures.step in
    let brought = row_stays shown c.args.cursor.now c.step.new.self c.in-Row.offer c.replace.new.self c.replace.ensures.after empty c.requires.fits c.step.ensures.fits moves in
    record { fits = brought.fits }

pub work_beside-requires-in-Working : goal.work_beside-requires-in-Working
work_beside-requires-in-Working g c =
    let shown = g.R.Reader.shown c.args.reader.now in
    let empty = not_some c.args.cursor.now.hand (sym c.is_some.ensures ∙ c.if-is_some.false) in
    let moves = rw c.in-Working.is at c.in_ok-offer.ensures.step in
    let kept = kept_stays shown c.args.cursor.now c.step.new.self empty c.requires.fits c.step.ensures.fits moves.asked moves.step in
    record { fits = kept.fits }

pub returns-then-is_some : goal.returns-then-is_some
returns-then-is_some g c =
    let some = sym c.is_some.ensures ∙ c.if-is_some.true in
    record {
      stays = stays_itself (g.R.Reader.shown c.args.reader.now) c.args.cursor.now c.requires.fits;
      hand = some;
      nearer = held_is_no_work;
      turn = λ replies. held_turn _ replies c.args.beside _ _ _ c.args.cursor.now.plan c.args.cursor.now.plan some refl;
      held = λ some. refl;
      moves = moves_rest _ _ _;
      stays_rule = refl;
    }

pub returns-in_err-offer-clause-stays : goal.returns-in_err-offer-clause-stays
returns-in_err-offer-clause-stays g c =
    let shown = g.R.Reader.shown c.args.reader.now in
    let empty = not_some c.args.cursor.now.hand (sym c.is_some.ensures ∙ c.if-is_some.false) in
    let kept = kept_stays shown c.args.cursor.now c.step.new.self empty c.requires.fits c.step.ensures.fits c.in_err-offer.ensures.err.asked c.in_err-offer.ensures.err.rest_kept in
    kept

pub returns-in_err-offer-clause-held : goal.returns-in_err-offer-clause-held
returns-in_err-offer-clause-held g c =
    let empty = not_some c.args.cursor.now.hand (sym c.is_some.ensures ∙ c.if-is_some.false) in
    λ some. absurd (none_held _ some empty)

pub returns-in_err-offer-clause-moves : goal.returns-in_err-offer-clause-moves
returns-in_err-offer-clause-moves g c =
    let shown = g.R.Reader.shown c.args.reader.now in
    moves_by Lost _ _ _ _ (front_err _ (seen_by shown c.args.cursor.now) _ _ _ _ c.args.cursor.now.plan c.step.new.self c.step.ensures.counts c.step.ensures.asks c.step.ensures.once c.in_err-offer.ensures.err c.step.ensures.lost c.step.ensures.fits)

pub returns-in-Row : goal.returns-in-Row
returns-in-Row g c =
    let shown = g.R.Reader.shown c.args.reader.now in
    let empty = not_some c.args.cursor.now.hand (sym c.is_some.ensures ∙ c.if-is_some.false) in
    let moves = rw c.in-Row.is at c.in_ok-offer.ensures.step in
    let brought = row_stays shown c.args.cursor.now c.step.new.self c.in-Row.offer c.replace.new.self c.replace.ensures.after empty c.requires.fits c.step.ensures.fits moves in
    let front = front_ok (Row c.in-Row.offer) _ (seen_by shown c.args.cursor.now) _ _ _ _ c.args.cursor.now.plan c.step.new.self c.step.ensures.counts c.step.ensures.asks c.step.ensures.once moves (rw c.in-Row.is at c.in_ok-offer.ensures.spends) c.in_ok-offer.ensures.few c.step.ensures.fits in
    record {
      stays = stays_on shown _ _ _ brought c.work_beside.ensures.stays;
      hand = subst IsSome (sym (c.work_beside.ensures.hand ∙ c.replace.ensures.after)) refl;
      nearer = held_is_no_work;
      turn = λ replies. turn_gives c.in-Row.offer _ replies c.args.beside _ _ _ _ _ _ _ empty c.step.ensures.stays refl front c.work_beside.ensures.beside;
      held = λ some. absurd (none_held _ some empty);
      moves = moves_on _ _ _ _ _ _ _ c.step.ensures.stays refl (front_moves (Row c.in-Row.offer) _ _ _ _ front) c.work_beside.ensures.moves;
      stays_rule = c.work_beside.ensures.stays_rule ∙ c.step.ensures.stays;
    }

pub returns-in-Working : goal.returns-in-Working
returns-in-Working g c =
    let shown = g.R.Reader.shown c.args.reader.now in
    let empty = not_some c.args.cursor.now.hand (sym c.is_some.ensures ∙ c.if-is_some.false) in
    let moves = rw c.in-Working.is at c.in_ok-offer.ensures.step in
    let kept = kept_stays shown c.args.cursor.now c.step.new.self empty c.requires.fits c.step.ensures.fits moves.asked moves.step in
    let front = front_ok Working _ (seen_by shown c.args.cursor.now) _ _ _ _ c.args.cursor.now.plan c.step.new.self c.step.ensures.counts c.step.ensures.asks c.step.ensures.once moves (rw c.in-Working.is at c.in_ok-offer.ensures.spends) c.in_ok-offer.ensures.few c.step.ensures.fits in
    record {
      stays = stays_on shown _ _ _ kept c.work_beside-in-Working.ensures.stays;
      hand = c.work_beside-in-Working.ensures.hand ∙ empty;
      nearer = λ works. nearer_beside shown c.args.cursor.now c.step.new.self c.work_beside-in-Working.new.cursor empty moves c.work_beside-in-Working.ensures.hand c.work_beside-in-Working.ensures.work;
      turn = λ replies. turn_works _ c.args.beside _ _ _ _ _ _ _ empty c.step.ensures.stays refl front c.work_beside-in-Working.ensures.beside;
      held = λ some. absurd (none_held _ some empty);
      moves = moves_on _ _ _ _ _ _ _ c.step.ensures.stays refl (front_moves Working _ _ _ _ front) c.work_beside-in-Working.ensures.moves;
      stays_rule = c.work_beside-in-Working.ensures.stays_rule ∙ c.step.ensures.stays;
    }

pub returns-in-End : goal.returns-in-End
returns-in-End g c =
    let shown = g.R.Reader.shown c.args.reader.now in
    let empty = not_some c.args.cursor.now.hand (sym c.is_some.ensures ∙ c.if-is_some.false) in
    let moves = rw c.in-End.is at c.in_ok-offer.ensures.step in
    let front = front_ok End _ (seen_by shown c.args.cursor.now) _ _ _ _ c.args.cursor.now.plan c.step.new.self c.step.ensures.counts c.step.ensures.asks c.step.ensures.once moves (rw c.in-End.is at c.in_ok-offer.ensures.spends) c.in_ok-offer.ensures.few c.step.ensures.fits in
    record {
      stays = kept_stays shown c.args.cursor.now c.step.new.self empty c.requires.fits c.step.ensures.fits moves.asked (none_moved _ _ moves.step.0 moves.step.1);
      hand = (empty, none_left shown (record c.args.cursor.now { plan = c.step.new.self }) empty moves.step.1);
      nearer = end_is_no_work;
      turn = λ replies. turn_ends _ replies c.args.beside _ _ _ _ empty front;
      held = λ some. absurd (none_held _ some empty);
      moves = front_moves End _ _ _ _ front;
      stays_rule = c.step.ensures.stays;
    }
