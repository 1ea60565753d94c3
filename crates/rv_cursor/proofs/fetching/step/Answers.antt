use Rattle.std.proofs.Common.{arith, ◌∙◌}
use Rattle.rv_cursor.proofs.Holding.{seen_stays, stays_on}
use Rattle.rv_cursor.proofs.Moving.{backs_counted, backs_end, backs_more, moves_on}
use Rattle.rv_cursor.proofs.fetching.step.Goals as goal

pub pieces-preserved : goal.pieces-preserved
pieces-preserved g c =
    let before = c.pieces.invariant in
    let seen = seen_stays (g.R.Reader.shown c.args.reader.now) c.args.cursor.now c.pieces.cursor before.stays.same in
    let less = c.pieces-test.true in
    record {
      stays = stays_on (g.R.Reader.shown c.args.reader.now) c.args.cursor.now c.pieces.cursor c.work_piece.new.cursor before.stays c.work_piece.ensures.stays;
      hand = c.work_piece.ensures.hand ∙ before.hand;
      most = omega (arith, less);
      rule = c.work_piece.ensures.stays_rule ∙ before.rule;
      backs = backs_more c.pieces.done _ _ _ _ _ _ _ before.rule seen before.backs (rw c.in-Ok-true.field-0-test at c.in-Ok-true.ensures.worked);
      moves = moves_on _ _ _ _ _ _ _ before.rule seen before.moves c.work_piece.ensures.moves;
    }

pub returns-in-Ok-false-clause-counted : goal.returns-in-Ok-false-clause-counted
returns-in-Ok-false-clause-counted g c = backs_counted c.pieces.done _ _ _ _ (backs_end c.pieces.done _ _ _ _ _ c.pieces.invariant.backs (rw c.in-Ok-false.field-0-test at c.in-Ok-false.ensures.worked))

pub returns-in-Err-clause-moves : goal.returns-in-Err-clause-moves
returns-in-Err-clause-moves g c = moves_on _ _ _ _ _ _ _ c.pieces.invariant.rule (seen_stays (g.R.Reader.shown c.args.reader.now) c.args.cursor.now c.pieces.cursor c.pieces.invariant.stays.same) c.pieces.invariant.moves c.work_piece.ensures.moves

pub returns-clause-counted : goal.returns-clause-counted
returns-clause-counted g c = backs_counted c.pieces.done _ _ _ _ c.pieces.invariant.backs
