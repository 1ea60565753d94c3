use Rattle.std.proofs.Common.{rules, ◌∙◌, le_trans}
use Rattle.rv_cursor.specs.Left.{work}
use Rattle.rv_cursor.proofs.Holding.{seen_stays, stays_on}
use Rattle.rv_cursor.proofs.Moving.{beside_lacks, beside_more, beside_none, moves_on}
use Rattle.rv_cursor.proofs.fetching.work_beside.Goals as goal

pub pieces-preserved : goal.pieces-preserved
pieces-preserved g c =
    let before = c.pieces.invariant in
    let seen = seen_stays (g.R.Reader.shown c.args.reader.now) c.args.cursor.now c.pieces.cursor before.stays.same in
    record {
      stays = stays_on (g.R.Reader.shown c.args.reader.now) c.args.cursor.now c.pieces.cursor c.work_piece.new.cursor before.stays c.work_piece.ensures.stays;
      hand = c.work_piece.ensures.hand ∙ before.hand;
      work = le_trans c.work_piece.ensures.work c.pieces.invariant.work;
      rule = c.work_piece.ensures.stays_rule ∙ before.rule;
      steps_made = beside_more c.pieces._done _ _ _ _ _ _ _ before.rule seen before.steps_made (search rules) (rw c.in-Ok-true.field-0-test at c.in-Ok-true.ensures.worked);
      moves = moves_on _ _ _ _ _ _ _ before.rule seen before.moves c.work_piece.ensures.moves;
    }

pub returns-in-Ok-false-clause-beside : goal.returns-in-Ok-false-clause-beside
returns-in-Ok-false-clause-beside g c = beside_none c.args.most c.pieces._done _ _ _ _ _ c.pieces-test.true c.pieces.invariant.steps_made (rw c.in-Ok-false.field-0-test at c.in-Ok-false.ensures.worked)

pub returns-in-Err-clause-beside : goal.returns-in-Err-clause-beside
returns-in-Err-clause-beside g c = beside_lacks c.args.most c.pieces._done _ _ _ _ _ _ (seen_stays (g.R.Reader.shown c.args.reader.now) c.args.cursor.now c.pieces.cursor c.pieces.invariant.stays.same) c.pieces-test.true c.pieces.invariant.steps_made (search rules) c.in-Err.ensures.lacks

pub returns-in-Err-clause-moves : goal.returns-in-Err-clause-moves
returns-in-Err-clause-moves g c = moves_on _ _ _ _ _ _ _ c.pieces.invariant.rule (seen_stays (g.R.Reader.shown c.args.reader.now) c.args.cursor.now c.pieces.cursor c.pieces.invariant.stays.same) c.pieces.invariant.moves c.work_piece.ensures.moves
