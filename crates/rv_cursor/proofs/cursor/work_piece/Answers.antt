use Rattle.std.proofs.Common.{arith}
use Rattle.rv_cursor.specs.Left.{seen_by}
use Rattle.rv_cursor.proofs.Holding.{piece_stays, pieces_stay}
use Rattle.rv_cursor.specs.Moves.Move.{Take}
use Rattle.rv_cursor.proofs.Moving.{back_is, back_moves, gives_back, lacks_give, lacks_moves, lacks_take, moves_by, none_works, takes_out}
use Rattle.rv_cursor.proofs.cursor.work_piece.Goals as goal

pub returns-in-Ok-Nothing-clause-stays : goal.returns-in-Ok-Nothing-clause-stays
returns-in-Ok-Nothing-clause-stays g c = piece_stays (g.R.Reader.shown c.args.reader.now) c.args.cursor.now c.take.new.self c.requires.fits c.take.ensures.fits c.take.ensures.stays

pub returns-in-Err-clause-stays : goal.returns-in-Err-clause-stays
returns-in-Err-clause-stays g c = piece_stays (g.R.Reader.shown c.args.reader.now) c.args.cursor.now c.take.new.self c.requires.fits c.take.ensures.fits c.take.ensures.stays

pub returns-in-Ok-clause-stays : goal.returns-in-Ok-clause-stays
returns-in-Ok-clause-stays g c =
    let shown = g.R.Reader.shown c.args.reader.now in
    let seen = seen_by shown c.args.cursor.now in
    pieces_stay shown c.args.cursor.now c.take.new.self c.give.new.self c.requires.fits (c.give.ensures.fits seen c.take.ensures.fits) c.take.ensures.stays (c.give.ensures.stays seen c.take.ensures.fits)

pub returns-in-Err-give-clause-stays : goal.returns-in-Err-give-clause-stays
returns-in-Err-give-clause-stays g c =
    let shown = g.R.Reader.shown c.args.reader.now in
    let seen = seen_by shown c.args.cursor.now in
    pieces_stay shown c.args.cursor.now c.take.new.self c.give.new.self c.requires.fits (c.give.ensures.fits seen c.take.ensures.fits) c.take.ensures.stays (c.give.ensures.stays seen c.take.ensures.fits)

pub returns-in-Ok-clause-work : goal.returns-in-Ok-clause-work
returns-in-Ok-clause-work g c =
    let seen = seen_by (g.R.Reader.shown c.args.reader.now) c.args.cursor.now in
    let taken = c.take.ensures.stays.work in
    let given = (c.give.ensures.stays seen c.take.ensures.fits).work in
    omega (arith, taken, given)

pub returns-in-Ok-Nothing-clause-worked : goal.returns-in-Ok-Nothing-clause-worked
returns-in-Ok-Nothing-clause-worked g c =
    let none = rw c.in-Ok-Nothing.field-0-is at c.in-Ok-Nothing.ensures.answers in
    none_works _ c.args.cursor.now.plan c.take.new.self none (c.take.ensures.none none).1

pub returns-in-Ok-Nothing-clause-moves : goal.returns-in-Ok-Nothing-clause-moves
returns-in-Ok-Nothing-clause-moves g c = moves_by Take _ _ _ _ (takes_out (seen_by (g.R.Reader.shown c.args.reader.now) c.args.cursor.now) _ _ _ c.args.cursor.now.plan c.take.new.self c.take.ensures.reads c.take.ensures.counts c.take.ensures.once c.take.ensures.awaited c.take.ensures.pieces c.take.ensures.course c.take.ensures.stays c.take.ensures.fits)

pub returns-in-Err-clause-moves : goal.returns-in-Err-clause-moves
returns-in-Err-clause-moves g c = moves_by Take _ _ _ _ (takes_out (seen_by (g.R.Reader.shown c.args.reader.now) c.args.cursor.now) _ _ _ c.args.cursor.now.plan c.take.new.self c.take.ensures.reads c.take.ensures.counts c.take.ensures.once c.take.ensures.awaited c.take.ensures.pieces c.take.ensures.course c.take.ensures.stays c.take.ensures.fits)

pub returns-in-Err-clause-lacks : goal.returns-in-Err-clause-lacks
returns-in-Err-clause-lacks g c = lacks_take _ _ _ (λ none. let told = (c.take.ensures.none none).0 in let is = c.in-Err.is in cc) (takes_out (seen_by (g.R.Reader.shown c.args.reader.now) c.args.cursor.now) _ _ _ c.args.cursor.now.plan c.take.new.self c.take.ensures.reads c.take.ensures.counts c.take.ensures.once c.take.ensures.awaited c.take.ensures.pieces c.take.ensures.course c.take.ensures.stays c.take.ensures.fits)

pub returns-in-Err-give-clause-lacks : goal.returns-in-Err-give-clause-lacks
returns-in-Err-give-clause-lacks g c =
    let is = rw c.in-Ok-Piece.field-0-is at c.in-Ok-Piece.ensures.answers in
    lacks_give _ _ _ c.in-Ok-Piece.piece.id c.args.cursor.now.plan c.take.new.self c.give.new.self is (takes_out (seen_by (g.R.Reader.shown c.args.reader.now) c.args.cursor.now) _ _ _ c.args.cursor.now.plan c.take.new.self c.take.ensures.reads c.take.ensures.counts c.take.ensures.once c.take.ensures.awaited c.take.ensures.pieces c.take.ensures.course c.take.ensures.stays c.take.ensures.fits) c.in-Err-give.ensures.err c.in-Err-give.ensures.quiet

pub returns-in-Err-give-clause-moves : goal.returns-in-Err-give-clause-moves
returns-in-Err-give-clause-moves g c =
    let is = rw c.in-Ok-Piece.field-0-is at c.in-Ok-Piece.ensures.answers in
    lacks_moves _ _ _ _ (lacks_give _ _ _ c.in-Ok-Piece.piece.id c.args.cursor.now.plan c.take.new.self c.give.new.self is (takes_out (seen_by (g.R.Reader.shown c.args.reader.now) c.args.cursor.now) _ _ _ c.args.cursor.now.plan c.take.new.self c.take.ensures.reads c.take.ensures.counts c.take.ensures.once c.take.ensures.awaited c.take.ensures.pieces c.take.ensures.course c.take.ensures.stays c.take.ensures.fits) c.in-Err-give.ensures.err c.in-Err-give.ensures.quiet)

pub returns-in-Ok-clause-worked : goal.returns-in-Ok-clause-worked
returns-in-Ok-clause-worked g c =
    let seen = seen_by (g.R.Reader.shown c.args.reader.now) c.args.cursor.now in
    let ready = rw c.in-Ok-Piece.field-0-is at c.in-Ok-Piece.ensures.ready in
    let fits = c.take.ensures.fits in
    back_is _ seen _ _ _ c.args.cursor.now.plan c.take.new.self _ c.take.ensures.reads c.take.ensures.counts c.take.ensures.once c.take.ensures.awaited c.take.ensures.pieces c.take.ensures.course c.take.ensures.stays c.take.ensures.fits c.in-Ok-Piece.ensures.spends (gives_back c.in-Ok._given _ seen _ _ c.in-Ok-Piece.piece _ c.take.new.self c.give.new.self ready c.sieve.ensures c.in-Ok.ensures.given c.in-Ok.ensures.obeys c.in-Ok.ensures.pieces c.give.ensures.counts (c.in-Ok.ensures.lowers seen fits) (c.in-Ok.ensures.less seen fits) (c.give.ensures.settled seen fits) (c.give.ensures.stays seen fits) (c.give.ensures.fits seen fits))

pub returns-in-Ok-clause-moves : goal.returns-in-Ok-clause-moves
returns-in-Ok-clause-moves g c = back_moves _ _ _ _ (
    let seen = seen_by (g.R.Reader.shown c.args.reader.now) c.args.cursor.now in
    let ready = rw c.in-Ok-Piece.field-0-is at c.in-Ok-Piece.ensures.ready in
    let fits = c.take.ensures.fits in
    back_is _ seen _ _ _ c.args.cursor.now.plan c.take.new.self _ c.take.ensures.reads c.take.ensures.counts c.take.ensures.once c.take.ensures.awaited c.take.ensures.pieces c.take.ensures.course c.take.ensures.stays c.take.ensures.fits c.in-Ok-Piece.ensures.spends (gives_back c.in-Ok._given _ seen _ _ c.in-Ok-Piece.piece _ c.take.new.self c.give.new.self ready c.sieve.ensures c.in-Ok.ensures.given c.in-Ok.ensures.obeys c.in-Ok.ensures.pieces c.give.ensures.counts (c.in-Ok.ensures.lowers seen fits) (c.in-Ok.ensures.less seen fits) (c.give.ensures.settled seen fits) (c.give.ensures.stays seen fits) (c.give.ensures.fits seen fits))
    )
