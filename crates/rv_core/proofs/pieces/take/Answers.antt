use Rattle.rv_cursor.proofs.Holding.{piece_stays}
use Rattle.rv_core.proofs.pieces.take.Goals as goal

pub returns-clause-stays : goal.returns-clause-stays
returns-clause-stays g c = piece_stays (g.R.Reader.shown c.args.reader.now) c.args.cursor.now c.take.new.self c.requires.fits c.take.ensures.fits c.take.ensures.stays
