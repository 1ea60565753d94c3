use Rattle.rv_join.proofs.Courses.{leaf_course}
use Rattle.rv_join.proofs.Opening.{level_stays}
use Rattle.rv_join.proofs.stack.take_level.Goals as goal

pub returns-clause-stays : goal.returns-clause-stays
returns-clause-stays g c = λ a fits. level_stays a (g.R.Reader.shown c.args.reader.now) c.args.level.now c.take.new.self c.args.steps.now c.take.new.steps fits c.take.ensures.query c.take.ensures.fits c.take.ensures.tries c.take.ensures.awaiting c.take.ensures.tells c.take.ensures.rest

pub returns-clause-course : goal.returns-clause-course
returns-clause-course g c = leaf_course c.args.level.now.here c.take.new.self c.take.ensures.leaves
