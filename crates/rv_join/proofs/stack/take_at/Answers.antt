use Rattle.rv_join.proofs.OneItem.{list_plans}
use Rattle.rv_join.proofs.Courses.{list_course}
use Rattle.rv_join.proofs.Calls.{levels_at}
use Rattle.rv_join.proofs.Numbers.{levels_wait}
use Rattle.rv_join.proofs.stack.take_at.Goals as goal

pub returns-clause-stay : goal.returns-clause-stay
returns-clause-stay g c = λ a all. (levels_at a (g.R.Reader.shown c.args.reader.now) c.args.levels.now.items c.args.at c.index_mut.result.now c.take_level.new.level c.requires.at all c.index_mut.ensures.value (c.take_level.ensures.stays a)).0

pub returns-clause-led : goal.returns-clause-led
returns-clause-led g c = λ a all. (levels_at a (g.R.Reader.shown c.args.reader.now) c.args.levels.now.items c.args.at c.index_mut.result.now c.take_level.new.level c.requires.at all c.index_mut.ensures.value (c.take_level.ensures.stays a)).1

pub returns-clause-waits : goal.returns-clause-waits
returns-clause-waits g c = levels_wait c.args.levels.now.items c.args.at c.index_mut.result.now c.take_level.new.level c.requires.at c.index_mut.ensures.value c.take_level.ensures.waits

pub returns-clause-plans : goal.returns-clause-plans
returns-clause-plans g c = list_plans c.args.levels.now.items c.args.at c.index_mut.result.now c.take_level.new.level c.requires.at c.index_mut.ensures.value c.take_level.ensures.plans

pub returns-clause-course : goal.returns-clause-course
returns-clause-course g c = list_course c.args.levels.now.items c.args.at c.index_mut.result.now c.take_level.new.level c.requires.at c.index_mut.ensures.value c.take_level.ensures.course
