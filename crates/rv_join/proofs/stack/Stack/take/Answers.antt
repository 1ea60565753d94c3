use Rattle.std.proofs.Common.{IfOk, refl, rules, subst, sym}
use Rattle.rv_access.specs.Given.{TakesPiece}
use Rattle.rv_join.specs.declared.level.Level.{Level}
use Rattle.rv_join.proofs.OneItem.{first_plans, none_above}
use Rattle.rv_join.proofs.Courses.{first_course}
use Rattle.rv_join.proofs.Calls.{at_past, stays_above, stays_at}
use Rattle.rv_join.proofs.Numbers.{at_waits}
use Rattle.rv_join.proofs.stack.Stack.take.Goals as goal

pub returns-then-at-len-clause-taken : goal.returns-then-at-len-clause-taken
returns-then-at-len-clause-taken g c = c.take_at.ensures.taken c.self.inside.at

pub returns-then-at-len-clause-stays : goal.returns-then-at-len-clause-stays
returns-then-at-len-clause-stays g c = rw (← c.self.view_is) (λ a fits. stays_above a (g.R.Reader.shown c.args.reader.now) (record { above = c.self.inside.above.items; at = c.self.inside.at; openings = c.self.inside.openings }) (record { above = c.take_at.new.levels.items; at = c.self.inside.at; openings = c.self.inside.openings }) fits (c.take_at.ensures.stay a fits.above) (c.take_at.ensures.led a fits.above) refl)

pub returns-else-at-len-clause-stays : goal.returns-else-at-len-clause-stays
returns-else-at-len-clause-stays g c = rw (← c.self.view_is) (λ a fits. stays_at a (g.R.Reader.shown c.args.reader.now) (record { above = c.self.inside.above.items; at = c.self.inside.at; openings = c.self.inside.openings }) (record { above = c.self.inside.above.items; at = c.take_level.new.level; openings = c.self.inside.openings }) fits (c.take_level.ensures.stays a fits.at) refl)

pub returns-else-at-len-clause-waits : goal.returns-else-at-len-clause-waits
returns-else-at-len-clause-waits g c = rw (← c.self.view_is) (at_waits (record { above = c.self.inside.above.items; at = c.self.inside.at; openings = c.self.inside.openings }) (record { above = c.self.inside.above.items; at = c.take_level.new.level; openings = c.self.inside.openings }) c.take_level.ensures.waits refl)

pub returns-then-at-len-clause-plans : goal.returns-then-at-len-clause-plans
returns-then-at-len-clause-plans g c = rw (← c.self.view_is) (c.take_at.ensures.plans c.self.inside.at)

pub returns-then-at-len-clause-course : goal.returns-then-at-len-clause-course
returns-then-at-len-clause-course g c = rw (← c.self.view_is) (c.take_at.ensures.course c.self.inside.at)

pub returns-then-at-len-clause-once : goal.returns-then-at-len-clause-once
returns-then-at-len-clause-once g c = rw (← c.self.view_is) (λ none. none_above c.args.at c.self.inside.above.items (search rules) none)

pub returns-then-at-len-clause-spends : goal.returns-then-at-len-clause-spends
returns-then-at-len-clause-spends g c = rw (← c.self.view_is) (λ none. none_above c.args.at c.self.inside.above.items (search rules) none)

pub returns-else-at-len-clause-plans : goal.returns-else-at-len-clause-plans
returns-else-at-len-clause-plans g c = rw (← c.self.view_is) (first_plans (record { above = c.self.inside.above.items; at = c.self.inside.at; openings = c.self.inside.openings }) (record { above = c.self.inside.above.items; at = c.take_level.new.level; openings = c.self.inside.openings }) refl c.take_level.ensures.plans)

pub returns-else-at-len-clause-course : goal.returns-else-at-len-clause-course
returns-else-at-len-clause-course g c = rw (← c.self.view_is) (first_course (record { above = c.self.inside.above.items; at = c.self.inside.at; openings = c.self.inside.openings }) (record { above = c.self.inside.above.items; at = c.take_level.new.level; openings = c.self.inside.openings }) refl c.take_level.ensures.course)

pub returns-else-at-len-clause-once : goal.returns-else-at-len-clause-once
returns-else-at-len-clause-once g c = rw (← c.self.view_is) (λ none. c.take_level.ensures.once)

pub returns-else-at-len-clause-spends : goal.returns-else-at-len-clause-spends
returns-else-at-len-clause-spends g c = rw (← c.self.view_is) (λ none. c.take_level.ensures.spends)

pub returns-else-at-len-clause-taken : goal.returns-else-at-len-clause-taken
returns-else-at-len-clause-taken g c = subst (λ (l : Level). IfOk c.take_level.result (TakesPiece l.here)) (sym (at_past c.self.inside.above.items c.args.at c.take_level.new.level (search rules))) c.take_level.ensures.taken

pub returns-then-at-len-clause-untaken : goal.returns-then-at-len-clause-untaken
returns-then-at-len-clause-untaken g c = rw (← c.self.view_is) (c.take_at.ensures.untaken c.self.inside.at)

pub returns-then-at-len-clause-reads : goal.returns-then-at-len-clause-reads
returns-then-at-len-clause-reads g c = rw (← c.self.view_is) (c.take_at.ensures.reads c.self.inside.at)

pub returns-then-at-len-clause-counts : goal.returns-then-at-len-clause-counts
returns-then-at-len-clause-counts g c = rw (← c.self.view_is) (c.take_at.ensures.counts c.self.inside.at)
