use Rattle.std.proofs.Common.{refl}
use Rattle.rv_join.specs.Levels.{Stacked}
use Rattle.rv_join.proofs.Going.{goes_down, goes_fails}
use Rattle.rv_join.proofs.Stacking.{opens}
use Rattle.rv_join.proofs.stack.Stack.open_inner.Goals as goal

pub returns-clause-moves : goal.returns-clause-moves
returns-clause-moves g c =
    let was : Stacked = record { above = c.self.inside.above.items; at = c.self.inside.at; openings = c.self.inside.openings } in
    rw (← c.self.view_is) (opens c.args.asked.now (g.R.Reader.shown c.args.reader.now) was c.descend.new.self c.in_ok-inner.inner (rw (← c.self.view_is) at c.requires.fits) (rw (← c.self.view_is) at c.requires.some) c.in_ok-inner.ensures.descends c.in_ok-descend.ensures.ok)

pub returns-in_err-inner-clause-goes : goal.returns-in_err-inner-clause-goes
returns-in_err-inner-clause-goes g c =
    let was : Stacked = record { above = c.self.inside.above.items; at = c.self.inside.at; openings = c.self.inside.openings } in
    rw (← c.self.view_is) (goes_fails c.args.asked.now (g.R.Reader.shown c.args.reader.now) c.args.steps.now c.inner.new.steps was was c.inner.ensures.only refl)

pub returns-in_err-descend-clause-goes : goal.returns-in_err-descend-clause-goes
returns-in_err-descend-clause-goes g c =
    let was : Stacked = record { above = c.self.inside.above.items; at = c.self.inside.at; openings = c.self.inside.openings } in
    rw (← c.self.view_is) (goes_fails c.args.asked.now (g.R.Reader.shown c.args.reader.now) c.args.steps.now c.inner.new.steps was c.descend.new.self c.inner.ensures.only c.in_err-descend.ensures.err)

pub returns-clause-goes : goal.returns-clause-goes
returns-clause-goes g c =
    let was : Stacked = record { above = c.self.inside.above.items; at = c.self.inside.at; openings = c.self.inside.openings } in
    rw (← c.self.view_is) (goes_down c.args.asked.now (g.R.Reader.shown c.args.reader.now) c.args.steps.now c.inner.new.steps was c.descend.new.self c.in_ok-inner.inner c.in_ok-inner.ensures.opens c.in_ok-descend.ensures.ok)
