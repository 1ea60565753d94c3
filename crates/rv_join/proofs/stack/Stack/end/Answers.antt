use Rattle.rv_join.proofs.Going.{goes_same, goes_up}
use Rattle.rv_join.proofs.Stacking.{climbs}
use Rattle.rv_join.proofs.stack.Stack.end.Goals as goal

pub returns-then-climb-clause-moves : goal.returns-then-climb-clause-moves
returns-then-climb-clause-moves c = λ a shown fits none. climbs a shown c.args.self.now c.climb.new.self fits none (c.climb.ensures.up c.if-climb.true)

pub returns-then-climb-clause-goes : goal.returns-then-climb-clause-goes
returns-then-climb-clause-goes c = λ a shown counts. goes_up a shown counts c.args.self.now c.climb.new.self (c.climb.ensures.up c.if-climb.true) c.climb.ensures.openings

pub returns-else-climb-clause-goes : goal.returns-else-climb-clause-goes
returns-else-climb-clause-goes c = λ a shown counts. goes_same a shown counts c.args.self.now c.climb.new.self (c.climb.ensures.top c.if-climb.false).1
