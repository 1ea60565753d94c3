use Rattle.rv_turn.specs.State.{IsPassOf}
use Rattle.try_runs.proofs.helped.drained.Given as goal

abbrev pub invariant-rows : goal.invariant-rows
invariant-rows g l = IsPassOf l.shared.turn l.pass
