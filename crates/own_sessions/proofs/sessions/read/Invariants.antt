use Rattle.rv_turn.specs.State.{IsPassOf}
use Rattle.own_sessions.proofs.sessions.read.Given as goal

abbrev pub invariant-rows : goal.invariant-rows
invariant-rows g l = IsPassOf l.shared.turn l.pass
