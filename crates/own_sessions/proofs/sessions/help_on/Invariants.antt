use Rattle.rv_turn.specs.State.{IsPassOf}
use Rattle.own_sessions.proofs.sessions.help_on.Given as goal

abbrev pub invariant-helps : goal.invariant-helps
invariant-helps g l = IsPassOf l.shared.turn l.pass
