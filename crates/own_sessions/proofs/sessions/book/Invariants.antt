use Rattle.rv_turn.specs.State.{IsPassOf}
use Rattle.own_sessions.proofs.sessions.book.Given as goal

abbrev pub invariant-texts : goal.invariant-texts
invariant-texts g l = IsPassOf l.shared.turn l.pass
