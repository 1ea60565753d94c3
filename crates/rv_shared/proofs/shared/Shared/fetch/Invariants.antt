use Rattle.std.proofs.Common.{◌≡◌, ◌+◌, ◌≤◌}
use Rattle.rv_turn.specs.State.{IsPassOf}
use Rattle.rv_turn.specs.Story.{GoesOn}
use Rattle.rv_shared.specs.Told.{maker}
use Rattle.rv_shared.proofs.shared.Shared.fetch.Given as goal

abbrev pub invariant-turns : goal.invariant-turns
invariant-turns g l = record {
  own : IsPassOf l.self.turn l.pass;
  number : l.pass.number ≡ l.initial.pass.number;
  granted : l.pass.taken + l.pass.left ≡ l.initial.pass.taken + l.initial.pass.left;
  turns : l.pass.taken ≡ l.initial.pass.taken + l._round;
  seen : GoesOn maker l.initial.pass.number l.initial.pass.seen l.pass.seen;
}
