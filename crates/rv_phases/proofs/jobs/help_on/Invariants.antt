use Rattle.std.proofs.Common.{◌≡◌, ◌≤◌, ◌+◌, ◌*◌}
use Rattle.rv_turn.specs.State.{IsPassOf}
use Rattle.rv_phases.proofs.jobs.help_on.Given as goal

abbrev pub invariant-helps : goal.invariant-helps
invariant-helps g l = record {
  own : IsPassOf l.shared.turn l.pass;
  number : l.pass.number ≡ l.fn.pass.number;
  left : l.fn.pass.left ≤ l.pass.left + 2 * l._help;
}
