use Rattle.std.proofs.Common.{◌≡◌, ◌≤◌, ◌+◌, ◌*◌, ◌++◌, take}
use Rattle.rv_turn.specs.State.{IsPassOf}
use Rattle.rv_phases.specs.Phase.{asked, own}
use Rattle.rv_phases.proofs.jobs.make_calls.Given as goal

abbrev pub invariant-lines : goal.invariant-lines
invariant-lines g l = record {
  of : IsPassOf l.shared.turn l.pass;
  number : l.pass.number ≡ l.fn.pass.number;
  left : l.fn.pass.left ≤ l.pass.left + 64 * l.line-index;
  calls : own (l.fn.pass.number + 1) l.pass.seen ≡ own (l.fn.pass.number + 1) l.fn.pass.seen ++ asked (l.fn.pass.number + 1) (g.C.Served.shown l.shared.turn.mark).phase (take l.line-index l.lines);
}
