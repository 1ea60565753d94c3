use Rattle.std.proofs.Common.{◌-◌, ◌≡◌, ◌≤◌}
use Rattle.rv_cursor.specs.Left.{Stays, seen_by}
use Rattle.rv_cursor.specs.Moves.{Moves, StepsBacks, ruled}
use Rattle.rv_cursor.proofs.fetching.step.Given as goal

abbrev pub invariant-pieces : goal.invariant-pieces
invariant-pieces g l = record {
  stays : Stays (g.R.Reader.shown l.reader) l.initial.cursor l.cursor;
  hand : l.cursor.hand ≡ l.initial.cursor.hand;
  most : l.done ≤ l.most;
  rule : (goal.Judge-dyn g (l.judge.vtable, l.judge.value)).would l.judge.value ≡ (goal.Judge-dyn g (l.initial.judge.vtable, l.initial.judge.value)).would l.initial.judge.value;
  backs : StepsBacks l.done ((goal.Judge-dyn g (l.initial.judge.vtable, l.initial.judge.value)).would l.initial.judge.value) (seen_by (g.R.Reader.shown l.reader) l.initial.cursor) (ruled l.initial.cursor ((goal.Judge-dyn g (l.initial.judge.vtable, l.initial.judge.value)).state l.initial.judge.value)) (ruled l.cursor ((goal.Judge-dyn g (l.judge.vtable, l.judge.value)).state l.judge.value));
  moves : Moves ((goal.Judge-dyn g (l.initial.judge.vtable, l.initial.judge.value)).would l.initial.judge.value) (seen_by (g.R.Reader.shown l.reader) l.initial.cursor) (ruled l.initial.cursor ((goal.Judge-dyn g (l.initial.judge.vtable, l.initial.judge.value)).state l.initial.judge.value)) (ruled l.cursor ((goal.Judge-dyn g (l.judge.vtable, l.judge.value)).state l.judge.value));
}

abbrev pub decreases-pieces : goal.decreases-pieces
decreases-pieces g l = l.most - l.done
