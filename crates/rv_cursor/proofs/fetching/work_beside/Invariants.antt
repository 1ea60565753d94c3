use Rattle.std.proofs.Common.{◌≡◌, ◌≤◌}
use Rattle.rv_cursor.specs.Left.{Stays, seen_by, work}
use Rattle.rv_cursor.specs.Moves.{Moves, StepsBeside, ruled}
use Rattle.rv_cursor.proofs.fetching.work_beside.Given as goal

abbrev pub invariant-pieces : goal.invariant-pieces
invariant-pieces g l = record {
  stays : Stays (g.R.Reader.shown l.reader) l.initial.cursor l.cursor;
  hand : l.cursor.hand ≡ l.initial.cursor.hand;
  work : work (g.R.Reader.shown l.reader) l.cursor ≤ work (g.R.Reader.shown l.reader) l.initial.cursor;
  rule : (goal.Judge-dyn g (l.judge.vtable, l.judge.value)).would l.judge.value ≡ (goal.Judge-dyn g (l.initial.judge.vtable, l.initial.judge.value)).would l.initial.judge.value;
  steps_made : StepsBeside l._done ((goal.Judge-dyn g (l.initial.judge.vtable, l.initial.judge.value)).would l.initial.judge.value) (seen_by (g.R.Reader.shown l.reader) l.initial.cursor) (ruled l.initial.cursor ((goal.Judge-dyn g (l.initial.judge.vtable, l.initial.judge.value)).state l.initial.judge.value)) (ruled l.cursor ((goal.Judge-dyn g (l.judge.vtable, l.judge.value)).state l.judge.value));
  moves : Moves ((goal.Judge-dyn g (l.initial.judge.vtable, l.initial.judge.value)).would l.initial.judge.value) (seen_by (g.R.Reader.shown l.reader) l.initial.cursor) (ruled l.initial.cursor ((goal.Judge-dyn g (l.initial.judge.vtable, l.initial.judge.value)).state l.initial.judge.value)) (ruled l.cursor ((goal.Judge-dyn g (l.judge.vtable, l.judge.value)).state l.judge.value));
}
