use Rattle.std.proofs.Common.{◌≡◌, ℕ, IsSome}
use Rattle.rv_cursor.specs.Left.{Stays, seen_by, to_do}
use Rattle.rv_cursor.specs.Moves.{Moves, TurnsOn, ruled}
use Rattle.rv_cursor.proofs.fetching.fetch.Given as goal

abbrev pub invariant-turns : goal.invariant-turns
invariant-turns g l = record {
  stays : Stays (g.R.Reader.shown l.reader) l.initial.cursor l.cursor;
  rule : (goal.Judge-dyn g (l.judge.vtable, l.judge.value)).would l.judge.value ≡ (goal.Judge-dyn g (l.initial.judge.vtable, l.initial.judge.value)).would l.initial.judge.value;
  turns : (n : ℕ) × TurnsOn n l.beside ((goal.Judge-dyn g (l.initial.judge.vtable, l.initial.judge.value)).would l.initial.judge.value) (seen_by (g.R.Reader.shown l.reader) l.initial.cursor) (ruled l.initial.cursor ((goal.Judge-dyn g (l.initial.judge.vtable, l.initial.judge.value)).state l.initial.judge.value)) (ruled l.cursor ((goal.Judge-dyn g (l.judge.vtable, l.judge.value)).state l.judge.value));
  hand : l.cursor.hand ≡ l.initial.cursor.hand;
  held : IsSome l.initial.cursor.hand → (ruled l.cursor ((goal.Judge-dyn g (l.judge.vtable, l.judge.value)).state l.judge.value) ≡ ruled l.initial.cursor ((goal.Judge-dyn g (l.initial.judge.vtable, l.initial.judge.value)).state l.initial.judge.value));
  moves : Moves ((goal.Judge-dyn g (l.initial.judge.vtable, l.initial.judge.value)).would l.initial.judge.value) (seen_by (g.R.Reader.shown l.reader) l.initial.cursor) (ruled l.initial.cursor ((goal.Judge-dyn g (l.initial.judge.vtable, l.initial.judge.value)).state l.initial.judge.value)) (ruled l.cursor ((goal.Judge-dyn g (l.judge.vtable, l.judge.value)).state l.judge.value));
}

abbrev pub decreases-turns : goal.decreases-turns
decreases-turns g l = to_do (g.R.Reader.shown l.reader) l.cursor
