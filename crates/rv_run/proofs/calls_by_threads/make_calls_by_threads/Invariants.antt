use Rattle.std.proofs.Common.{◌≡◌, drop, map, max}
use Rattle.rv_run.specs.Judges.{by_number, ruling_after}
use Rattle.rv_run.specs.Ruling.{between, judging}
use Rattle.rv_run.proofs.Led.{LedTo}
use Rattle.rv_run.proofs.Threads.{UpTo}
use Rattle.rv_run.proofs.calls_by_threads.make_calls_by_threads.Given as goal

abbrev pub invariant-phases : goal.invariant-phases
invariant-phases g l = record {
  number : l.number ≡ l.phase-index;
  phase : l.held.engine.phase ≡ max 1 l.number;
  each : UpTo l.phase-index l.held.engine.history l.phases;
  ruling : ruling_after l.judges.ruling (drop l.phase-index l.phases) ≡ ruling_after l.fn.judges.ruling l.phases;
  led : LedTo (g.S.Reader.shown) l.fn.core.settings l.fn.judges.ruling l.phases (drop l.phase-index l.phases) l.judges.ruling l.number (between l.fn.core.engine (map (λ j. judging ((goal.Judge-dyn g (j.vtable, j.value)).would j.value) ((goal.Judge-dyn g (j.vtable, j.value)).state j.value)) (by_number l.fn.judges.places.zero l.fn.judges.places.one l.fn.judges.places.two l.fn.core.judge))) (between l.held.engine (map (λ j. judging ((goal.Judge-dyn g (j.vtable, j.value)).would j.value) ((goal.Judge-dyn g (j.vtable, j.value)).state j.value)) (by_number l.judges.places.zero l.judges.places.one l.judges.places.two l.held.judge)));
  settings : l.held.settings ≡ l.fn.core.settings;
}
