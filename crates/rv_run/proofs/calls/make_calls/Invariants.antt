use Rattle.std.proofs.Common.{◌≡◌, ◌+◌, ◌≤◌, ◌++◌, All, length, map, max}
use Rattle.rv_run.specs.Judges.{by_number, ruling_after}
use Rattle.rv_run.specs.Making.{FitsPhase}
use Rattle.rv_run.specs.Ruling.{between, judging, ruled_from}
use Rattle.rv_run.specs.Script.{calls_from, calls_made}
use Rattle.rv_run.proofs.Rulings.{AnswersTo}
use Rattle.rv_run.proofs.calls.make_calls.Given as goal

abbrev pub invariant-phases : goal.invariant-phases
invariant-phases g l = record {
  few : l.number + length l.phase-iterator.rest.items ≤ 200001;
  fits : All FitsPhase l.phase-iterator.rest.items;
  phase : l.core.engine.phase ≡ max 1 l.number;
  calls : calls_made l.core.engine.history ++ calls_from (l.number + 1) l.phase-iterator.rest.items ≡ calls_from 1 l.fn.phases.items;
  ruling : ruling_after l.judges.ruling l.phase-iterator.rest.items ≡ ruling_after l.fn.judges.ruling l.fn.phases.items;
  ruled : AnswersTo (g.S.Reader.shown) l.fn.core.settings (ruled_from l.fn.judges.ruling 1 l.fn.phases.items) (ruled_from l.judges.ruling (l.number + 1) l.phase-iterator.rest.items) (between l.fn.core.engine (map (λ j. judging ((goal.Judge-dyn g (j.vtable, j.value)).would j.value) ((goal.Judge-dyn g (j.vtable, j.value)).state j.value)) (by_number l.fn.judges.places.zero l.fn.judges.places.one l.fn.judges.places.two l.fn.core.judge))) (between l.core.engine (map (λ j. judging ((goal.Judge-dyn g (j.vtable, j.value)).would j.value) ((goal.Judge-dyn g (j.vtable, j.value)).state j.value)) (by_number l.judges.places.zero l.judges.places.one l.judges.places.two l.core.judge)));
  settings : l.core.settings ≡ l.fn.core.settings;
}
