use Rattle.std.proofs.Common.{◌≡◌, All, length, reverse}
use Rattle.rv_gen.specs.Workload.{IsCall}
use Rattle.rv_run.specs.Ruling.{judging}
use Rattle.rv_run.proofs.Rulings.{MadeTo}
use Rattle.rv_run.proofs.calls.make_phase.Given as goal

abbrev pub invariant-lines : goal.invariant-lines
invariant-lines g l = record {
  fits : All IsCall (reverse l.left.items);
  phase : l.core.engine.phase ≡ l.fn.core.engine.phase;
  made : MadeTo (g.S.Reader.shown) l.fn.core.settings l.fn.core.engine.phase l.fn.lines.items (reverse l.left.items) l.fn.core.engine l.core.engine (judging ((goal.Judge-dyn g (l.fn.core.judge.vtable, l.fn.core.judge.value)).would l.fn.core.judge.value) ((goal.Judge-dyn g (l.fn.core.judge.vtable, l.fn.core.judge.value)).state l.fn.core.judge.value)) (judging ((goal.Judge-dyn g (l.fn.core.judge.vtable, l.fn.core.judge.value)).would l.fn.core.judge.value) ((goal.Judge-dyn g (l.core.judge.vtable, l.core.judge.value)).state l.core.judge.value));
  rules : (goal.Judge-dyn g (l.core.judge.vtable, l.core.judge.value)).would l.core.judge.value ≡ (goal.Judge-dyn g (l.fn.core.judge.vtable, l.fn.core.judge.value)).would l.fn.core.judge.value;
  settings : l.core.settings ≡ l.fn.core.settings;
}

abbrev pub decreases-lines : goal.decreases-lines
decreases-lines g l = length l.left.items
