use Rattle.std.proofs.Common.{ap}
use Rattle.rv_lending.proofs.lent.LentServed.sweep_step.Goals as goal

pub returns-clause-swept : goal.returns-clause-swept
returns-clause-swept g c = let e = c.sweep_step.ensures in record {
  sweeps = record { swept = e.engine };
  sees = e.sees;
  stands = ap (λ j. (goal.Judge-dyn g (j.vtable, j.value)).state j.value) e.judge;
  rules = record { would = ap (λ j. (goal.Judge-dyn g (j.vtable, j.value)).would j.value) e.judge; settings = e.settings };
}
