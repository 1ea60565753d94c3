use Rattle.std.proofs.Common.{◌≡◌, ◌*◌, ◌++◌}
use Rattle.rv_gen.specs.Draws.{state_after}
use Rattle.rv_gen.specs.Workload.{rounds}
use Rattle.rv_gen.proofs.workload.add_rounds.Given as goal

abbrev pub invariant-rounds : goal.invariant-rounds
invariant-rounds l = record {
  lines : l.lines ≡ l.fn.lines ++ rounds l.fn.draws.state l._number;
  state : l.draws.state ≡ state_after l.fn.draws.state (2 * l._number);
}
