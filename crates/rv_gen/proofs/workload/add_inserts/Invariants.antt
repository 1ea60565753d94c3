use Rattle.std.proofs.Common.{◌≡◌, ◌*◌, ◌++◌}
use Rattle.rv_gen.specs.Draws.{state_after}
use Rattle.rv_gen.specs.Workload.{inserts}
use Rattle.rv_gen.proofs.workload.add_inserts.Given as goal

abbrev pub invariant-rows : goal.invariant-rows
invariant-rows l = record {
  lines : l.lines ≡ l.fn.lines ++ inserts l.fn.draws.state l._row;
  state : l.draws.state ≡ state_after l.fn.draws.state (3 * l._row);
}
