use Rattle.std.proofs.Common.{◌≡◌, ◌*◌, ◌-◌, ◌++◌}
use Rattle.std.specs.List.{range_with_len}
use Rattle.rv_gen.specs.Draws.{state_after}
use Rattle.rv_gen.specs.Workload.{openings_of}
use Rattle.rv_gen.proofs.workload.add_openings.Given as goal

abbrev pub invariant-readers : goal.invariant-readers
invariant-readers l = record {
  lines : l.lines ≡ l.fn.lines ++ openings_of (range_with_len 2 (l.session - 2)) l.fn.draws.state;
  state : l.draws.state ≡ state_after l.fn.draws.state (2 * (l.session - 2));
}
