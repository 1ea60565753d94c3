use Rattle.std.proofs.Common.{◌≡◌, ◌-◌, ◌++◌}
use Rattle.std.specs.List.{range_with_len}
use Rattle.rv_gen.specs.Workload.{fetches_of}
use Rattle.rv_gen.proofs.workload.add_fetches.Given as goal

abbrev pub invariant-readers : goal.invariant-readers
invariant-readers l = l.lines ≡ l.fn.lines ++ fetches_of (range_with_len 2 (l.session - 2))
