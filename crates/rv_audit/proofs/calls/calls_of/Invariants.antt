use Rattle.std.proofs.Common.{◌≡◌, take}
use Rattle.rv_audit.specs.Calls.{calls_from}
use Rattle.rv_audit.proofs.calls.calls_of.Given as goal

abbrev pub invariant-phases : goal.invariant-phases
invariant-phases l = record {
  count : l.number ≡ l.phase-index;
  calls : l.calls.items ≡ calls_from 1 (take l.phase-index l.phases);
}
