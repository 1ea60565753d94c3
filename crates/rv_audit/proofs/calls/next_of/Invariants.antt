use Rattle.std.proofs.Common.{◌≡◌, drop}
use Rattle.rv_audit.specs.Calls.{calls_by}
use Rattle.rv_audit.proofs.calls.next_of.Given as goal

abbrev pub invariant-calls : goal.invariant-calls
invariant-calls l = calls_by l.session (drop l.at l.calls) ≡ calls_by l.session (drop l.from l.calls)
