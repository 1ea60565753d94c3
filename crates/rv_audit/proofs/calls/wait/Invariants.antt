use Rattle.std.proofs.Common.{◌≡◌, length}
use Rattle.std.specs.List.{list_all}
use Rattle.rv_audit.specs.Calls.{waits_at}
use Rattle.rv_audit.proofs.calls.wait.Given as goal

abbrev pub invariant-sessions : goal.invariant-sessions
invariant-sessions l = list_all (λ at. waits_at l.calls l.phase at) l.rest ≡ list_all (λ at. waits_at l.calls l.phase at) l.next

abbrev pub decreases-sessions : goal.decreases-sessions
decreases-sessions l = length l.rest
