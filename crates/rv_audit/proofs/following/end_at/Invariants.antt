use Rattle.std.proofs.Common.{◌≡◌}
use Rattle.rv_audit.specs.Places.{LowestUpTo}
use Rattle.rv_audit.proofs.following.end_at.Given as goal

abbrev pub invariant-sessions : goal.invariant-sessions
invariant-sessions l = record {
  session : l.session ≡ l.at-index;
  lowest : LowestUpTo l.calls l.places l.at-index l.lowest;
}
