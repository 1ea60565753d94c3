use Rattle.std.proofs.Common.{◌≡◌, ℕ, take, []}
use Rattle.rv_phases.specs.Phase.{asked}
use Rattle.rv_phases.proofs.phase.has_calls.Given as goal

abbrev pub invariant-lines : goal.invariant-lines
invariant-lines l = (phase : ℕ) → asked l.session phase (take l.line-index l.lines) ≡ []
