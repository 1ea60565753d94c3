use Rattle.rv_access.specs.Accesses.{AccessFits}
use Rattle.try_retrievals.proofs.drive.stays_ended.Given as goal

abbrev pub invariant-hand : goal.invariant-hand
invariant-hand g l = AccessFits l.access (g.R.Reader.shown l.reader)
