use Rattle.rv_access.specs.Accesses.{rest}
use Rattle.try_retrievals.specs.Driving.{Gives}
use Rattle.try_retrievals.proofs.drive.drive.Given as goal

abbrev pub invariant-steps : goal.invariant-steps
invariant-steps g l = let shown = g.R.Reader.shown l.reader in Gives shown (rest l.initial.access shown) l.rows.items l.access
