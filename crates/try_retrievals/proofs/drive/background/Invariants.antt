use Rattle.try_retrievals.specs.Driving.{Stays}
use Rattle.try_retrievals.proofs.drive.background.Given as goal

abbrev pub invariant-steps : goal.invariant-steps
invariant-steps g l = Stays (g.R.Reader.shown l.reader) l.initial.access l.access
