use Rattle.try_retrievals.specs.Driving.{Stays}
use Rattle.try_retrievals.proofs.drive.give.Given as goal

abbrev pub invariant-times : goal.invariant-times
invariant-times g l = Stays (g.R.Reader.shown l._reader) l.initial.access l.access
