use Rattle.try_retrievals.specs.Planning.{Stays}
use Rattle.try_retrievals.proofs.joins.drive.background.Given as goal

abbrev pub invariant-steps : goal.invariant-steps
invariant-steps g l = Stays (g.R.Reader.shown l.reader) l.initial.plan l.plan
