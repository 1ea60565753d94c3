use Rattle.rv_choice.specs.Choice.{LeastBelow}
use Rattle.rv_choice.proofs.choosing.least.Given as goal

abbrev pub invariant-candidates : goal.invariant-candidates
invariant-candidates l = LeastBelow l.role l.candidates l.at l.best
