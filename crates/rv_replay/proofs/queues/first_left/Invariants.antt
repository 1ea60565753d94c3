use Rattle.rv_replay.specs.Queues.{AreTaken}
use Rattle.rv_replay.proofs.queues.first_left.Given as goal

abbrev pub invariant-places : goal.invariant-places
invariant-places l = AreTaken l.alike l.place
