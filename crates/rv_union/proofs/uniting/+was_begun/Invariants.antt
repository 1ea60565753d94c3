use Rattle.std.proofs.Common.{length}
use Rattle.rv_union.proofs.uniting.+was_begun.Given as goal

abbrev pub decreases-was_begun : goal.decreases-was_begun
decreases-was_begun l = length l.events.now
