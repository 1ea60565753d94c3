use Rattle.std.proofs.Common.{length}
use Rattle.rv_access.proofs.access.+has_two.Given as goal

abbrev pub decreases-has_two : goal.decreases-has_two
decreases-has_two l = length l.candidates.now
