use Rattle.std.proofs.Common.{length}
use Rattle.try_retrievals.proofs.joins.told.+rises_from.Given as goal

abbrev pub decreases-rises_from : goal.decreases-rises_from
decreases-rises_from l = length l.offers.now
