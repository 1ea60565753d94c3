use Rattle.std.proofs.Common.{length}
use Rattle.rv_txn.proofs.active.+lowest.Given as goal

abbrev pub decreases-lowest : goal.decreases-lowest
decreases-lowest l = length l.active.now
