use Rattle.std.proofs.Common.{length}
use Rattle.rv_txn.proofs.active.+horizon.Given as goal

abbrev pub decreases-horizon : goal.decreases-horizon
decreases-horizon l = length l.active.now
