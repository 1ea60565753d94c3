use Rattle.std.proofs.Common.{length}
use Rattle.rv_core.proofs.cursors.+look_at.Given as goal

abbrev pub decreases-look_at : goal.decreases-look_at
decreases-look_at g l = length l.tables.now
