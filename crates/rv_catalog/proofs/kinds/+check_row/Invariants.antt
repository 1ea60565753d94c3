use Rattle.std.proofs.Common.{length}
use Rattle.rv_catalog.proofs.kinds.+check_row.Given as goal

abbrev pub decreases-check_row : goal.decreases-check_row
decreases-check_row l = length l.columns.now
