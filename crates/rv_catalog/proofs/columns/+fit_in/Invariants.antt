use Rattle.std.proofs.Common.{length}
use Rattle.rv_catalog.proofs.columns.+fit_in.Given as goal

abbrev pub decreases-fit_in : goal.decreases-fit_in
decreases-fit_in l = length l.columns.now
