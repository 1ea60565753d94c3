use Rattle.std.proofs.Common.{length}
use Rattle.rv_catalog.proofs.columns.+fit_among.Given as goal

abbrev pub decreases-fit_among : goal.decreases-fit_among
decreases-fit_among l = length l.reach.now
