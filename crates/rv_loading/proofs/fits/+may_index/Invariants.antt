use Rattle.std.proofs.Common.{length}
use Rattle.rv_loading.proofs.fits.+may_index.Given as goal

abbrev pub decreases-may_index : goal.decreases-may_index
decreases-may_index l = length l.columns.now
