use Rattle.rv_overlay.proofs.Freezing.{index_fits, table_fits}
use Rattle.rv_overlay.proofs.laws.frozen_fits.Goals as goal

pub returns-clause-index : goal.returns-clause-index
returns-clause-index c = index_fits

pub returns-clause-table : goal.returns-clause-table
returns-clause-table c = table_fits
