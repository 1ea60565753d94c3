use Rattle.std.proofs.Common.{◌≡◌, length}
use Rattle.rv_loading.specs.Laid.{rise_from}
use Rattle.rv_loading.proofs.fits.rise_from.Given as goal

abbrev pub invariant-changes : goal.invariant-changes
invariant-changes l = rise_from l.last l.number l.rest ≡ rise_from l.table l.row l.changes

abbrev pub decreases-changes : goal.decreases-changes
decreases-changes l = length l.rest
