use Rattle.std.proofs.Common.{◌≡◌, length}
use Rattle.std.specs.List.{list_all}
use Rattle.rv_loading.specs.Laid.{is_of}
use Rattle.rv_loading.proofs.fits.are_of.Given as goal

abbrev pub invariant-changes : goal.invariant-changes
invariant-changes l = list_all (is_of l.tables l.width) l.rest ≡ list_all (is_of l.tables l.width) l.changes

abbrev pub decreases-changes : goal.decreases-changes
decreases-changes l = length l.rest
