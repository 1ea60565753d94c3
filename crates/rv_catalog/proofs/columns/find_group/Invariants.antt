use Rattle.std.proofs.Common.{◌≡◌, [], drop}
use Rattle.rv_catalog.specs.Answers.{collected}
use Rattle.rv_catalog.specs.Columns.{atom}
use Rattle.rv_catalog.proofs.columns.find_group.Given as goal

abbrev pub invariant-atoms : goal.invariant-atoms
invariant-atoms l = collected (atom l.catalog.tables l.reach) l.found.items (drop l.raw-index l.raws) ≡ collected (atom l.catalog.tables l.reach) [] l.raws
