use Rattle.std.proofs.Common.{◌≡◌, [], drop}
use Rattle.rv_catalog.specs.Answers.{collected}
use Rattle.std.proofs.Common.{length}
use Rattle.rv_catalog.specs.Resolve.{item}
use Rattle.rv_catalog.proofs.resolve.find_items.Given as goal

abbrev pub invariant-items : goal.invariant-items
invariant-items l = (collected (item l.catalog.tables) l.found.items (drop l.raw-index l.items) ≡ collected (item l.catalog.tables) [] l.items) × (length l.found.items ≡ l.raw-index)
