use Rattle.std.proofs.Common.{◌≡◌, [], drop}
use Rattle.rv_catalog.specs.Answers.{collected}
use Rattle.rv_catalog.specs.Resolve.{set_column}
use Rattle.rv_catalog.proofs.resolve.find_sets.Given as goal

abbrev pub invariant-sets : goal.invariant-sets
invariant-sets l = collected (set_column l.catalog.tables l.table) l.found.items (drop l.set-index l.sets) ≡ collected (set_column l.catalog.tables l.table) [] l.sets
