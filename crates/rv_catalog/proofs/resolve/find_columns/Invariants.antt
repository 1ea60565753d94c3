use Rattle.std.proofs.Common.{◌≡◌, [], drop}
use Rattle.rv_catalog.specs.Answers.{collected}
use Rattle.rv_catalog.specs.Columns.{reference}
use Rattle.rv_catalog.proofs.resolve.find_columns.Given as goal

abbrev pub invariant-raws : goal.invariant-raws
invariant-raws l = collected (reference l.catalog.tables l.reach) l.found.items (drop l.raw-index l.raws) ≡ collected (reference l.catalog.tables l.reach) [] l.raws
