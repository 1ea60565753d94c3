use Rattle.std.proofs.Common.{◌≡◌, [], drop}
use Rattle.rv_catalog.specs.Answers.{collected}
use Rattle.rv_catalog.specs.Columns.{own_column}
use Rattle.rv_catalog.proofs.resolve.find_numbers.Given as goal

abbrev pub invariant-columns : goal.invariant-columns
invariant-columns l = collected (own_column l.catalog.tables l.table) l.found.items (drop l.column-index l.columns) ≡ collected (own_column l.catalog.tables l.table) [] l.columns
