use Rattle.std.proofs.Common.{◌≡◌, map, take}
use Rattle.rv_catalog.specs.Resolve.{column_def}
use Rattle.rv_catalog.proofs.resolve.column_defs.Given as goal

abbrev pub invariant-columns : goal.invariant-columns
invariant-columns l = l.defs.items ≡ map column_def (take l.column-index l.columns)
