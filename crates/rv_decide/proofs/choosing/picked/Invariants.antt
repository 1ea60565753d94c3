use Rattle.std.proofs.Common.{◌≡◌, map, take}
use Rattle.rv_restrict.specs.Bind.{rows_reads}
use Rattle.rv_decide.proofs.choosing.picked.Given as goal

abbrev pub invariant-columns : goal.invariant-columns
invariant-columns l = l.values.items ≡ map (rows_reads l.rows) (take l.column-index l.columns)
