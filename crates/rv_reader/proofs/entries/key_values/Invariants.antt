use Rattle.std.proofs.Common.{◌≡◌, take, map}
use Rattle.rv_reader.specs.Entries.{column_of}
use Rattle.rv_reader.proofs.entries.key_values.Given as goal

abbrev pub invariant-columns : goal.invariant-columns
invariant-columns l = l.key.items ≡ map (column_of l.values) (take l.column-index l.columns)
