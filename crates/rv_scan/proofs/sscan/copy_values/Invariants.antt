use Rattle.std.proofs.Common.{◌≡◌, map}
use Rattle.std.specs.List.{range_with_len}
use Rattle.rv_restrict.specs.Parts.{value_in}
use Rattle.rv_scan.proofs.sscan.copy_values.Given as goal

-- a value for each column so far
abbrev pub invariant-columns : goal.invariant-columns
invariant-columns l = l.values.items ≡ map (value_in l.columns l.key) (range_with_len 0 l.column)
