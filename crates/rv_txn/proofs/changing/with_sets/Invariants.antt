use Rattle.std.proofs.Common.{◌≡◌, drop}
use Rattle.rv_model.specs.Transactions.{with_sets}
use Rattle.rv_txn.proofs.changing.with_sets.Given as goal

-- the columns left to set make of the values what all make of the old
abbrev pub invariant-sets : goal.invariant-sets
invariant-sets l = with_sets (drop l.column-index l.sets) l.new.items ≡ with_sets l.sets l.values
