use Rattle.std.proofs.Common.{◌≡◌, ◌++◌, drop, map}
use Rattle.std.specs.Option.{option_copied}
use Rattle.rv_model.specs.Transactions.{change_of}
use Rattle.rv_txn.proofs.changing.changes_of.Given as goal

abbrev pub invariant-rows : goal.invariant-rows
invariant-rows l = l.changes.items ++ map (change_of l.table (option_copied l.sets)) (drop l.row-index l.rows) ≡ map (change_of l.table (option_copied l.sets)) l.rows
