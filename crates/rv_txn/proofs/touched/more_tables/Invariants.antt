use Rattle.std.proofs.Common.{◌≡◌}
use Rattle.rv_model.specs.Transactions.{empty_lists}
use Rattle.rv_txn.proofs.touched.more_tables.Given as goal

abbrev pub invariant-tables : goal.invariant-tables
invariant-tables l = l.more.items ≡ empty_lists l._table
