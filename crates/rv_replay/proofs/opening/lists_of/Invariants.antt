use Rattle.std.proofs.Common.{◌≡◌, map, take}
use Rattle.rv_model.specs.Step.{rows_viewed}
use Rattle.rv_model.specs.Transactions.{transaction_of}
use Rattle.rv_replay.proofs.opening.lists_of.Given as goal

abbrev pub invariant-tables : goal.invariant-tables
invariant-tables l = l.lists.items ≡ map (rows_viewed l.database.stand.db (transaction_of l.database.stand.db.transactions.active l.session)) (take l.table-index l.tables)
