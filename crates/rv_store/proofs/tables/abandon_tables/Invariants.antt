use Rattle.std.proofs.Common.{ℕ, ◌<◌}
use Rattle.rv_records.specs.Pages.{IsBelow}
use Rattle.rv_store.specs.Tables.{table_at, AreOpen, AreSameBelow}
use Rattle.rv_store.proofs.tables.abandon_tables.Given as goal

abbrev pub invariant-tables : goal.invariant-tables
invariant-tables l = record {
  same : AreSameBelow l.commit l.initial.tables.items l.tables.items;
  open_ : AreOpen l.commit l.tables.items;
  below : (t : ℕ) → t < l.table → IsBelow l.commit (table_at l.tables.items t).records;
}
