-- All tables and indexes through a commit.
use Rattle.std.specs.Prelude.{ℕ, ◌+◌, ◌<◌, List, length}
use Rattle.rv_rows.specs.declared.changes.Change.{Change}
use Rattle.rv_records.specs.Pages.{IsBelow}
use Rattle.rv_store.specs.declared.tables.Table.{Table}
use Rattle.rv_store.specs.declared.indexes.Index.{Index}
use Rattle.rv_store.specs.Tables.{table_at, AreChanged, AreOpen}
use Rattle.rv_store.specs.Indexes.{index_at, AreFew, AreIndexesBelow, IsThrough}

-- the changes of a commit were made in all tables and indexes
pub record AreThrough (commit : ℕ) (changes : List Change) (tables new_tables : List Table)
    (indexes new_indexes : List Index) : Type 0 where
  pub changed : AreChanged commit changes tables new_tables
  pub open_ : AreOpen commit new_tables
  pub through : (index : ℕ) → index < length indexes
      → IsThrough commit changes tables (index_at indexes index) (index_at new_indexes index)
  pub newest : AreIndexesBelow (commit + 1) new_indexes

-- nothing of a commit is left
pub record AreBack (commit : ℕ) (tables : List Table) (indexes : List Index) : Type 0 where
  pub below : (table : ℕ) → IsBelow commit (table_at tables table).records
  pub newest : AreIndexesBelow commit indexes
  pub few : AreFew indexes
