-- The tables of a store, each with its record pages.
use Rattle.std.specs.Prelude.{◌≡◌, ℕ, ◌+◌, ◌<◌, ◌≤◌, List, [], length}
use Rattle.std.specs.List.{slice_index_or}
use Rattle.rv_value.specs.declared.record.Record.{Record}
use Rattle.rv_rows.specs.declared.changes.Change.{Change}
use Rattle.rv_rows.specs.Rows.{Ascend}
use Rattle.rv_rows.specs.Changes.{rows_with_changes}
use Rattle.rv_reader.specs.Storing.{AreWide, pages_after}
use Rattle.rv_records.specs.Pages.{rows_at, pages_at, IsBelow, IsSame}
use Rattle.rv_store.specs.declared.tables.Table.{Table}

abbrev pub no_table : Table
no_table = record { width = 0; records = record { horizon = 0; pages = []; sizes = [] } }

-- a table that is not there is empty
abbrev pub table_at : List Table → ℕ → Table
table_at tables table = slice_index_or tables table no_table

abbrev pub rows_in : List Table → ℕ → ℕ → List Record
rows_in tables table snap = rows_at (table_at tables table).records snap

abbrev pub pages_in : List Table → ℕ → ℕ → ℕ
pages_in tables table snap = pages_at (table_at tables table).records snap

-- no version is above the newest commit, nothing was purged past the horizon, and rows are as wide as their table
pub record AreTables (horizon newest : ℕ) (tables : List Table) : Type 0 where
  pub kept : (table : ℕ) → (table_at tables table).records.horizon ≤ horizon
  pub below : (table : ℕ) → IsBelow (newest + 1) (table_at tables table).records
  pub ascend : (table snap : ℕ) → horizon ≤ snap → snap ≤ newest → Ascend (rows_in tables table snap)
  pub wide : (table snap : ℕ) → horizon ≤ snap → snap ≤ newest
      → AreWide (table_at tables table).width (rows_in tables table snap)

-- tables that a commit may be written to: nothing is above it, and its pages can be taken back
pub record AreOpen (commit : ℕ) (tables : List Table) : Type 0 where
  pub later : (table : ℕ) → (table_at tables table).records.horizon < commit
  pub newest : (table : ℕ) → IsBelow (commit + 1) (table_at tables table).records

-- the same tables, with the same rows at each snapshot below a commit
pub record AreSameBelow (commit : ℕ) (old new : List Table) : Type 0 where
  pub count : length new ≡ length old
  pub width : (table : ℕ) → (table_at new table).width ≡ (table_at old table).width
  pub horizon : (table : ℕ) → (table_at new table).records.horizon ≡ (table_at old table).records.horizon
  pub older : (table snap : ℕ) → snap < commit
      → IsSame (table_at old table).records snap (table_at new table).records snap

-- from a commit on the tables have these changes
pub record AreChanged (commit : ℕ) (changes : List Change) (old new : List Table) : Type 0 where
  pub rows : (table snap : ℕ) → commit ≤ snap
      → rows_in new table snap ≡ rows_with_changes table changes (rows_in old table snap)
  pub pages : (table snap : ℕ) → commit ≤ snap
      → pages_in new table snap ≡ pages_after table changes (pages_in old table snap)

-- a change of one of so many tables, whose row number fits
pub record CanPut (tables : ℕ) (c : Change) : Type 0 where
  pub there : c.table < tables
  pub narrow : c.row.0 < 4294967296
