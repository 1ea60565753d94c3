-- A store of one table with one index over its first column, which a transaction reads at commit 1.
use Rattle.std.specs.Prelude.{◌≡◌, ◌≤◌, ℕ, List, None, IfSome, false, length}
use Rattle.rv_value.specs.declared.range.Range.{Range}
use Rattle.rv_rows.specs.declared.changes.Change.{Change}
use Rattle.rv_catalog.specs.declared.def.IndexDef.{IndexDef}
use Rattle.rv_reader.specs.Shown.{Shown, IsSnapshot}
use Rattle.rv_reader.specs.Storing.{IsStored}
use Rattle.rv_overlay.specs.declared.frozen.Frozen.{Frozen}
use Rattle.rv_view.specs.Making.{AreIndexes, Keeps}
use Rattle.rv_loading.specs.declared.schema.Loaded.{Loaded}
use Rattle.rv_loading.specs.Laid.{over_at}

pub record Stands (shown : Shown) (indexes : List IndexDef) : Type 0 where
  pub stored : IsStored shown
  pub tables : shown.tables ≡ 1
  pub indexed : shown.indexes ≡ 1
  pub snapshot : IsSnapshot shown 1
  pub listed : AreIndexes shown indexes

-- what was loaded has one table, one index over one to four columns, and the commit
pub record IsOne (loaded : Loaded) : Type 0 where
  pub tables : loaded.layout.tables ≡ 1
  pub indexes : loaded.layout.indexes ≡ 1
  pub kept : loaded.layout.horizon ≤ 1
  pub known : 1 ≤ loaded.layout.newest
  pub some : 1 ≤ length (over_at loaded.schema.indexes 0).columns
  pub few : length (over_at loaded.schema.indexes 0).columns ≤ 4

-- the one index
pub record IsFirst (loaded : Loaded) (d : IndexDef) : Type 0 where
  pub table : d.table ≡ (over_at loaded.schema.indexes 0).table
  pub columns : d.columns ≡ (over_at loaded.schema.indexes 0).columns

-- a change of a row of the table
pub record IsOf (row : ℕ) (c : Change) : Type 0 where
  pub table : c.table ≡ 0
  pub number : c.row.0 ≡ row
  pub width : IfSome c.values (λ values. length values ≡ 1)

-- a view over commit 1, as it is kept
pub record IsKept (shown : Shown) (f : Frozen) (written : List Change) : Type 0 where
  pub base : f.base ≡ 1
  pub keeps : Keeps shown f written

-- the range of all entries
abbrev pub all_entries : Range
all_entries = record { low = None; high = None; starts = false }
