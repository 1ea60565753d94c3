-- A select over the tables that were loaded.
use Rattle.std.specs.Prelude.{◌≡◌, ℕ, ◌<◌, ◌≤◌, List, Bool, true, nat_lt, length}
use Rattle.std.specs.List.{list_all}
use Rattle.rv_restrict.specs.Truth.{names_only}
use Rattle.rv_catalog.specs.declared.def.Select.{Select}
use Rattle.rv_catalog.specs.declared.def.IndexDef.{IndexDef}
use Rattle.rv_join.specs.Asking.{index_at}
use Rattle.rv_loading.specs.declared.schema.Loaded.{Loaded}
use Rattle.rv_loading.specs.Laid.{over_at}
use Rattle.rv_loading.specs.Naming.{is_column}

-- one of so many tables
abbrev pub is_table : ℕ → ℕ → Bool
is_table tables table = nat_lt table tables

-- one to four of the tables, and columns of theirs alone
pub record IsOurs (loaded : Loaded) (s : Select) : Type 0 where
  pub some : 1 ≤ length s.tables
  pub joined : length s.tables ≤ 4
  pub there : list_all (is_table loaded.layout.tables) s.tables ≡ true
  pub only : names_only (is_column (length s.tables) loaded.schema.width) s.only ≡ true
  pub returns : list_all (is_column (length s.tables) loaded.schema.width) s.returns ≡ true
  pub order : list_all (is_column (length s.tables) loaded.schema.width) s.order ≡ true

-- the first so many indexes
pub record AreIndexes (loaded : Loaded) (count : ℕ) (indexes : List IndexDef) : Type 0 where
  pub long : length indexes ≡ count
  pub table : (i : ℕ) → i < count → (index_at indexes i).table ≡ (over_at loaded.schema.indexes i).table
  pub columns : (i : ℕ) → i < count → (index_at indexes i).columns ≡ (over_at loaded.schema.indexes i).columns

-- at most six of those that are there
pub record HasIndexes (loaded : Loaded) (indexes : List IndexDef) : Type 0 where
  pub count : ℕ
  pub few : count ≤ 6
  pub there : count ≤ loaded.layout.indexes
  pub are : AreIndexes loaded count indexes
