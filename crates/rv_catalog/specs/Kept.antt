-- What a catalog keeps: the names by which it looks up, and the bounds on tables, columns and indexes.
use Rattle.std.specs.Prelude.{◌≡◌, ◌≤◌, ◌==◌, ℕ, List, Bool, true, filter, length, nat_le, nat_lt}
use Rattle.std.specs.List.{list_all}
use Rattle.rv_catalog.specs.declared.def.TableDef.{TableDef}
use Rattle.rv_catalog.specs.declared.def.IndexDef.{IndexDef}
use Rattle.rv_catalog.specs.Schema.{index_names, table_names}

abbrev pub is_narrow : TableDef → Bool
is_narrow t = nat_le (length t.columns) 16

abbrev pub is_over : ℕ → IndexDef → Bool
is_over table i = i.table == table

abbrev pub is_below : ℕ → IndexDef → Bool
is_below tables i = nat_lt i.table tables

-- the number of a table's indexes
abbrev pub indexes_over : ℕ → List IndexDef → ℕ
indexes_over table indexes = length (filter (is_over table) indexes)

pub record KeepsTables (names : List (List ℕ)) (tables : List TableDef) : Type 0 where
  pub named : names ≡ table_names tables
  pub room : length tables ≤ 64
  pub narrow : list_all is_narrow tables ≡ true

pub record KeepsIndexes (names : List (List ℕ)) (tables : ℕ) (indexes : List IndexDef) : Type 0 where
  pub named : names ≡ index_names indexes
  pub there : list_all (is_below tables) indexes ≡ true
  pub few : (table : ℕ) → indexes_over table indexes ≤ 8
