-- What scans need of what was loaded: a table of two columns, and an index over both.
use Rattle.std.specs.Prelude.{◌≡◌, ◌≤◌, List, [], ◌∷◌, true, length}
use Rattle.rv_restrict.specs.declared.atom.Atom.{Atom}
use Rattle.rv_restrict.specs.Truth.{names_only}
use Rattle.rv_reader.specs.Shown.{Shown}
use Rattle.rv_scan.specs.Told.{NamesThese}
use Rattle.rv_loading.specs.declared.schema.Loaded.{Loaded}
use Rattle.rv_loading.specs.Laid.{Offers, over_at}
use Rattle.rv_loading.specs.Naming.{home_column}

-- the table, the index and the snapshot are there
pub record IsWhole (loaded : Loaded) : Type 0 where
  pub table : 1 ≤ loaded.layout.tables
  pub index : 1 ≤ loaded.layout.indexes
  pub wide : loaded.schema.width ≡ 2
  pub long : 2 ≤ length (over_at loaded.schema.indexes 0).columns
  pub kept : loaded.layout.horizon ≤ loaded.snap
  pub known : loaded.snap ≤ loaded.layout.newest

-- and the store shows them
pub record Stands (loaded : Loaded) (shown : Shown) : Type 0 where
  pub whole : IsWhole loaded
  pub offers : Offers loaded shown

-- the restriction names columns of the table alone
pub record IsOver (only : List (List Atom)) : Type 0 where
  pub table : names_only (home_column 2) only ≡ true
  pub index : NamesThese (1 ∷ 0 ∷ []) only
