-- A store that was loaded with the table.
use Rattle.std.specs.Prelude.{◌≡◌, ◌≤◌}
use Rattle.rv_reader.specs.Shown.{Shown}
use Rattle.rv_loading.specs.Laid.{Offers}
use Rattle.try_retrievals.specs.declared.load.Table.{Table}

-- it offers the table, which has three columns
pub record Stands (shown : Shown) (table : Table) : Type 0 where
  pub offers : Offers table.loaded shown
  pub some : 1 ≤ table.loaded.layout.tables
  pub wide : table.loaded.schema.width ≡ 3
