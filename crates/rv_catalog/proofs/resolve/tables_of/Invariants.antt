use Rattle.std.proofs.Common.{◌≡◌, map, take}
use Rattle.rv_catalog.specs.Resolve.{item_table}
use Rattle.rv_catalog.proofs.resolve.tables_of.Given as goal

abbrev pub invariant-items : goal.invariant-items
invariant-items l = l.tables.items ≡ map item_table (take l.item-index l.reach)
