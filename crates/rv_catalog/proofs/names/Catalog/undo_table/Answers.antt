use Rattle.std.proofs.Common.{arith, length, map, string_bytes, ◌≡◌, ◌+◌, ◌-◌, ◌≤◌, take}
use Rattle.std.proofs.lemmas.Grind.{common_steps}
use Rattle.rv_catalog.specs.Kept.{indexes_over}
use Rattle.rv_catalog.proofs.Keeps.{fewer_below, table_cut}
use Rattle.rv_catalog.proofs.names.Catalog.undo_table.Goals as goal

pub invariant_of-self : goal.invariant_of-self
invariant_of-self c = let items : c.pop.new.self.items ≡ take c.len-left.result c.self.inside.tables.items = grind (arith, common_steps) in let some : 1 ≤ length c.self.inside.tables.items = rw (← c.self.view_is) at c.requires.some in let left : length c.pop.new.self.items ≡ length c.self.inside.tables.items - 1 = grind (arith, common_steps) in let alone : indexes_over (length c.self.inside.tables.items - 1) c.self.inside.indexes.items ≡ 0 = rw (← c.self.view_is) at c.requires.alone in let over : indexes_over (length c.pop.new.self.items) c.self.inside.indexes.items ≡ 0 = rw left alone in let step : length c.self.inside.tables.items ≡ length c.pop.new.self.items + 1 = omega (arith, some, left) in (rw (items, c.truncate.ensures.keys) (table_cut string_bytes c.self.inside.table_keys.keys c.self.inside.tables.items c.len-left.result c.self.invariant.0), fewer_below (map string_bytes c.self.inside.index_keys.keys) (length c.self.inside.tables.items) (length c.pop.new.self.items) c.self.inside.indexes.items step over c.self.invariant.1)
