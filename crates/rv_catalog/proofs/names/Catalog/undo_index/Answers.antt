use Rattle.std.proofs.Common.{arith, length, string_bytes, ◌≡◌, take}
use Rattle.std.proofs.lemmas.Grind.{common_steps}
use Rattle.rv_catalog.proofs.Keeps.{index_cut}
use Rattle.rv_catalog.proofs.names.Catalog.undo_index.Goals as goal

pub invariant_of-self : goal.invariant_of-self
invariant_of-self c = let items : c.pop.new.self.items ≡ take c.len-left.result c.self.inside.indexes.items = grind (arith, common_steps) in rw (items, c.truncate.ensures.keys) (c.self.invariant.0, index_cut string_bytes c.self.inside.index_keys.keys (length c.self.inside.tables.items) c.self.inside.indexes.items c.len-left.result c.self.invariant.1)
