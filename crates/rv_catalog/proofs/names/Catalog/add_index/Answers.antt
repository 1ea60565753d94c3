use Rattle.std.proofs.Common.{rules, length, string_bytes, ◌∙◌, ◌≡◌, ◌++◌, ◌∷◌, []}
use Rattle.rv_catalog.proofs.Keeps.{index_added}
use Rattle.rv_catalog.proofs.names.Catalog.add_index.Goals as goal

pub invariant_of-self-2 : goal.invariant_of-self-2
invariant_of-self-2 c = let items : c.push.new.self.items ≡ c.self.inside.indexes.items ++ c.args.def ∷ [] = search rules in rw items (c.self.invariant.0, index_added string_bytes c.self.inside.index_keys.keys c.insert.new.self.keys c.in-Ok.name (length c.self.inside.tables.items) c.self.inside.indexes.items c.args.def c.self.invariant.1 (rw (← c.self.view_is) at c.requires.fresh) (rw (← c.self.view_is) at c.requires.there) (rw (← c.self.view_is) at c.requires.few) (c.in-Ok.ensures.ok ∙ c.as_str.ensures.same) c.in-Ok-insert.ensures.keys)
