use Rattle.std.proofs.Common.{rules, map, length, length-append, string_bytes, ◌∙◌, ◌≡◌, ◌++◌, ◌∷◌, []}
use Rattle.rv_catalog.proofs.Keeps.{more_below, table_added}
use Rattle.rv_catalog.proofs.names.Catalog.add_table.Goals as goal

pub invariant_of-self-2 : goal.invariant_of-self-2
invariant_of-self-2 c = let items : c.push.new.self.items ≡ c.self.inside.tables.items ++ c.args.def ∷ [] = search rules in rw items (table_added string_bytes c.self.inside.table_keys.keys c.insert.new.self.keys c.in-Ok.name c.self.inside.tables.items c.args.def c.self.invariant.0 (rw (← c.self.view_is) at c.requires.fresh) (rw (← c.self.view_is) at c.requires.room) c.requires.narrow (c.in-Ok.ensures.ok ∙ c.as_str.ensures.same) c.in-Ok-insert.ensures.keys, more_below (map string_bytes c.self.inside.index_keys.keys) (length c.self.inside.tables.items) (length (c.self.inside.tables.items ++ c.args.def ∷ [])) c.self.inside.indexes.items (length-append c.self.inside.tables.items (c.args.def ∷ [])) c.self.invariant.1)
