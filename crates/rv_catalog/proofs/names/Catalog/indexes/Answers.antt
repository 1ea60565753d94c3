use Rattle.std.proofs.Common.{length, map, string_bytes}
use Rattle.rv_catalog.proofs.Keeps.{few_indexes}
use Rattle.rv_catalog.proofs.names.Catalog.indexes.Goals as goal

pub returns-clause-room : goal.returns-clause-room
returns-clause-room c = rw (← c.self.view_is) (few_indexes (map string_bytes c.self.inside.index_keys.keys) (length c.self.inside.tables.items) c.self.inside.indexes.items c.self.invariant.0.room c.self.invariant.1)
