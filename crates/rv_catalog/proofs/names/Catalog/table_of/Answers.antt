use Rattle.std.proofs.Common.{string_bytes, ◌∙◌}
use Rattle.rv_catalog.specs.declared.def.TableDef.{TableDef}
use Rattle.rv_catalog.proofs.Known.{known_at}
use Rattle.rv_catalog.proofs.names.Catalog.table_of.Goals as goal

pub returns-clause-is : goal.returns-clause-is
returns-clause-is c = rw (← c.self.view_is) (c.get_index_of.ensures.index ∙ known_at string_bytes (λ (t : TableDef). t.name) c.self.inside.table_keys.keys c.self.inside.tables.items c.args.name.now c.as_str.result.now c.as_str.ensures.same c.self.invariant.0.named)
