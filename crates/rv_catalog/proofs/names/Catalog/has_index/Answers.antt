use Rattle.std.proofs.Common.{string_bytes, ◌∙◌, ap, is_some}
use Rattle.rv_catalog.specs.declared.def.IndexDef.{IndexDef}
use Rattle.rv_catalog.proofs.Known.{known_at}
use Rattle.rv_catalog.proofs.names.Catalog.has_index.Goals as goal

pub returns : goal.returns
returns c = rw (← c.self.view_is) (c.is_some.ensures ∙ ap is_some (c.get_index_of.ensures.index ∙ known_at string_bytes (λ (i : IndexDef). i.name) c.self.inside.index_keys.keys c.self.inside.indexes.items c.args.name.now c.as_str.result.now c.as_str.ensures.same c.self.invariant.1.named))
