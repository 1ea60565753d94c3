use Rattle.std.proofs.Common.{ap, ◌∙◌}
use Rattle.std.specs.List.{list_any}
use Rattle.rv_catalog.specs.Kinds.{column_at, is_other_kind}
use Rattle.rv_catalog.proofs.Listed.{list_kind}
use Rattle.rv_catalog.proofs.kinds.check_atom.Goals as goal

pub returns-in-Among : goal.returns-in-Among
returns-in-Among c = rw c.in-Among.is (list_kind c.refuse-in-Among.result c.find_at-kind-in-Among.result.0.now c.find_at-kind-in-Among.result.1 (column_at c.args.catalog.now.tables c.args.reach.now c.in-Among.column) c.in-Among.list c.any_other_kind.result c.find_at-kind-in-Among.ensures (c.any_other_kind.ensures ∙ ap (λ l. list_any (is_other_kind c.find_at-kind-in-Among.result.1) l) c.as_slice.ensures) c.refuse-in-Among.ensures)
