use Rattle.std.proofs.Common.{◌++◌, ◌∙◌, ap, filter, map, sym}
use Rattle.std.proofs.lemmas.List.Elements.{filter-append}
use Rattle.rv_rows.specs.Changes.{change_at, is_from}
use Rattle.rv_rows.proofs.Forms.{rise_listed}
use Rattle.rv_rows.proofs.Keys.{from_is}
use Rattle.rv_rows.proofs.changes.Changes.parts_from.Goals as goal

pub listed_from-listed-requires : goal.listed_from-listed-requires
listed_from-listed-requires c = rw c.as_slice.ensures (rise_listed c.self.inside.listed c.self.inside.mapped.entries c.self.invariant)

pub returns-clause-same : goal.returns-clause-same
returns-clause-same c =
    let listed = c.listed_from-listed.ensures ∙ ap (filter (is_from c.args.table)) c.as_slice.ensures in
    let mapped = ap (map change_at) (c.range-mapped.ensures.between tt) ∙ from_is c.args.table c.self.inside.mapped.entries in
    (λ i. listed i ++ mapped i) ∙ sym (filter-append (is_from c.args.table) c.self.inside.listed (map change_at c.self.inside.mapped.entries)) ∙ ap (filter (is_from c.args.table)) c.self.view_is
