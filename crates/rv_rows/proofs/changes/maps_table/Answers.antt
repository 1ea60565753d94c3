use Rattle.std.proofs.Common.{◌∙◌, ap, sym}
use Rattle.std.specs.Map.Iter.{deref_pair}
use Rattle.std.proofs.lemmas.Map.Iter.{rest_more, rest_all}
use Rattle.rv_rows.proofs.Keys.{first_is, first_of}
use Rattle.rv_rows.proofs.changes.maps_table.Goals as goal

pub returns-in-Some : goal.returns-in-Some
returns-in-Some c =
    let left = rest_more deref_pair c.range.result c.next.new.self c.next.result (c.in-Some.first, c.in-Some.field-0-1) c.in-Some.is c.next.ensures.steps in
    ap (first_of c.args.table) (sym left ∙ c.range.ensures.between tt) ∙ first_is c.args.table c.args.mapped.now.entries c.requires

pub returns-in-None : goal.returns-in-None
returns-in-None c =
    let left = rest_all deref_pair c.range.result c.next.new.self c.next.result c.in-None.is c.next.ensures.steps in
    ap (first_of c.args.table) (sym left ∙ c.range.ensures.between tt) ∙ first_is c.args.table c.args.mapped.now.entries c.requires
