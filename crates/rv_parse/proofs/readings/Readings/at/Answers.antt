use Rattle.std.proofs.Common.{ap, length, refl}
use Rattle.std.proofs.lemmas.List.{get_or_read_under}
use Rattle.rv_parse.specs.declared.readings.Reading.{Reading}
use Rattle.rv_parse.specs.Kept.{no_reading}
use Rattle.rv_parse.proofs.Kept.{kept_parts}
use Rattle.rv_parse.proofs.readings.Readings.at.Goals as goal

pub returns-clause-parts : goal.returns-clause-parts
returns-clause-parts c =
    let low = rw (← c.self.view_is) at c.requires in
    let here = get_or_read_under c.self.inside.readings.items c.args.place (length c.self.inside.readings.items) c.index.result.now no_reading c.index.ensures low refl in
    kept_parts c.self.inside.readings.items c.self.inside.next c.args.place c.index.result.now.statement c.self.invariant low (ap (λ (r : Reading). r.statement) here)
