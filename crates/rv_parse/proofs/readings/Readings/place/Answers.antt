use Rattle.std.proofs.Common.{◌∙◌, ap, bytes_eq, position}
use Rattle.rv_parse.specs.declared.readings.Reading.{Reading}
use Rattle.rv_parse.proofs.Kept.{found_reads}
use Rattle.rv_parse.proofs.readings.Readings.place.Goals as goal

pub returns : goal.returns
returns c =
    let found = c.place_of.ensures ∙ ap (position (λ (r : Reading). bytes_eq r.text c.args.text.now)) c.as_slice.ensures.value in
    rw (← c.self.view_is) (found_reads c.args.text.now c.self.inside.readings.items c.self.inside.next c.place_of.result c.self.invariant found)
