use Rattle.std.proofs.Common.{◌∙◌, sym}
use Rattle.rv_text.proofs.Passing.{passed_rest}
use Rattle.rv_text.proofs.values.cut_value.Goals as goal

pub bytes-preserved : goal.bytes-preserved
bytes-preserved c = passed_rest c.args.text.now c.bytes.at c.bytes.inside c.is_inside-inside.result c.bytes.rest.now c.in-len1-up.len_at_least (sym c.ends_value.ensures ∙ c.if-ends_value.false) c.is_inside-inside.ensures c.bytes.invariant
