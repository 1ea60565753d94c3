use Rattle.std.proofs.Common.{Some, refl, ◌∙◌}
use Rattle.rv_text.proofs.Finding.{quoted_raw, quoted_read}
use Rattle.rv_text.proofs.values.text_value.Goals as goal

pub returns-in_ok-text-in-Ok : goal.returns-in_ok-text-in-Ok
returns-in_ok-text-in-Ok c = quoted_read (Some c.args.bytes.now) c.args.bytes.now c.in_ok-text-in-Ok.text refl (c.in_ok-text-in-Ok.ensures ∙ c.in-Ok.ensures.cases.0) c.in-Ok.ensures.cases.1

pub returns-in-Err : goal.returns-in-Err
returns-in-Err c = quoted_raw (Some c.args.bytes.now) c.args.bytes.now refl c.in-Err.ensures.cases.0
