use Rattle.std.proofs.Common.{◌∙◌, arith}
use Rattle.std.proofs.lemmas.List.{take_rest}
use Rattle.rv_text.proofs.Finding.{call_raw, call_read}
use Rattle.rv_text.proofs.reading.call.Goals as goal

pub returns-in_ok-text-in-Ok : goal.returns-in_ok-text-in-Ok
returns-in_ok-text-in-Ok c = call_read c.args.line.now _ c.in_ok-text-in-Ok.text c.in-len2-up.len_at_least (omega arith) (omega arith) (omega arith) (take_rest c.args.line.now 2) (c.in_ok-text-in-Ok.ensures ∙ c.in-Ok.ensures.cases.0) c.in-Ok.ensures.cases.1

pub returns-in-Err : goal.returns-in-Err
returns-in-Err c = call_raw c.args.line.now _ c.in-len2-up.len_at_least (take_rest c.args.line.now 2) c.in-Err.ensures.cases.0
