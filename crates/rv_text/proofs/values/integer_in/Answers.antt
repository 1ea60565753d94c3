use Rattle.std.proofs.Common.{rules}
use Rattle.rv_text.proofs.Finding.{integer_compared, integer_fails}
use Rattle.rv_text.proofs.values.integer_in.Goals as goal

pub returns-in-Ok : goal.returns-in-Ok
returns-in-Ok c = integer_compared c.args.text.now c.in-Ok.number c.signed_so.result (search rules) c.in-Ok.ensures.value.0 c.signed_so.ensures

pub returns-in-Err : goal.returns-in-Err
returns-in-Err c = integer_fails c.args.text.now c.in-Err.ensures.value.0
