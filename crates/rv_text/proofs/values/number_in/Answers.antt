use Rattle.std.proofs.Common.{◌∙◌}
use Rattle.rv_text.proofs.Leaves.{number_compared, number_fails}
use Rattle.rv_text.proofs.values.number_in.Goals as goal

pub returns-in-Ok : goal.returns-in-Ok
returns-in-Ok c = c.written_so.ensures.same ∙ number_compared c.args.text.now c.in-Ok.number c.written_so.ensures.small c.in-Ok.ensures.value.0

pub returns-in-Err : goal.returns-in-Err
returns-in-Err c = number_fails c.args.text.now c.in-Err.ensures.value.0
