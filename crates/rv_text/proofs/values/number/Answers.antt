use Rattle.rv_text.proofs.Leaves.{no_number}
use Rattle.rv_text.proofs.values.number.Goals as goal

pub returns-in-Err : goal.returns-in-Err
returns-in-Err c = no_number c.args.digits.now c.in-Err.ensures.cases.0
