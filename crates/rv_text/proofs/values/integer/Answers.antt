use Rattle.rv_text.proofs.Finding.{no_integer}
use Rattle.rv_text.proofs.values.integer.Goals as goal

pub returns-in-Err : goal.returns-in-Err
returns-in-Err c = no_integer c.args.digits.now c.in-Err.ensures.cases.0
