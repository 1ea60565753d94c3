use Rattle.rv_audit.proofs.Running.{runs_are_told}
use Rattle.rv_audit.proofs.laws.runs_are_told.Goals as goal

pub returns : goal.returns
returns c = runs_are_told c.text_tells.ensures
