use Rattle.rv_audit.proofs.Running.{runs_are_legal}
use Rattle.rv_audit.proofs.laws.runs_are_legal.Goals as goal

pub returns : goal.returns
returns c = runs_are_legal
