use Rattle.std.proofs.Common.{subst}
use Rattle.rv_auditrun.specs.Runs.{RunIsJudgedLegal}
use Rattle.rv_auditrun.proofs.laws.run_is_judged_legal.Goals as goal

pub returns : goal.returns
returns g c = subst RunIsJudgedLegal c.history.ensures.entries c.history_is_judged_legal.ensures
