use Rattle.rv_auditrun.proofs.Judging.{judged_legal}
use Rattle.rv_auditrun.proofs.laws.history_is_judged_legal.Goals as goal

pub returns : goal.returns
returns c = judged_legal c.says_once.ensures c.args.history.now c.run_is_legal.ensures
