use Rattle.rv_audit.proofs.laws.run_is_legal.Goals as goal

pub returns : goal.returns
returns c = c.runs_are_legal.ensures c.args.history.now c.replies_are_held.ensures
