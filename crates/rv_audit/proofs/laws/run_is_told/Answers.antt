use Rattle.rv_audit.proofs.laws.run_is_told.Goals as goal

pub returns : goal.returns
returns c = c.runs_are_told.ensures c.args.one.now c.args.other.now c.replies_are_held.ensures c.replies_are_held-2.ensures
