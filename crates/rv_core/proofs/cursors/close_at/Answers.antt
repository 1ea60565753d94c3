use Rattle.rv_core.proofs.cursors.close_at.Goals as goal

pub returns : goal.returns
returns c = c.remove.ensures.rest
