use Rattle.rv_run.proofs.top.legal_history.Goals as goal

pub returns-clause-legal : goal.returns-clause-legal
returns-clause-legal g c = c.same_are_legal.ensures.believed _ c.history.ensures.sound.legal
