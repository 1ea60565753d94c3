use Rattle.own_sessions.proofs.sessions.finish.Goals as goal

pub returns-clause-goes_on : goal.returns-clause-goes_on
returns-clause-goes_on g c = let e = c.close.ensures.history in (e.0, e.1)
