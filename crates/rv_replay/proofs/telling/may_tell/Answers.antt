use Rattle.rv_replay.proofs.telling.may_tell.Goals as goal

pub returns-in-Trace : goal.returns-in-Trace
returns-in-Trace c = rw c.in-Trace.is (rw c.get.ensures at c.may_show.ensures)
