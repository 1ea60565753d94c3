use Rattle.rv_rows.proofs.changes.undo_listed.Goals as goal

pub returns-in-None : goal.returns-in-None
returns-in-None c = rw c.in-None.is c.take_listed.ensures
