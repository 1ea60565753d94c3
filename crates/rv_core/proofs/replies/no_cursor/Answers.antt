use Rattle.rv_core.proofs.replies.no_cursor.Goals as goal

pub returns : goal.returns
returns c = rw (← c.in_ok-copy.ensures) c.refused.ensures
