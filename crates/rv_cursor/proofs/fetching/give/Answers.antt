use Rattle.rv_cursor.proofs.Holding.{hand_moves}
use Rattle.rv_cursor.proofs.fetching.give.Goals as goal

pub returns-clause-ok : goal.returns-clause-ok
returns-clause-ok c = λ shown fits. hand_moves shown c.args.cursor.now c.in-Some.offer c.in_ok-kept.kept c.take-given.result c.take-given.new.self c.replies_of.result c.in-Some.is c.take-given.ensures.value c.take-given.ensures.after c.in_ok-kept.ensures c.replies_of.ensures fits
