use Rattle.std.proofs.lemmas.Result.{on_ok_weaker}
use Rattle.try_stores.proofs.Filling.{absent_next, filled_next}
use Rattle.try_stores.proofs.trees.fill.put_next.Goals as goal

pub insert-requires-clause-absent : goal.insert-requires-clause-absent
insert-requires-clause-absent c = absent_next c.args.row c.in_ok-entry.entry c.args.tree.now c.requires c.in_ok-entry.ensures.row

pub returns : goal.returns
returns c =
    on_ok_weaker c.insert.result (λ put. filled_next c.args.row c.in_ok-entry.entry c.args.tree.now c.insert.new.self c.requires c.in_ok-entry.ensures.row c.in_ok-entry.ensures.key put c.insert.ensures.newest) c.insert.ensures.ok
