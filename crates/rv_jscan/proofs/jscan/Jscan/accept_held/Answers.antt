use Rattle.rv_jscan.specs.Steps.{held_entries, held_next}
use Rattle.rv_jscan.proofs.Lanes.{over_accepts, piece_counts}
use Rattle.rv_jscan.proofs.jscan.Jscan.accept_held.Goals as goal

pub returns-then-last-clause-ok : goal.returns-then-last-clause-ok
returns-then-last-clause-ok c =
    let v = c.args.self.now in
    let entries = held_entries v.held in
    let next = held_next v.held in
    let last = c.in_ok-last.last in
    over_accepts v c.count.new.self c.complete.new.self entries next last c.in_ok-last.ensures.last c.if-last.true (piece_counts v c.add_held.new.self c.count.new.self entries next last c.built-before.result c.built.result _ c.in_ok-last.ensures.ok c.built-before.ensures c.built.ensures c.held_len-entries.ensures c.count.ensures) c.complete.ensures.some c.complete.ensures.keys
