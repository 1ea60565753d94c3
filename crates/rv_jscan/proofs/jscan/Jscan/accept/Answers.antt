use Rattle.std.proofs.Common.{ap, length}
use Rattle.rv_jscan.specs.Steps.{held_next}
use Rattle.rv_jscan.proofs.Lanes.{over_accepts, piece_counts}
use Rattle.rv_jscan.proofs.jscan.Jscan.accept.Goals as goal

pub returns-then-last-clause-ok : goal.returns-then-last-clause-ok
returns-then-last-clause-ok c =
    let v = c.args.self.now in
    let entries = c.args.sieved.now.entries in
    let next = held_next v.held in
    let last = c.in_ok-last.last in
    over_accepts v c.count.new.self c.complete.new.self entries next last c.in_ok-last.ensures.last c.if-last.true (piece_counts v c.add_kept.new.self c.count.new.self entries next last c.built-before.result c.built.result _ c.in_ok-last.ensures.ok c.built-before.ensures c.built.ensures (ap length c.entries.ensures.entries) c.count.ensures) c.complete.ensures.some c.complete.ensures.keys
