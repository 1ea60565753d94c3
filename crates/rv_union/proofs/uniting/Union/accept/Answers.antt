use Rattle.std.proofs.Common.{ap, length}
use Rattle.rv_union.proofs.Lanes.{piece_counts}
use Rattle.rv_union.proofs.uniting.Union.accept.Goals as goal

pub returns-clause-ok : goal.returns-clause-ok
returns-clause-ok c = piece_counts c.args.self.now c.add_kept.new.self c.count_piece.new.self c.args.sieved.now c.args.last c.built-before.result c.built.result _ c.in_ok-add_kept.ensures.ok c.built-before.ensures c.built.ensures (ap length c.entries.ensures.entries) c.count_piece.ensures
