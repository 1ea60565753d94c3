use Rattle.std.proofs.Common.{ap, length}
use Rattle.rv_race.proofs.Lanes.{piece_counts}
use Rattle.rv_race.proofs.race.Race.accept.Goals as goal

pub returns-clause-ok : goal.returns-clause-ok
returns-clause-ok c = piece_counts c.args.self.now c.add_kept.new.self c.count_piece.new.self c.args.sieved.now c.in_ok-last.last c.built-before.result c.built.result _ c.in_ok-last.ensures.ok c.built-before.ensures c.built.ensures (ap length c.entries.ensures.entries) c.count_piece.ensures
