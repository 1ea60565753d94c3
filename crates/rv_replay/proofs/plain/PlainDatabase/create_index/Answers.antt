use Rattle.std.proofs.Common.{ap}
use Rattle.rv_core.specs.Db.{Whole}
use Rattle.rv_replay.proofs.Lifts.{indexed_done}
use Rattle.rv_replay.proofs.plain.PlainDatabase.create_index.Goals as goal

pub returns : goal.returns
returns c = rw (← c.self.view_is, c.first.ensures) (indexed_done c.self.inside.database.stand c.sweep.new.self.stand c.create_index.new.self.stand c.in_ok-replies.replies c.self.inside.cursors c.args.def (ap (λ (w : Whole _). w.stand.db) c.sweep.ensures.same) c.in_ok-replies.ensures.ok)
