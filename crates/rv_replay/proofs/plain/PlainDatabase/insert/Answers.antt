use Rattle.rv_replay.proofs.Lifts.{done_with, inserted_with}
use Rattle.rv_replay.proofs.plain.PlainDatabase.insert.Goals as goal

pub returns : goal.returns
returns c = rw (← c.self.view_is, c.first.ensures) (done_with _ _ c.self.inside.database.stand c.insert.new.self.stand c.in_ok-replies.replies c.self.inside.cursors (inserted_with c.self.inside.database.stand.db c.self.inside.cursors c.args.session c.args.table c.args.values) c.in_ok-replies.ensures.ok)
