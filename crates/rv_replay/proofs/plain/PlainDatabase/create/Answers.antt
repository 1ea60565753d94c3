use Rattle.rv_replay.proofs.Lifts.{done_with, created_with}
use Rattle.rv_replay.proofs.plain.PlainDatabase.create.Goals as goal

pub returns : goal.returns
returns c = rw (← c.self.view_is, c.first.ensures) (done_with _ _ c.self.inside.database.stand c.create.new.self.stand c.in_ok-replies.replies c.self.inside.cursors (created_with c.self.inside.database.stand.db c.self.inside.cursors c.args.def) c.in_ok-replies.ensures.ok)
