use Rattle.rv_replay.proofs.Lifts.{committed_done}
use Rattle.rv_replay.proofs.plain.PlainDatabase.commit.Goals as goal

pub returns : goal.returns
returns c = rw (← c.self.view_is, c.close_after.ensures, c.first-reply.ensures) (committed_done c.self.inside.database.stand c.self.inside.cursors c.args.session c.in_ok-replies.replies c.commit.new.self.stand c.in_ok-replies.ensures.ok)
