use Rattle.rv_replay.proofs.Lifts.{done_with, began_with}
use Rattle.rv_replay.proofs.plain.PlainDatabase.begin.Goals as goal

pub returns : goal.returns
returns c = rw (← c.self.view_is, c.first.ensures) (done_with _ _ c.self.inside.database.stand c.begin.new.self.stand c.in_ok-replies.replies c.self.inside.cursors (began_with c.self.inside.database.stand.db c.self.inside.cursors c.args.session c.args.read_only) c.in_ok-replies.ensures.ok)
