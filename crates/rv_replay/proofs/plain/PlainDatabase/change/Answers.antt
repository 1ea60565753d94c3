use Rattle.std.specs.Option.{option_copied}
use Rattle.rv_replay.proofs.Lifts.{changed_with, done_with}
use Rattle.rv_replay.proofs.plain.PlainDatabase.change.Goals as goal

pub returns : goal.returns
returns c = rw (← c.self.view_is, c.first.ensures) (done_with _ _ c.self.inside.database.stand c.change.new.self.stand c.in_ok-replies.replies c.self.inside.cursors (changed_with c.self.inside.database.stand.db c.self.inside.cursors c.args.session c.args.table (option_copied c.args.sets) c.args.only.now) c.in_ok-replies.ensures.ok)
