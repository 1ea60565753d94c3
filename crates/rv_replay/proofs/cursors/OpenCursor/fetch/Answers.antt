use Rattle.rv_replay.proofs.Fetching.{judges_cursor}
use Rattle.rv_replay.proofs.cursors.OpenCursor.fetch.Goals as goal

pub returns : goal.returns
returns c =
    let i = c.self.inside in
    rw (← c.self.view_is) (judges_cursor c.take_given.result (record { session = i.session; name = i.name; table = i.table; offers = i.offers }) c.args.given.now c.take_given.new.offers c.take_given.ensures)
