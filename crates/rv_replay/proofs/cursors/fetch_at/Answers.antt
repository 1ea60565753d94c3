use Rattle.rv_replay.proofs.Fetching.{judges_at}
use Rattle.rv_replay.proofs.cursors.fetch_at.Goals as goal

pub returns : goal.returns
returns c = judges_at c.fetch.result c.args.cursors.now c.args.place c.at_mut.result.now c.fetch.new.self c.args.given.now c.at_mut.ensures.value c.fetch.ensures
