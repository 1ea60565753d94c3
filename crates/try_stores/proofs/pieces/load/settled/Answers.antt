use Rattle.try_stores.proofs.Draws.{lists_offered}
use Rattle.try_stores.proofs.pieces.load.settled.Goals as goal

pub returns : goal.returns
returns g c = lists_offered c.args.loaded.now (g.S.Reader.shown c.args._store.now) c.requires.offers c.requires.two
