use Rattle.rv_own.proofs.Bases.{are_own}
use Rattle.rv_rivals.proofs.near.near_of.Goals as goal

pub freeze-requires-clause-kept : goal.freeze-requires-clause-kept
freeze-requires-clause-kept g c = are_own (g.S.Reader.shown c.args.store.now) c.args.txns.now.active c.requires.placed.place c.args.own.now c.args.views.now c.requires.placed.found c.requires.placed.here c.requires.kept
