use Rattle.rv_jscan.proofs.Lanes.{held_fits, leaf_apart, leaf_fresh}
use Rattle.rv_jscan.proofs.lane.Lane.reach.Goals as goal

pub hold-requires-clause-apart : goal.hold-requires-clause-apart
hold-requires-clause-apart g c = leaf_apart c.args.plan.now (g.R.Reader.shown c.args.reader.now) c.args.snap c.args.self.now c.in_ok-held.held c.requires.fits c.in_ok-held.ensures.leaf

pub hold-requires-clause-fresh : goal.hold-requires-clause-fresh
hold-requires-clause-fresh g c = leaf_fresh c.args.plan.now (g.R.Reader.shown c.args.reader.now) c.args.snap c.args.self.now c.in_ok-held.held c.requires.fits c.in_ok-held.ensures.leaf

pub returns-clause-fits : goal.returns-clause-fits
returns-clause-fits g c = held_fits c.args.plan.now (g.R.Reader.shown c.args.reader.now) c.args.snap c.args.self.now c.hold.new.self c.in_ok-held.held c.hold.ensures c.in_ok-held.ensures.leaf c.requires.fits
