use Rattle.rv_jscan.proofs.Lanes.{held_keys}
use Rattle.rv_jscan.proofs.lane.Lane.take.Goals as goal

pub copy_held-requires-clause-keys : goal.copy_held-requires-clause-keys
copy_held-requires-clause-keys g c = held_keys c.args.plan.now (g.R.Reader.shown c.args.reader.now) c.args.snap c.args.self.now c.requires.can c.requires.fits
