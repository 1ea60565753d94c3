use Rattle.rv_jscan.proofs.Lanes.{read_can, read_lane, took_fits, took_leaves, took_reads}
use Rattle.rv_jscan.proofs.jscan.Jscan.reach.Goals as goal

pub reach_lane-requires-clause-can : goal.reach_lane-requires-clause-can
reach_lane-requires-clause-can g c = read_can c.args.self.now c.count_read.new.self (g.R.Reader.shown c.args.reader.now) c.requires.way c.count_read.ensures c.requires.can

pub reach_lane-requires-clause-fits : goal.reach_lane-requires-clause-fits
reach_lane-requires-clause-fits g c = read_lane c.args.self.now c.count_read.new.self (g.R.Reader.shown c.args.reader.now) c.requires.way c.count_read.ensures c.requires.fits

pub returns-clause-leaves : goal.returns-clause-leaves
returns-clause-leaves g c = took_leaves c.args.self.now c.count_read.new.self c.reach_lane.new.self c.requires.way c.count_read.ensures c.reach_lane.ensures.same c.reach_lane.ensures.held

pub returns-clause-fits : goal.returns-clause-fits
returns-clause-fits g c = took_fits c.args.self.now c.count_read.new.self c.reach_lane.new.self (g.R.Reader.shown c.args.reader.now) c.count_read.ensures c.reach_lane.ensures.same c.reach_lane.ensures.fits c.requires.fits

pub returns-clause-reads : goal.returns-clause-reads
returns-clause-reads g c = took_reads c.args.self.now c.count_read.new.self c.args.steps.now c.reach_lane.new.steps c.requires.way c.count_read.ensures c.reach_lane.ensures.reads
