use Rattle.rv_jscan.proofs.Lanes.{read_can, read_lane, took_err, took_fits, took_if, took_leaves, took_reads}
use Rattle.rv_jscan.proofs.jscan.Jscan.take_awaited.Goals as goal

pub take_lane-requires-clause-can : goal.take_lane-requires-clause-can
take_lane-requires-clause-can g c = read_can c.args.self.now c.count_read.new.self (g.R.Reader.shown c.args.reader.now) c.requires.way c.count_read.ensures c.requires.can

pub take_lane-requires-clause-fits : goal.take_lane-requires-clause-fits
take_lane-requires-clause-fits g c = read_lane c.args.self.now c.count_read.new.self (g.R.Reader.shown c.args.reader.now) c.requires.way c.count_read.ensures c.requires.fits

pub returns-clause-leaves : goal.returns-clause-leaves
returns-clause-leaves g c = took_leaves c.args.self.now c.count_read.new.self c.take_lane.new.self c.requires.way c.count_read.ensures c.take_lane.ensures.same c.take_lane.ensures.held

pub returns-clause-taken : goal.returns-clause-taken
returns-clause-taken g c = took_if c.take_lane.result c.args.self.now c.count_read.new.self c.take_lane.new.self c.next_id-id.result c.requires.way c.count_read.ensures c.next_id-id.ensures c.take_lane.ensures.same c.take_lane.ensures.taken

pub returns-clause-err : goal.returns-clause-err
returns-clause-err g c = took_err c.take_lane.result c.args.self.now c.count_read.new.self c.take_lane.new.self c.count_read.ensures c.take_lane.ensures.err

pub returns-clause-fits : goal.returns-clause-fits
returns-clause-fits g c = took_fits c.args.self.now c.count_read.new.self c.take_lane.new.self (g.R.Reader.shown c.args.reader.now) c.count_read.ensures c.take_lane.ensures.same c.take_lane.ensures.fits c.requires.fits

pub returns-clause-reads : goal.returns-clause-reads
returns-clause-reads g c = took_reads c.args.self.now c.count_read.new.self c.args.steps.now c.take_lane.new.steps c.requires.way c.count_read.ensures c.take_lane.ensures.reads
