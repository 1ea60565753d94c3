use Rattle.std.proofs.Common.{◌≡◌, OnErr, subst}
use Rattle.rv_race.specs.Raced.{Raced}
use Rattle.rv_race.proofs.Takes.{took_can, took_fits, took_lane, took_leaves, took_reads, took_taken, took_trace}
use Rattle.rv_race.proofs.race.Race.take_awaited.Goals as goal

pub take_lane-requires-clause-can : goal.take_lane-requires-clause-can
take_lane-requires-clause-can g c = took_can c.args.self.now c.count_read.new.self (g.R.Reader.shown c.args.reader.now) c.count_read.ensures c.requires.fits

pub take_lane-requires-clause-fits : goal.take_lane-requires-clause-fits
take_lane-requires-clause-fits g c = took_lane c.args.self.now c.count_read.new.self (g.R.Reader.shown c.args.reader.now) c.count_read.ensures c.requires.fits

pub returns-clause-took : goal.returns-clause-took
returns-clause-took g c = record {
  leaves = took_leaves c.args.self.now c.count_read.new.self c.take_lane.new.self c.requires.under_way c.count_read.ensures c.take_lane.ensures.same c.take_lane.ensures.held;
  told = took_trace c.args.self.now c.count_read.new.self c.take_lane.new.self c.count_read.ensures c.take_lane.ensures.same;
  fits = took_fits c.args.self.now c.count_read.new.self c.take_lane.new.self (g.R.Reader.shown c.args.reader.now) c.requires.under_way c.count_read.ensures c.take_lane.ensures.same c.take_lane.ensures.fits c.requires.fits;
  reads = took_reads c.args.self.now c.count_read.new.self c.args.steps.now c.take_lane.new.steps c.requires.under_way c.count_read.ensures c.take_lane.ensures.reads;
}

pub returns-clause-taken : goal.returns-clause-taken
returns-clause-taken g c = took_taken c.take_lane.result c.args.self.now c.count_read.new.self c.take_lane.new.self c.next_id-id.result c.requires.under_way c.count_read.ensures c.next_id-id.ensures c.take_lane.ensures.same c.take_lane.ensures.taken

pub returns-clause-err : goal.returns-clause-err
returns-clause-err g c = subst (λ (x : Raced). OnErr c.take_lane.result (c.take_lane.new.self ≡ x)) c.count_read.ensures c.take_lane.ensures.err
