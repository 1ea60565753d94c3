use Rattle.std.proofs.Common.{◌∙◌, ap}
use Rattle.rv_race.specs.Effort.{effort}
use Rattle.rv_race.specs.Raced.{Raced, rest}
use Rattle.rv_race.specs.Given.{awaited}
use Rattle.rv_race.proofs.Efforts.{leaf_spends, take_spends}
use Rattle.rv_race.proofs.Stepped.{counts_rise}
use Rattle.rv_race.proofs.Takes.{counted_fits, counted_leaves, counted_race, counted_tells, took_awaits, took_race, took_rest, took_steady, took_tells}
use Rattle.rv_race.proofs.Tellings.{undropped_piece}
use Rattle.rv_race.proofs.race.Race.take.Goals as goal

pub returns-clause-leaves : goal.returns-clause-leaves
returns-clause-leaves g c = counted_leaves c.args.self.now c.take_piece-taken.new.self c.count.new.self _ _ c.count.ensures c.take_piece-taken.ensures.took.leaves

pub returns-clause-same : goal.returns-clause-same
returns-clause-same g c = counted_race c.args.self.now c.take_piece-taken.new.self c.count.new.self _ c.count.ensures (took_race c.args.self.now c.take_piece-taken.new.self c.take_piece-taken.ensures.took.leaves)

pub returns-clause-fits : goal.returns-clause-fits
returns-clause-fits g c = counted_fits c.take_piece-taken.new.self c.count.new.self _ (g.R.Reader.shown c.args.reader.now) c.count.ensures c.take_piece-taken.ensures.took.fits

pub returns-clause-rest : goal.returns-clause-rest
returns-clause-rest g c = ap (λ (x : Raced). rest x (g.R.Reader.shown c.args.reader.now)) c.count.ensures ∙ took_rest c.args.self.now c.take_piece-taken.new.self (g.R.Reader.shown c.args.reader.now) c.take_piece-taken.ensures.took.leaves

pub returns-clause-awaits : goal.returns-clause-awaits
returns-clause-awaits g c = ap awaited c.count.ensures ∙ took_awaits c.args.self.now c.take_piece-taken.new.self c.take_piece-taken.ensures.took.leaves

pub returns-clause-tells : goal.returns-clause-tells
returns-clause-tells g c t = counted_tells c.take_piece-taken.new.self c.count.new.self _ _ c.count.ensures (took_tells c.args.self.now c.take_piece-taken.new.self c.take_piece-taken.ensures.took.leaves t)

pub returns-clause-undropped : goal.returns-clause-undropped
returns-clause-undropped g c t = undropped_piece c.take_piece-taken.result c.take_piece-taken.new.self c.count.new.self _ _ c.take_piece-taken.ensures.taken c.count.ensures (returns-clause-tells g c t)

pub returns-clause-tries : goal.returns-clause-tries
returns-clause-tries g c = leaf_spends c.args.self.now c.count.new.self (g.R.Reader.shown c.args.reader.now) c.args.steps.now c.take_piece-taken.new.steps (returns-clause-leaves g c) c.take_piece-taken.ensures.took.reads

pub returns-clause-spends : goal.returns-clause-spends
returns-clause-spends g c = take_spends c.take_piece-taken.result c.args.self.now c.count.new.self c.take_piece-taken.new.self (g.R.Reader.shown c.args.reader.now) c.args.steps.now c.take_piece-taken.new.steps c.take_piece-taken.ensures.took.leaves (ap (λ (x : Raced). effort x (g.R.Reader.shown c.args.reader.now)) c.count.ensures) c.take_piece-taken.ensures.taken c.take_piece-taken.ensures.took.reads

pub returns-clause-reads : goal.returns-clause-reads
returns-clause-reads g c = c.take_piece-taken.ensures.took.reads

pub returns-clause-counts : goal.returns-clause-counts
returns-clause-counts g c = counts_rise c.args.self.now c.take_piece-taken.new.self c.count.new.self _ _ (took_steady c.args.self.now c.take_piece-taken.new.self (g.R.Reader.shown c.args.reader.now) _ _ c.take_piece-taken.ensures.took).counts (rw c.counts.ensures at rw c.counts-before.ensures at c.count.ensures)
