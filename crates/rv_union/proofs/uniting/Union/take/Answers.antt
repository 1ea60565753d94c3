use Rattle.std.proofs.Common.{◌∙◌, ap}
use Rattle.rv_union.specs.Effort.{effort}
use Rattle.rv_union.specs.Unioned.{Unioned, rest}
use Rattle.rv_union.specs.Given.{awaited}
use Rattle.rv_union.proofs.Efforts.{leaf_spends, take_spends}
use Rattle.rv_union.proofs.Stepped.{counts_rise}
use Rattle.rv_union.proofs.Takes.{counted_fits, counted_leaves, counted_union, counted_tells, took_awaits, took_union, took_rest, took_steady, took_tells}
use Rattle.rv_union.proofs.Tellings.{undropped_piece}
use Rattle.rv_union.specs.Leaves.{leaves_left}
use Rattle.rv_union.proofs.Leaves.{takes_leaves}
use Rattle.rv_union.proofs.uniting.Union.take.Goals as goal

pub returns-clause-leaves : goal.returns-clause-leaves
returns-clause-leaves g c = counted_leaves c.args.self.now c.take_piece-taken.new.self c.note_counts.new.self _ _ c.note_counts.ensures c.take_piece-taken.ensures.took.leaves

pub returns-clause-same : goal.returns-clause-same
returns-clause-same g c = counted_union c.args.self.now c.take_piece-taken.new.self c.note_counts.new.self _ c.note_counts.ensures (took_union c.args.self.now c.take_piece-taken.new.self c.take_piece-taken.ensures.took.leaves)

pub returns-clause-fits : goal.returns-clause-fits
returns-clause-fits g c = counted_fits c.take_piece-taken.new.self c.note_counts.new.self _ (g.R.Reader.shown c.args.reader.now) c.note_counts.ensures c.take_piece-taken.ensures.took.fits

pub returns-clause-rest : goal.returns-clause-rest
returns-clause-rest g c = ap (λ (x : Unioned). rest x (g.R.Reader.shown c.args.reader.now)) c.note_counts.ensures ∙ took_rest c.args.self.now c.take_piece-taken.new.self (g.R.Reader.shown c.args.reader.now) c.take_piece-taken.ensures.took.leaves

pub returns-clause-awaits : goal.returns-clause-awaits
returns-clause-awaits g c = ap awaited c.note_counts.ensures ∙ took_awaits c.args.self.now c.take_piece-taken.new.self c.take_piece-taken.ensures.took.leaves

pub returns-clause-tells : goal.returns-clause-tells
returns-clause-tells g c t = counted_tells c.take_piece-taken.new.self c.note_counts.new.self _ _ c.note_counts.ensures (took_tells c.args.self.now c.take_piece-taken.new.self c.take_piece-taken.ensures.took.leaves t)

pub returns-clause-undropped : goal.returns-clause-undropped
returns-clause-undropped g c t = undropped_piece c.take_piece-taken.result c.take_piece-taken.new.self c.note_counts.new.self _ _ c.take_piece-taken.ensures.taken c.note_counts.ensures (returns-clause-tells g c t)

pub returns-clause-tries : goal.returns-clause-tries
returns-clause-tries g c = leaf_spends c.args.self.now c.note_counts.new.self (g.R.Reader.shown c.args.reader.now) c.args.steps.now c.take_piece-taken.new.steps (returns-clause-leaves g c) c.take_piece-taken.ensures.took.reads

pub returns-clause-spends : goal.returns-clause-spends
returns-clause-spends g c = take_spends c.take_piece-taken.result c.args.self.now c.note_counts.new.self c.take_piece-taken.new.self (g.R.Reader.shown c.args.reader.now) c.args.steps.now c.take_piece-taken.new.steps c.take_piece-taken.ensures.took.leaves (ap (λ (x : Unioned). effort x (g.R.Reader.shown c.args.reader.now)) c.note_counts.ensures) c.take_piece-taken.ensures.taken c.take_piece-taken.ensures.took.reads

pub returns-clause-nearer : goal.returns-clause-nearer
returns-clause-nearer g c = takes_leaves c.take_piece-taken.result c.args.self.now c.note_counts.new.self c.take_piece-taken.new.self (g.R.Reader.shown c.args.reader.now) c.args.steps.now c.take_piece-taken.new.steps c.take_piece-taken.ensures.took.leaves c.take_piece-taken.ensures.took.fits (ap (λ (x : Unioned). leaves_left x (g.R.Reader.shown c.args.reader.now)) c.note_counts.ensures) c.take_piece-taken.ensures.taken c.take_piece-taken.ensures.took.reads

pub returns-clause-reads : goal.returns-clause-reads
returns-clause-reads g c = c.take_piece-taken.ensures.took.reads

pub returns-clause-counts : goal.returns-clause-counts
returns-clause-counts g c = counts_rise c.args.self.now c.take_piece-taken.new.self c.note_counts.new.self _ _ (took_steady c.args.self.now c.take_piece-taken.new.self (g.R.Reader.shown c.args.reader.now) _ _ c.take_piece-taken.ensures.took).counts (rw c.counts.ensures at rw c.counts-before.ensures at c.note_counts.ensures)
