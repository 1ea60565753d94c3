use Rattle.rv_final.proofs.LaneWork.{spends_by}
use Rattle.rv_union.proofs.Stepped.{counted_does, counted_goes, counts_rise, only_counted}
use Rattle.rv_union.proofs.Takes.{counted_fits, counted_union, counted_tells}
use Rattle.rv_union.proofs.Leaves.{leaves_if}
use Rattle.rv_union.proofs.uniting.Union.step.Goals as goal

pub returns-clause-does : goal.returns-clause-does
returns-clause-does g c = counted_does c.stage_step-stepped.result _ _ _ (g.R.Reader.shown c.args.reader.now) c.args.steps.now c.stage_step-stepped.new.steps c.args.self.now c.stage_step-stepped.new.self c.note_counts.new.self c.stage_step-stepped.ensures.stepped.does (rw c.counts.ensures at rw c.counts-before.ensures at c.note_counts.ensures)

pub returns-clause-fits : goal.returns-clause-fits
returns-clause-fits g c = counted_fits c.stage_step-stepped.new.self c.note_counts.new.self _ (g.R.Reader.shown c.args.reader.now) (rw c.counts.ensures at rw c.counts-before.ensures at c.note_counts.ensures) c.stage_step-stepped.ensures.stepped.steady.fits

pub returns-clause-step : goal.returns-clause-step
returns-clause-step g c = (counted_goes c.stage_step-stepped.result (g.R.Reader.shown c.args.reader.now) c.args.steps.now c.stage_step-stepped.new.steps c.args.self.now c.stage_step-stepped.new.self c.note_counts.new.self _ (rw c.counts.ensures at rw c.counts-before.ensures at c.note_counts.ensures) c.stage_step-stepped.ensures.stepped.goes).step

pub returns-clause-ends : goal.returns-clause-ends
returns-clause-ends g c = (counted_goes c.stage_step-stepped.result (g.R.Reader.shown c.args.reader.now) c.args.steps.now c.stage_step-stepped.new.steps c.args.self.now c.stage_step-stepped.new.self c.note_counts.new.self _ (rw c.counts.ensures at rw c.counts-before.ensures at c.note_counts.ensures) c.stage_step-stepped.ensures.stepped.goes).ends

pub returns-clause-err : goal.returns-clause-err
returns-clause-err g c = (counted_goes c.stage_step-stepped.result (g.R.Reader.shown c.args.reader.now) c.args.steps.now c.stage_step-stepped.new.steps c.args.self.now c.stage_step-stepped.new.self c.note_counts.new.self _ (rw c.counts.ensures at rw c.counts-before.ensures at c.note_counts.ensures) c.stage_step-stepped.ensures.stepped.goes).err

pub returns-clause-same : goal.returns-clause-same
returns-clause-same g c = counted_union c.args.self.now c.stage_step-stepped.new.self c.note_counts.new.self _ (rw c.counts.ensures at rw c.counts-before.ensures at c.note_counts.ensures) c.stage_step-stepped.ensures.stepped.steady.same

pub returns-clause-tells : goal.returns-clause-tells
returns-clause-tells g c t = counted_tells c.stage_step-stepped.new.self c.note_counts.new.self _ _ (rw c.counts.ensures at rw c.counts-before.ensures at c.note_counts.ensures) (c.stage_step-stepped.ensures.stepped.steady.tells t)

pub returns-clause-counts : goal.returns-clause-counts
returns-clause-counts g c = counts_rise c.args.self.now c.stage_step-stepped.new.self c.note_counts.new.self _ _ c.stage_step-stepped.ensures.stepped.steady.counts (rw c.counts.ensures at rw c.counts-before.ensures at c.note_counts.ensures)

pub returns-clause-tries : goal.returns-clause-tries
returns-clause-tries g c = (counted_goes c.stage_step-stepped.result (g.R.Reader.shown c.args.reader.now) c.args.steps.now c.stage_step-stepped.new.steps c.args.self.now c.stage_step-stepped.new.self c.note_counts.new.self _ (rw c.counts.ensures at rw c.counts-before.ensures at c.note_counts.ensures) c.stage_step-stepped.ensures.stepped.goes).tries

pub returns-clause-spends : goal.returns-clause-spends
returns-clause-spends g c = spends_by c.stage_step-stepped.result _ _ _ _ (returns-clause-tries g c) (counted_goes c.stage_step-stepped.result (g.R.Reader.shown c.args.reader.now) c.args.steps.now c.stage_step-stepped.new.steps c.args.self.now c.stage_step-stepped.new.self c.note_counts.new.self _ (rw c.counts.ensures at rw c.counts-before.ensures at c.note_counts.ensures) c.stage_step-stepped.ensures.stepped.goes).falls

pub returns-clause-still : goal.returns-clause-still
returns-clause-still g c = only_counted c.stage_step-stepped.result c.args.self.now c.stage_step-stepped.new.self c.note_counts.new.self _ _ (rw c.counts.ensures at rw c.counts-before.ensures at c.note_counts.ensures) c.stage_step-stepped.ensures.stepped.still

pub returns-clause-nearer : goal.returns-clause-nearer
returns-clause-nearer g c = leaves_if c.stage_step-stepped.result c.args.steps.now c.stage_step-stepped.new.steps _ c.stage_step-stepped.new.self c.note_counts.new.self _ (g.R.Reader.shown c.args.reader.now) (rw c.counts.ensures at rw c.counts-before.ensures at c.note_counts.ensures) c.stage_step-stepped.ensures.stepped.nearer

pub returns-clause-quiet : goal.returns-clause-quiet
returns-clause-quiet g c = c.stage_step-stepped.ensures.stepped.quiet

pub returns-clause-may_read : goal.returns-clause-may_read
returns-clause-may_read g c = c.stage_step-stepped.ensures.stepped.may_read
