use Rattle.std.proofs.Common.{◌∙◌, ap, subst, sym}
use Rattle.rv_final.specs.Work.{Tries}
use Rattle.rv_scan.specs.Fronts.{SameFront}
use Rattle.rv_retrieval.specs.Effort.{Awaiting, effort}
use Rattle.rv_retrieval.specs.Shape.{Shape}
use Rattle.rv_retrieval.specs.Short.{Settled, fetches_left}
use Rattle.rv_retrieval.proofs.Counted.{counted_rise, course_on, does_if, ends_if, fewer_if, left_if, records_if, spends_if, step_if, still_if, tells_if}
use Rattle.rv_retrieval.proofs.Switching.{trace_keeps}
use Rattle.rv_retrieval.proofs.Tellings.{counted_tells}
use Rattle.rv_retrieval.proofs.retrieval.Retrieval.fg_step.Goals as goal

pub returns-clause-counts : goal.returns-clause-counts
returns-clause-counts g c = counted_rise c.args.self.now c.step-stepped.new.self c.count.new.self _ _ _ _ c.counts-before.ensures c.counts.ensures c.step-stepped.ensures.steady.counts c.count.ensures

pub returns-clause-query : goal.returns-clause-query
returns-clause-query g c = ap (λ (x : Shape). x.query) c.count.ensures ∙ c.step-stepped.ensures.steady.query

pub returns-clause-fits : goal.returns-clause-fits
returns-clause-fits g c = (trace_keeps c.step-stepped.new.self c.count.new.self _ c.count.ensures).fits (g.R.Reader.shown c.args.reader.now) c.step-stepped.ensures.fits

pub returns-clause-step : goal.returns-clause-step
returns-clause-step g c =
    let shown = g.R.Reader.shown c.args.reader.now in
    let mid = c.step-stepped.new.self in
    step_if c.step-stepped.result c.args.self.now mid c.count.new.self shown ((trace_keeps mid c.count.new.self _ c.count.ensures).rest shown c.step-stepped.ensures.fits) c.step-stepped.ensures.step

pub returns-clause-ends : goal.returns-clause-ends
returns-clause-ends g c = ends_if c.step-stepped.result c.step-stepped.new.self c.count.new.self _ c.count.ensures c.step-stepped.ensures.ends

pub returns-clause-again : goal.returns-clause-again
returns-clause-again g c = c.step-stepped.ensures.again

pub returns-clause-err : goal.returns-clause-err
returns-clause-err g c =
    let shown = g.R.Reader.shown c.args.reader.now in
    let mid = c.step-stepped.new.self in
    left_if c.step-stepped.result c.args.self.now mid c.count.new.self shown ((trace_keeps mid c.count.new.self _ c.count.ensures).rest shown c.step-stepped.ensures.fits) c.step-stepped.ensures.err

pub returns-clause-does : goal.returns-clause-does
returns-clause-does g c t = does_if c.step-stepped.result _ _ _ (g.R.Reader.shown c.args.reader.now) c.args.steps.now c.step-stepped.new.steps c.args.self.now c.step-stepped.new.self c.count.new.self (rw c.counts.ensures at rw c.counts-before.ensures at c.count.ensures) (c.step-stepped.ensures.does t.way) (c.step-stepped.ensures.reads t.way)

pub returns-clause-quiet : goal.returns-clause-quiet
returns-clause-quiet g c = c.step-stepped.ensures.quiet

pub returns-clause-may_read : goal.returns-clause-may_read
returns-clause-may_read g c t = c.step-stepped.ensures.may_read t.way

pub returns-clause-still : goal.returns-clause-still
returns-clause-still g c = still_if c.step-stepped.result c.args.self.now c.step-stepped.new.self c.count.new.self _ c.count.ensures c.step-stepped.ensures.still

pub returns-clause-fewer : goal.returns-clause-fewer
returns-clause-fewer g c = fewer_if c.step-stepped.result c.args.self.now c.count.new.self (g.R.Reader.shown c.args.reader.now) (returns-clause-still g c)

pub returns-clause-front : goal.returns-clause-front
returns-clause-front g c = subst (λ (x : Shape). SameFront c.args.self.now.front x.front) (sym c.count.ensures) c.step-stepped.ensures.steady.front

pub returns-clause-stays : goal.returns-clause-stays
returns-clause-stays g c = c.step-stepped.ensures.stays

pub returns-clause-course : goal.returns-clause-course
returns-clause-course g c = course_on c.step-stepped.result c.args.self.now c.step-stepped.new.self c.count.new.self _ _ c.count.ensures c.step-stepped.ensures.course

pub returns-clause-tells : goal.returns-clause-tells
returns-clause-tells g c t = counted_tells c.step-stepped.new.self c.count.new.self _ _ c.count.ensures (tells_if c.step-stepped.result _ _ _ (g.R.Reader.shown c.args.reader.now) c.args.steps.now c.step-stepped.new.steps c.args.self.now c.step-stepped.new.self c.requires.fits.led (c.step-stepped.ensures.does t.way) c.step-stepped.ensures.course t)

pub returns-clause-tries : goal.returns-clause-tries
returns-clause-tries g c = subst (λ (x : Shape). Tries c.args.steps.now c.step-stepped.new.steps (effort c.args.self.now (g.R.Reader.shown c.args.reader.now)) (effort x (g.R.Reader.shown c.args.reader.now))) (sym c.count.ensures) c.step-stepped.ensures.tries

pub returns-clause-spends : goal.returns-clause-spends
returns-clause-spends g c a = spends_if c.step-stepped.result c.args.steps.now c.step-stepped.new.steps c.args.self.now c.step-stepped.new.self c.count.new.self _ (g.R.Reader.shown c.args.reader.now) c.count.ensures c.step-stepped.ensures.tries (c.step-stepped.ensures.falls a)

pub returns-clause-awaiting : goal.returns-clause-awaiting
returns-clause-awaiting g c a = subst Awaiting (sym c.count.ensures) (let w = c.step-stepped.ensures.steady.awaiting a in record { way = w.way; both = w.both })

pub returns-clause-settled : goal.returns-clause-settled
returns-clause-settled g c settled = subst Settled (sym c.count.ensures) (let s = c.step-stepped.ensures.settled settled in record { over = s.over; sorted = s.sorted })

pub returns-clause-unasked : goal.returns-clause-unasked
returns-clause-unasked g c = c.step-stepped.ensures.unasked

pub returns-clause-pages : goal.returns-clause-pages
returns-clause-pages g c = c.step-stepped.ensures.pages

pub returns-clause-records : goal.returns-clause-records
returns-clause-records g c settled = records_if c.step-stepped.result c.step-stepped.new.steps.records c.args.steps.now.records (fetches_left c.args.self.now (g.R.Reader.shown c.args.reader.now)) c.step-stepped.new.self c.count.new.self _ (g.R.Reader.shown c.args.reader.now) c.count.ensures (c.step-stepped.ensures.records settled)
