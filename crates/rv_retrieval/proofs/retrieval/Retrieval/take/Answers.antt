use Rattle.std.proofs.Common.{◌≡◌, ◌+◌, ◌≤◌, ◌∙◌, IfOk, OnErr, ap, subst, sym}
use Rattle.rv_judge.specs.Counting.{reads}
use Rattle.rv_final.specs.Work.{Tries}
use Rattle.rv_retrieval.specs.Effort.{Awaiting, effort}
use Rattle.rv_retrieval.specs.Given.{TakesLeaf}
use Rattle.rv_retrieval.specs.Shape.{Shape}
use Rattle.rv_retrieval.specs.Short.{Settled}
use Rattle.rv_retrieval.proofs.Counted.{counted_rise, counted_same, takes_if}
use Rattle.rv_retrieval.proofs.Switching.{trace_keeps}
use Rattle.rv_retrieval.proofs.Tellings.{taken_tells, undropped_piece}
use Rattle.rv_retrieval.proofs.Waiting.{keeps_awaited, took_course}
use Rattle.rv_retrieval.proofs.retrieval.Retrieval.take.Goals as goal

pub returns-clause-rest : goal.returns-clause-rest
returns-clause-rest g c = (trace_keeps c.take_piece-taken.new.self c.count.new.self _ c.count.ensures).rest (g.R.Reader.shown c.args.reader.now) c.take_piece-taken.ensures.fits ∙ c.take_piece-taken.ensures.rest

pub returns-clause-undropped : goal.returns-clause-undropped
returns-clause-undropped g c t = undropped_piece c.take_piece-taken.result c.take_piece-taken.new.self c.count.new.self _ _ c.take_piece-taken.ensures.taken c.count.ensures (taken_tells c.args.self.now c.take_piece-taken.new.self c.count.new.self _ _ c.take_piece-taken.ensures.same c.take_piece-taken.ensures.leaves c.count.ensures t)

pub returns-clause-course : goal.returns-clause-course
returns-clause-course g c = took_course c.args.self.now c.take_piece-taken.new.self c.count.new.self _ _ c.take_piece-taken.ensures.same c.take_piece-taken.ensures.leaves c.count.ensures

pub returns-clause-awaits : goal.returns-clause-awaits
returns-clause-awaits g c = keeps_awaited c.args.self.now c.count.new.self (counted_same c.args.self.now c.take_piece-taken.new.self c.count.new.self _ c.take_piece-taken.ensures.same c.count.ensures) (subst (λ (x : Shape). TakesLeaf c.args.self.now x.joint) (sym c.count.ensures) c.take_piece-taken.ensures.leaves)

pub returns-clause-query : goal.returns-clause-query
returns-clause-query g c = ap (λ (x : Shape). x.query) c.count.ensures ∙ c.take_piece-taken.ensures.query

pub returns-clause-taken : goal.returns-clause-taken
returns-clause-taken g c = takes_if c.take_piece-taken.result c.take_piece-taken.new.self c.count.new.self _ c.count.ensures c.take_piece-taken.ensures.taken

pub returns-clause-fits : goal.returns-clause-fits
returns-clause-fits g c = (trace_keeps c.take_piece-taken.new.self c.count.new.self _ c.count.ensures).fits (g.R.Reader.shown c.args.reader.now) c.take_piece-taken.ensures.fits

pub returns-clause-same : goal.returns-clause-same
returns-clause-same g c = counted_same c.args.self.now c.take_piece-taken.new.self c.count.new.self _ c.take_piece-taken.ensures.same c.count.ensures

pub returns-clause-leaves : goal.returns-clause-leaves
returns-clause-leaves g c = subst (λ (x : Shape). TakesLeaf c.args.self.now x.joint) (sym c.count.ensures) c.take_piece-taken.ensures.leaves

pub returns-clause-untaken : goal.returns-clause-untaken
returns-clause-untaken g c = subst (λ (x : Shape). OnErr c.take_piece-taken.result (x.joint.held ≡ c.args.self.now.joint.held)) (sym c.count.ensures) c.take_piece-taken.ensures.untaken

pub returns-clause-reads : goal.returns-clause-reads
returns-clause-reads g c = c.take_piece-taken.ensures.reads

pub returns-clause-tries : goal.returns-clause-tries
returns-clause-tries g c = subst (λ (x : Shape). Tries c.args.steps.now c.take_piece-taken.new.steps (effort c.args.self.now (g.R.Reader.shown c.args.reader.now)) (effort x (g.R.Reader.shown c.args.reader.now))) (sym c.count.ensures) c.take_piece-taken.ensures.tries

pub returns-clause-spends : goal.returns-clause-spends
returns-clause-spends g c = subst (λ (x : Shape). IfOk c.take_piece-taken.result (λ taken. reads c.take_piece-taken.new.steps + effort x (g.R.Reader.shown c.args.reader.now) ≤ reads c.args.steps.now + effort c.args.self.now (g.R.Reader.shown c.args.reader.now))) (sym c.count.ensures) c.take_piece-taken.ensures.spends

pub returns-clause-awaiting : goal.returns-clause-awaiting
returns-clause-awaiting g c a = subst Awaiting (sym c.count.ensures) (let w = c.take_piece-taken.ensures.awaiting a in record { way = w.way; both = w.both })

pub returns-clause-settled : goal.returns-clause-settled
returns-clause-settled g c settled = let s = c.take_piece-taken.ensures.settled settled in (subst Settled (sym c.count.ensures) (record { over = s.0.over; sorted = s.0.sorted }), s.1)

pub returns-clause-tells : goal.returns-clause-tells
returns-clause-tells g c t = taken_tells c.args.self.now c.take_piece-taken.new.self c.count.new.self _ _ c.take_piece-taken.ensures.same c.take_piece-taken.ensures.leaves c.count.ensures t

pub returns-clause-counts : goal.returns-clause-counts
returns-clause-counts g c = counted_rise c.args.self.now c.take_piece-taken.new.self c.count.new.self _ _ _ _ c.counts-before.ensures c.counts.ensures c.take_piece-taken.ensures.counts c.count.ensures
