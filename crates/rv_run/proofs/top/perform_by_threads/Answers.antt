use Rattle.std.proofs.Common.{ap, inl, inr, map}
use Rattle.std.proofs.lemmas.Bool.{not-true}
use Rattle.rv_run.specs.Judges.{by_number}
use Rattle.rv_run.specs.Ruling.{judging, settings_of}
use Rattle.rv_run.proofs.Ends.{not_write}
use Rattle.rv_run.proofs.Led.{first_phases_under, phases_under}
use Rattle.rv_run.proofs.Threads.{calls_fit, first_all, whole_all}
use Rattle.rv_run.proofs.top.perform_by_threads.Goals as goal

pub returns-clause-done : goal.returns-clause-done
returns-clause-done g c = λ e.
    let history = c.make_calls_by_threads-core.result.core.engine.history in
    let made = rw c.as_slice.ensures at c.make_calls_by_threads-core.ensures.whole (not-true c.make_calls_by_threads-core.result.short (c.written.ensures.done e)) in
    rw c.written.ensures.core (record {
      legal = c.written.ensures.legal;
      calls = whole_all history c.args.script c.written.ensures.legal (calls_fit c.args.script c.requires.fits) made;
      written = c.written.ensures.whole (not_write c.written.result.status (inl e));
    })

pub returns-clause-memory : goal.returns-clause-memory
returns-clause-memory g c = λ e.
    let first = rw c.as_slice.ensures at c.make_calls_by_threads-core.ensures.first in
    rw c.written.ensures.core (record {
      legal = c.written.ensures.legal;
      calls = first_all c.make_calls_by_threads-core.result.core.engine.history c.args.script c.written.ensures.legal (calls_fit c.args.script c.requires.fits) first;
      written = c.written.ensures.whole (not_write c.written.result.status (inr e));
    })

pub returns-clause-front : goal.returns-clause-front
returns-clause-front g c = λ e.
    let first = rw c.as_slice.ensures at c.make_calls_by_threads-core.ensures.first in
    rw c.written.ensures.core (record {
      legal = c.written.ensures.legal;
      calls = first_all c.make_calls_by_threads-core.result.core.engine.history c.args.script c.written.ensures.legal (calls_fit c.args.script c.requires.fits) first;
      written = c.written.ensures.front e;
    })

pub returns-clause-led : goal.returns-clause-led
returns-clause-led g c = λ e. rw c.written.ensures.core (phases_under g.P.Reader.shown c.judged_core-core.result.0.settings (settings_of c.args.asked) c.judged_core-core.result.0.engine c.args.store (map (λ j. judging ((goal.Judge-dyn g (j.vtable, j.value)).would j.value) ((goal.Judge-dyn g (j.vtable, j.value)).state j.value)) (by_number c.judged_core-core.result.1.places.zero c.judged_core-core.result.1.places.one c.judged_core-core.result.1.places.two c.judged_core-core.result.0.judge)) (map (λ j. judging ((goal.Judge-dyn g (j.vtable, j.value)).would j.value) ((goal.Judge-dyn g (j.vtable, j.value)).state j.value)) c.args.judges.items) c.judged_core-core.result.1.ruling c.args.asked.judge c.as_slice.result.now c.args.script c.make_calls_by_threads-core.result.core.engine (map (λ j. judging ((goal.Judge-dyn g (j.vtable, j.value)).would j.value) ((goal.Judge-dyn g (j.vtable, j.value)).state j.value)) (by_number c.make_calls_by_threads-core.new.judges.places.zero c.make_calls_by_threads-core.new.judges.places.one c.make_calls_by_threads-core.new.judges.places.two c.make_calls_by_threads-core.result.core.judge)) c.judged_core-core.ensures.settings c.judged_core-core.ensures.fresh (ap (map (λ j. judging ((goal.Judge-dyn g (j.vtable, j.value)).would j.value) ((goal.Judge-dyn g (j.vtable, j.value)).state j.value))) c.judged_core-core.ensures.all) c.judged_core-core.ensures.ruling c.as_slice.ensures (c.make_calls_by_threads-core.ensures.led (not-true c.make_calls_by_threads-core.result.short (c.written.ensures.done e))))

pub returns-clause-led_first : goal.returns-clause-led_first
returns-clause-led_first g c = rw c.written.ensures.core (first_phases_under g.P.Reader.shown c.judged_core-core.result.0.settings (settings_of c.args.asked) c.judged_core-core.result.0.engine c.args.store (map (λ j. judging ((goal.Judge-dyn g (j.vtable, j.value)).would j.value) ((goal.Judge-dyn g (j.vtable, j.value)).state j.value)) (by_number c.judged_core-core.result.1.places.zero c.judged_core-core.result.1.places.one c.judged_core-core.result.1.places.two c.judged_core-core.result.0.judge)) (map (λ j. judging ((goal.Judge-dyn g (j.vtable, j.value)).would j.value) ((goal.Judge-dyn g (j.vtable, j.value)).state j.value)) c.args.judges.items) c.judged_core-core.result.1.ruling c.args.asked.judge c.as_slice.result.now c.args.script c.make_calls_by_threads-core.result.core.engine (map (λ j. judging ((goal.Judge-dyn g (j.vtable, j.value)).would j.value) ((goal.Judge-dyn g (j.vtable, j.value)).state j.value)) (by_number c.make_calls_by_threads-core.new.judges.places.zero c.make_calls_by_threads-core.new.judges.places.one c.make_calls_by_threads-core.new.judges.places.two c.make_calls_by_threads-core.result.core.judge)) c.judged_core-core.ensures.settings c.judged_core-core.ensures.fresh (ap (map (λ j. judging ((goal.Judge-dyn g (j.vtable, j.value)).would j.value) ((goal.Judge-dyn g (j.vtable, j.value)).state j.value))) c.judged_core-core.ensures.all) c.judged_core-core.ensures.ruling c.as_slice.ensures c.make_calls_by_threads-core.ensures.led_first)
