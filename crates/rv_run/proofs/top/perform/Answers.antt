use Rattle.std.proofs.Common.{◌≡◌, ap, inl, inr, map}
use Rattle.rv_run.specs.Judges.{by_number}
use Rattle.rv_run.specs.Ruling.{between, judging, settings_of}
use Rattle.rv_run.specs.Script.{calls_asked, calls_made}
use Rattle.rv_run.proofs.CallLists.{all_calls, front_calls}
use Rattle.rv_run.proofs.Ends.{called_performs, not_write}
use Rattle.rv_run.proofs.Rulings.{calls_under, first_calls_under, first_either}
use Rattle.rv_run.proofs.top.perform.Goals as goal

pub make_calls-requires-clause-few : goal.make_calls-requires-clause-few
make_calls-requires-clause-few g c = rw c.into_vec.ensures c.requires.fits.few

pub make_calls-requires-clause-fits : goal.make_calls-requires-clause-fits
make_calls-requires-clause-fits g c = rw c.into_vec.ensures c.requires.fits.fits

pub returns-clause-done : goal.returns-clause-done
returns-clause-done g c = λ e.
    let made : calls_made c.make_calls.new.core.engine.history ≡ calls_asked c.args.script = called_performs c.make_calls.result c.is_ok-called.result _ (rw c.into_vec.ensures at c.make_calls.ensures.ok) c.is_ok-called.ensures.value (c.written.ensures.done e) in
    rw c.written.ensures.core (record {
      legal = c.written.ensures.legal;
      calls = all_calls c.make_calls.new.core.engine.history c.args.script made;
      written = c.written.ensures.whole (not_write c.written.result.status (inl e));
    })

pub returns-clause-order : goal.returns-clause-order
returns-clause-order g c = λ e. rw c.written.ensures.core (called_performs c.make_calls.result c.is_ok-called.result _ (rw c.into_vec.ensures at c.make_calls.ensures.ok) c.is_ok-called.ensures.value (c.written.ensures.done e))

pub returns-clause-order_first : goal.returns-clause-order_first
returns-clause-order_first g c =
    let first = rw c.into_vec.ensures at c.make_calls.ensures.first in
    rw c.written.ensures.core (record { rest = first.rest; whole = first.whole })

pub returns-clause-memory : goal.returns-clause-memory
returns-clause-memory g c = λ e.
    let first = rw c.into_vec.ensures at c.make_calls.ensures.first in
    rw c.written.ensures.core (record {
      legal = c.written.ensures.legal;
      calls = front_calls c.make_calls.new.core.engine.history c.args.script (record { rest = first.rest; whole = first.whole });
      written = c.written.ensures.whole (not_write c.written.result.status (inr e));
    })

pub returns-clause-front : goal.returns-clause-front
returns-clause-front g c = λ e.
    let first = rw c.into_vec.ensures at c.make_calls.ensures.first in
    rw c.written.ensures.core (record {
      legal = c.written.ensures.legal;
      calls = front_calls c.make_calls.new.core.engine.history c.args.script (record { rest = first.rest; whole = first.whole });
      written = c.written.ensures.front e;
    })

pub returns-clause-ruled_first : goal.returns-clause-ruled_first
returns-clause-ruled_first g c = rw c.written.ensures.core (first_calls_under g.P.Reader.shown c.judged_core-core.result.0.settings (settings_of c.args.asked) c.judged_core-core.result.0.engine c.args.store (map (λ j. judging ((goal.Judge-dyn g (j.vtable, j.value)).would j.value) ((goal.Judge-dyn g (j.vtable, j.value)).state j.value)) (by_number c.judged_core-core.result.1.places.zero c.judged_core-core.result.1.places.one c.judged_core-core.result.1.places.two c.judged_core-core.result.0.judge)) (map (λ j. judging ((goal.Judge-dyn g (j.vtable, j.value)).would j.value) ((goal.Judge-dyn g (j.vtable, j.value)).state j.value)) c.args.judges.items) c.judged_core-core.result.1.ruling c.args.asked.judge c.into_vec.result.items c.args.script c.make_calls.new.core.engine c.judged_core-core.ensures.settings c.judged_core-core.ensures.fresh (ap (map (λ j. judging ((goal.Judge-dyn g (j.vtable, j.value)).would j.value) ((goal.Judge-dyn g (j.vtable, j.value)).state j.value))) c.judged_core-core.ensures.all) c.judged_core-core.ensures.ruling c.into_vec.ensures (first_either _ _ _ (between c.judged_core-core.result.0.engine (map (λ j. judging ((goal.Judge-dyn g (j.vtable, j.value)).would j.value) ((goal.Judge-dyn g (j.vtable, j.value)).state j.value)) (by_number c.judged_core-core.result.1.places.zero c.judged_core-core.result.1.places.one c.judged_core-core.result.1.places.two c.judged_core-core.result.0.judge))) (between c.make_calls.new.core.engine (map (λ j. judging ((goal.Judge-dyn g (j.vtable, j.value)).would j.value) ((goal.Judge-dyn g (j.vtable, j.value)).state j.value)) (by_number c.make_calls.new.judges.places.zero c.make_calls.new.judges.places.one c.make_calls.new.judges.places.two c.make_calls.new.core.judge))) c.make_calls.result c.make_calls.ensures.ruled c.make_calls.ensures.stopped))

pub returns-clause-ruled : goal.returns-clause-ruled
returns-clause-ruled g c = λ e. rw c.written.ensures.core (calls_under g.P.Reader.shown c.judged_core-core.result.0.settings (settings_of c.args.asked) c.judged_core-core.result.0.engine c.args.store (map (λ j. judging ((goal.Judge-dyn g (j.vtable, j.value)).would j.value) ((goal.Judge-dyn g (j.vtable, j.value)).state j.value)) (by_number c.judged_core-core.result.1.places.zero c.judged_core-core.result.1.places.one c.judged_core-core.result.1.places.two c.judged_core-core.result.0.judge)) (map (λ j. judging ((goal.Judge-dyn g (j.vtable, j.value)).would j.value) ((goal.Judge-dyn g (j.vtable, j.value)).state j.value)) c.args.judges.items) c.judged_core-core.result.1.ruling c.args.asked.judge c.into_vec.result.items c.args.script c.make_calls.new.core.engine (map (λ j. judging ((goal.Judge-dyn g (j.vtable, j.value)).would j.value) ((goal.Judge-dyn g (j.vtable, j.value)).state j.value)) (by_number c.make_calls.new.judges.places.zero c.make_calls.new.judges.places.one c.make_calls.new.judges.places.two c.make_calls.new.core.judge)) c.judged_core-core.ensures.settings c.judged_core-core.ensures.fresh (ap (map (λ j. judging ((goal.Judge-dyn g (j.vtable, j.value)).would j.value) ((goal.Judge-dyn g (j.vtable, j.value)).state j.value))) c.judged_core-core.ensures.all) c.judged_core-core.ensures.ruling c.into_vec.ensures (called_performs c.make_calls.result c.is_ok-called.result _ c.make_calls.ensures.ruled c.is_ok-called.ensures.value (c.written.ensures.done e)))
