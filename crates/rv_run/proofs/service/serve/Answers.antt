use Rattle.std.proofs.Common.{◌∙◌, refl, sym, ap, map, subst}
use Rattle.rv_run.specs.declared.status.Status.TheVariants as statuses
use Rattle.rv_run.specs.Judges.{by_number}
use Rattle.rv_model.specs.Transcript.{text}
use Rattle.rv_run.specs.Ruling.{between, judging, settings_of}
use Rattle.rv_run.specs.Script.{IsInOrder}
use Rattle.rv_run.specs.Serving.{EndsSo}
use Rattle.rv_run.proofs.Served.{done_not_write, front_of, refuses_either, refuses_no_other, refuses_usage, served_calls, served_order, served_ruled, serves_under, whole_of}
use Rattle.rv_run.proofs.service.serve.Goals as goal

pub returns-in-Ok-clause-legal : goal.returns-in-Ok-clause-legal
returns-in-Ok-clause-legal g c = rw c.with_core.ensures.core c.with_core.ensures.legal

pub returns-in-Ok-clause-whole : goal.returns-in-Ok-clause-whole
returns-in-Ok-clause-whole g c = λ other. rw c.with_core.ensures.core (whole_of c.serve_lines-status.result (g.K.Sink.written c.args.sink.now) (g.K.Sink.written c.serve_lines-status.new.sink) (text c.serve_lines-status.new.core.engine.history) c.serve_lines-status.ensures.wrote (λ e. other (c.with_core.ensures.status ∙ e)))

pub returns-in-Ok-clause-front : goal.returns-in-Ok-clause-front
returns-in-Ok-clause-front g c = λ e. rw c.with_core.ensures.core (front_of c.serve_lines-status.result (g.K.Sink.written c.args.sink.now) (g.K.Sink.written c.serve_lines-status.new.sink) (text c.serve_lines-status.new.core.engine.history) c.serve_lines-status.ensures.wrote (sym c.with_core.ensures.status ∙ e))

pub returns-in-Ok-clause-served : goal.returns-in-Ok-clause-served
returns-in-Ok-clause-served g c = λ asked ask. rw (c.in-Ok.ensures.only asked ask, c.with_core.ensures.core) (serves_under g.P.Reader.shown c.judged_core-core.result.0.settings (settings_of c.in-Ok.asked) c.judged_core-core.result.0.engine c.args.store (map (λ j. judging ((goal.Judge-dyn g (j.vtable, j.value)).would j.value) ((goal.Judge-dyn g (j.vtable, j.value)).state j.value)) (by_number c.judged_core-core.result.1.places.zero c.judged_core-core.result.1.places.one c.judged_core-core.result.1.places.two c.judged_core-core.result.0.judge)) (map (λ j. judging ((goal.Judge-dyn g (j.vtable, j.value)).would j.value) ((goal.Judge-dyn g (j.vtable, j.value)).state j.value)) c.args.judges.items) c.judged_core-core.result.1.ruling c.in-Ok.asked.judge c.serve_lines-status.new.core.engine (g.S.Source.left c.args.source.now) (g.S.Source.left c.serve_lines-status.new.source) c.judged_core-core.ensures.settings c.judged_core-core.ensures.fresh (ap (map (λ j. judging ((goal.Judge-dyn g (j.vtable, j.value)).would j.value) ((goal.Judge-dyn g (j.vtable, j.value)).state j.value))) c.judged_core-core.ensures.all) c.judged_core-core.ensures.ruling c.serve_lines-status.ensures.served)

pub returns-in-Ok-clause-done : goal.returns-in-Ok-clause-done
returns-in-Ok-clause-done g c = λ e. rw c.with_core.ensures.core (record {
  legal = c.with_core.ensures.legal;
  written = whole_of c.serve_lines-status.result (g.K.Sink.written c.args.sink.now) (g.K.Sink.written c.serve_lines-status.new.sink) (text c.serve_lines-status.new.core.engine.history) c.serve_lines-status.ensures.wrote (done_not_write c.serve_lines-status.result (sym c.with_core.ensures.status ∙ e));
  calls = served_calls g.P.Reader.shown c.judged_core-core.result.0.settings c.judged_core-core.result.1.ruling (between c.judged_core-core.result.0.engine (map (λ j. judging ((goal.Judge-dyn g (j.vtable, j.value)).would j.value) ((goal.Judge-dyn g (j.vtable, j.value)).state j.value)) (by_number c.judged_core-core.result.1.places.zero c.judged_core-core.result.1.places.one c.judged_core-core.result.1.places.two c.judged_core-core.result.0.judge))) (between c.serve_lines-status.new.core.engine (map (λ j. judging ((goal.Judge-dyn g (j.vtable, j.value)).would j.value) ((goal.Judge-dyn g (j.vtable, j.value)).state j.value)) (by_number c.serve_lines-status.new.judges.places.zero c.serve_lines-status.new.judges.places.one c.serve_lines-status.new.judges.places.two c.serve_lines-status.new.core.judge))) (g.S.Source.left c.args.source.now) (g.S.Source.left c.serve_lines-status.new.source) c.serve_lines-status.result c.serve_lines-status.ensures.done (sym c.with_core.ensures.status ∙ e);
})

pub returns-in-Ok-clause-order : goal.returns-in-Ok-clause-order
returns-in-Ok-clause-order g c = λ e. rw c.with_core.ensures.core (served_order g.P.Reader.shown c.judged_core-core.result.0.settings c.judged_core-core.result.1.ruling (between c.judged_core-core.result.0.engine (map (λ j. judging ((goal.Judge-dyn g (j.vtable, j.value)).would j.value) ((goal.Judge-dyn g (j.vtable, j.value)).state j.value)) (by_number c.judged_core-core.result.1.places.zero c.judged_core-core.result.1.places.one c.judged_core-core.result.1.places.two c.judged_core-core.result.0.judge))) (between c.serve_lines-status.new.core.engine (map (λ j. judging ((goal.Judge-dyn g (j.vtable, j.value)).would j.value) ((goal.Judge-dyn g (j.vtable, j.value)).state j.value)) (by_number c.serve_lines-status.new.judges.places.zero c.serve_lines-status.new.judges.places.one c.serve_lines-status.new.judges.places.two c.serve_lines-status.new.core.judge))) (g.S.Source.left c.args.source.now) (g.S.Source.left c.serve_lines-status.new.source) c.serve_lines-status.result c.serve_lines-status.ensures.done (sym c.with_core.ensures.status ∙ e))

pub returns-in-Ok-clause-ruled : goal.returns-in-Ok-clause-ruled
returns-in-Ok-clause-ruled g c = λ asked ask e. rw (c.in-Ok.ensures.only asked ask, c.with_core.ensures.core) (served_ruled g.P.Reader.shown c.judged_core-core.result.0.settings (settings_of c.in-Ok.asked) c.judged_core-core.result.0.engine c.args.store (map (λ j. judging ((goal.Judge-dyn g (j.vtable, j.value)).would j.value) ((goal.Judge-dyn g (j.vtable, j.value)).state j.value)) (by_number c.judged_core-core.result.1.places.zero c.judged_core-core.result.1.places.one c.judged_core-core.result.1.places.two c.judged_core-core.result.0.judge)) (map (λ j. judging ((goal.Judge-dyn g (j.vtable, j.value)).would j.value) ((goal.Judge-dyn g (j.vtable, j.value)).state j.value)) c.args.judges.items) (map (λ j. judging ((goal.Judge-dyn g (j.vtable, j.value)).would j.value) ((goal.Judge-dyn g (j.vtable, j.value)).state j.value)) (by_number c.serve_lines-status.new.judges.places.zero c.serve_lines-status.new.judges.places.one c.serve_lines-status.new.judges.places.two c.serve_lines-status.new.core.judge)) c.judged_core-core.result.1.ruling c.in-Ok.asked.judge c.serve_lines-status.new.core.engine (g.S.Source.left c.args.source.now) (g.S.Source.left c.serve_lines-status.new.source) c.serve_lines-status.result c.judged_core-core.ensures.settings c.judged_core-core.ensures.fresh (ap (map (λ j. judging ((goal.Judge-dyn g (j.vtable, j.value)).would j.value) ((goal.Judge-dyn g (j.vtable, j.value)).state j.value))) c.judged_core-core.ensures.all) c.judged_core-core.ensures.ruling c.serve_lines-status.ensures.done (sym c.with_core.ensures.status ∙ e))

pub returns-in-Ok-clause-end : goal.returns-in-Ok-clause-end
returns-in-Ok-clause-end g c = λ e. subst (EndsSo (g.S.Source.left c.args.source.now) (g.S.Source.left c.serve_lines-status.new.source) (g.S.Source.faults c.args.source.now) (g.S.Source.faults c.serve_lines-status.new.source) (g.K.Sink.faults c.args.sink.now) (g.K.Sink.faults c.serve_lines-status.new.sink) (IsInOrder c.serve_lines-status.new.core.engine.history)) (sym c.with_core.ensures.status ∙ e) c.serve_lines-status.ensures.cause

pub returns-in-Ok-clause-usage : goal.returns-in-Ok-clause-usage
returns-in-Ok-clause-usage g c = λ e. absurd (subst (EndsSo (g.S.Source.left c.args.source.now) (g.S.Source.left c.serve_lines-status.new.source) (g.S.Source.faults c.args.source.now) (g.S.Source.faults c.serve_lines-status.new.source) (g.K.Sink.faults c.args.sink.now) (g.K.Sink.faults c.serve_lines-status.new.sink) (IsInOrder c.serve_lines-status.new.core.engine.history)) (sym c.with_core.ensures.status ∙ e) c.serve_lines-status.ensures.cause)

pub returns-in-Ok-clause-refused : goal.returns-in-Ok-clause-refused
returns-in-Ok-clause-refused g c = λ refused. absurd (refused (c.in-Ok.ensures.service refl))

pub returns-in-Ok-clause-script : goal.returns-in-Ok-clause-script
returns-in-Ok-clause-script g c = λ fault e. rw c.with_core.ensures.core (subst (EndsSo (g.S.Source.left c.args.source.now) (g.S.Source.left c.serve_lines-status.new.source) (g.S.Source.faults c.args.source.now) (g.S.Source.faults c.serve_lines-status.new.source) (g.K.Sink.faults c.args.sink.now) (g.K.Sink.faults c.serve_lines-status.new.sink) (IsInOrder c.serve_lines-status.new.core.engine.history)) (sym c.with_core.ensures.status ∙ e) c.serve_lines-status.ensures.cause)

pub returns-in-Ok-clause-limit : goal.returns-in-Ok-clause-limit
returns-in-Ok-clause-limit g c = λ which e. rw c.with_core.ensures.core (subst (EndsSo (g.S.Source.left c.args.source.now) (g.S.Source.left c.serve_lines-status.new.source) (g.S.Source.faults c.args.source.now) (g.S.Source.faults c.serve_lines-status.new.source) (g.K.Sink.faults c.args.sink.now) (g.K.Sink.faults c.serve_lines-status.new.sink) (IsInOrder c.serve_lines-status.new.core.engine.history)) (sym c.with_core.ensures.status ∙ e) c.serve_lines-status.ensures.cause)

pub returns-in-Ok-clause-read : goal.returns-in-Ok-clause-read
returns-in-Ok-clause-read g c = λ e. subst (EndsSo (g.S.Source.left c.args.source.now) (g.S.Source.left c.serve_lines-status.new.source) (g.S.Source.faults c.args.source.now) (g.S.Source.faults c.serve_lines-status.new.source) (g.K.Sink.faults c.args.sink.now) (g.K.Sink.faults c.serve_lines-status.new.sink) (IsInOrder c.serve_lines-status.new.core.engine.history)) (sym c.with_core.ensures.status ∙ e) c.serve_lines-status.ensures.cause

pub returns-in-Ok-clause-write : goal.returns-in-Ok-clause-write
returns-in-Ok-clause-write g c = λ e. subst (EndsSo (g.S.Source.left c.args.source.now) (g.S.Source.left c.serve_lines-status.new.source) (g.S.Source.faults c.args.source.now) (g.S.Source.faults c.serve_lines-status.new.source) (g.K.Sink.faults c.args.sink.now) (g.K.Sink.faults c.serve_lines-status.new.sink) (IsInOrder c.serve_lines-status.new.core.engine.history)) (sym c.with_core.ensures.status ∙ e) c.serve_lines-status.ensures.cause

pub returns-in-Ok-clause-early : goal.returns-in-Ok-clause-early
returns-in-Ok-clause-early g c = λ none. let wrong = sym c.with_core.ensures.core ∙ none in absurd (cc)

pub returns-in-Ok-clause-settings : goal.returns-in-Ok-clause-settings
returns-in-Ok-clause-settings g c = λ asked ask. rw (c.in-Ok.ensures.only asked ask, c.with_core.ensures.core) (c.serve_lines-status.ensures.settings ∙ c.judged_core-core.ensures.settings)

pub returns-in-Err-clause-usage : goal.returns-in-Err-clause-usage
returns-in-Err-clause-usage g c = refuses_usage _ c.in-Err.status c.ended.result.status c.ended.ensures.status c.in-Err.ensures.fault

pub returns-in-Err-clause-refused : goal.returns-in-Err-clause-refused
returns-in-Err-clause-refused g c = λ refused. refuses_either _ c.in-Err.status c.ended.result.status c.ended.ensures.status c.in-Err.ensures.fault

pub returns-in-Err-clause-done : goal.returns-in-Err-clause-done
returns-in-Err-clause-done g c = λ e. absurd (refuses_no_other c.args.words.now c.in-Err.status c.ended.result.status statuses.Done c.ended.ensures.status c.in-Err.ensures.fault (λ a. cc) (λ b. cc) e)

pub returns-in-Err-clause-order : goal.returns-in-Err-clause-order
returns-in-Err-clause-order g c = λ e. absurd (refuses_no_other c.args.words.now c.in-Err.status c.ended.result.status statuses.Done c.ended.ensures.status c.in-Err.ensures.fault (λ a. cc) (λ b. cc) e)

pub returns-in-Err-clause-ruled : goal.returns-in-Err-clause-ruled
returns-in-Err-clause-ruled g c = λ asked ask e. absurd (refuses_no_other c.args.words.now c.in-Err.status c.ended.result.status statuses.Done c.ended.ensures.status c.in-Err.ensures.fault (λ a. cc) (λ b. cc) e)

pub returns-in-Err-clause-end : goal.returns-in-Err-clause-end
returns-in-Err-clause-end g c = λ e. absurd (refuses_no_other c.args.words.now c.in-Err.status c.ended.result.status statuses.Done c.ended.ensures.status c.in-Err.ensures.fault (λ a. cc) (λ b. cc) e)

pub returns-in-Err-clause-script : goal.returns-in-Err-clause-script
returns-in-Err-clause-script g c = λ fault e. absurd (refuses_no_other c.args.words.now c.in-Err.status c.ended.result.status (statuses.Script fault) c.ended.ensures.status c.in-Err.ensures.fault (λ a. cc) (λ b. cc) e)

pub returns-in-Err-clause-limit : goal.returns-in-Err-clause-limit
returns-in-Err-clause-limit g c = λ which e. absurd (refuses_no_other c.args.words.now c.in-Err.status c.ended.result.status (statuses.Limit which) c.ended.ensures.status c.in-Err.ensures.fault (λ a. cc) (λ b. cc) e)

pub returns-in-Err-clause-read : goal.returns-in-Err-clause-read
returns-in-Err-clause-read g c = λ e. absurd (refuses_no_other c.args.words.now c.in-Err.status c.ended.result.status statuses.ReadFault c.ended.ensures.status c.in-Err.ensures.fault (λ a. cc) (λ b. cc) e)

pub returns-in-Err-clause-write : goal.returns-in-Err-clause-write
returns-in-Err-clause-write g c = λ e. absurd (refuses_no_other c.args.words.now c.in-Err.status c.ended.result.status statuses.WriteFault c.ended.ensures.status c.in-Err.ensures.fault (λ a. cc) (λ b. cc) e)
