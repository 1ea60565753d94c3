use Rattle.std.proofs.Common.{◌≡◌, ◌≤◌, ◌<◌, ◌+◌, ◌∙◌, ℕ, List, [], false, refl, sym, arith, length, map, rules, subst}
use Rattle.std.proofs.lemmas.List.{nil_from_length}
use Rattle.rv_model.specs.Transcript.{text}
use Rattle.rv_script.specs.Lines.{LineFault, behind_mark, first_line}
use Rattle.rv_run.specs.Judges.{by_number}
use Rattle.rv_run.specs.Ruling.{between, judging}
use Rattle.rv_run.proofs.Fits.{line_fits}
use Rattle.rv_run.proofs.Served.{empty_last, front_more, keeps_more, keeps_none, line_ends, line_not_done, line_wrote, phase_few, phase_some, serves_before, serves_end, serves_last, serves_line, serves_of_all, settled, stop_ends, stop_not_done, stop_serves, stop_wrote, too_many_bytes, whole_more}
use Rattle.rv_run.proofs.service.serve_lines.Goals as goal

pub lines-init : goal.lines-init
lines-init g c = record {
  few = omega arith;
  small = omega arith;
  keeps = keeps_none _ _ _ _ _ _ _ c.requires.fresh c.requires.phase (search rules);
  reads = omega arith;
  writes = omega arith;
  settings = refl;
}

-- the line was not read

pub returns-in-Err-clause-cause : goal.returns-in-Err-clause-cause
returns-in-Err-clause-cause g c = rw c.after_line.ensures (line_ends g.P.Reader.shown c.args.core.now.settings c.args.judges.now.ruling c.lines.number c.lines.before c.lines.judges.ruling (between c.args.core.now.engine (map (λ j. judging ((goal.Judge-dyn g (j.vtable, j.value)).would j.value) ((goal.Judge-dyn g (j.vtable, j.value)).state j.value)) (by_number c.args.judges.now.places.zero c.args.judges.now.places.one c.args.judges.now.places.two c.args.core.now.judge))) (between c.lines.core.engine (map (λ j. judging ((goal.Judge-dyn g (j.vtable, j.value)).would j.value) ((goal.Judge-dyn g (j.vtable, j.value)).state j.value)) (by_number c.lines.judges.places.zero c.lines.judges.places.one c.lines.judges.places.two c.lines.core.judge))) (g.S.Source.left c.args.source.now) (g.S.Source.left c.lines.source) (g.S.Source.left c.read_line.new.source) c.lines.pending.items (g.K.Sink.written c.args.sink.now) (g.K.Sink.written c.lines.sink) (g.S.Source.faults c.args.source.now) (g.S.Source.faults c.lines.source) (g.S.Source.faults c.read_line.new.source) (g.K.Sink.faults c.args.sink.now) (g.K.Sink.faults c.lines.sink) c.in-Err.fault c.lines.invariant.keeps c.requires.fresh c.lines.invariant.small c.lines.invariant.reads c.in-Err.ensures.failed c.in-Err.ensures.too_big)

pub returns-in-Err-clause-wrote : goal.returns-in-Err-clause-wrote
returns-in-Err-clause-wrote g c = rw c.after_line.ensures (line_wrote c.in-Err.fault (c.lines.number + 1) (g.K.Sink.written c.args.sink.now) (g.K.Sink.written c.lines.sink) (text c.lines.core.engine.history) c.lines.invariant.keeps.wrote)

pub returns-in-Err-clause-served : goal.returns-in-Err-clause-served
returns-in-Err-clause-served g c = serves_before g.P.Reader.shown c.args.core.now.settings c.args.judges.now.ruling c.lines.number c.lines.before c.lines.judges.ruling (between c.args.core.now.engine (map (λ j. judging ((goal.Judge-dyn g (j.vtable, j.value)).would j.value) ((goal.Judge-dyn g (j.vtable, j.value)).state j.value)) (by_number c.args.judges.now.places.zero c.args.judges.now.places.one c.args.judges.now.places.two c.args.core.now.judge))) (between c.lines.core.engine (map (λ j. judging ((goal.Judge-dyn g (j.vtable, j.value)).would j.value) ((goal.Judge-dyn g (j.vtable, j.value)).state j.value)) (by_number c.lines.judges.places.zero c.lines.judges.places.one c.lines.judges.places.two c.lines.core.judge))) (g.S.Source.left c.args.source.now) (g.S.Source.left c.lines.source) (g.S.Source.left c.read_line.new.source) c.lines.pending.items c.in-Err.ensures.taken.piece (g.K.Sink.written c.args.sink.now) (g.K.Sink.written c.lines.sink) c.lines.core.engine.history c.lines.invariant.keeps c.requires.fresh c.lines.invariant.small refl c.in-Err.ensures.taken.taken

pub returns-in-Err-clause-done : goal.returns-in-Err-clause-done
returns-in-Err-clause-done g c = rw c.after_line.ensures (line_not_done c.in-Err.fault (c.lines.number + 1) _)

-- no line is left

pub returns-then-count-eq0-clause-cause : goal.returns-then-count-eq0-clause-cause
returns-then-count-eq0-clause-cause g c =
    let size : c.len-count.result ≡ length c.in-Ok.line.bytes.items = c.len-count.ensures ∙ c.in-Ok.line.bytes.ok.0 in
    let none : c.in-Ok.line.bytes.items ≡ [] = nil_from_length c.in-Ok.line.bytes.items (sym size ∙ c.if-count-eq0.true) in
    c.in-Ok.ensures.end (empty_last c.in-Ok.line.bytes.items c.in-Ok.line.ended c.in-Ok.ensures.one none)

pub returns-then-count-eq0-clause-wrote : goal.returns-then-count-eq0-clause-wrote
returns-then-count-eq0-clause-wrote g c = c.lines.invariant.keeps.wrote

pub returns-then-count-eq0-clause-done : goal.returns-then-count-eq0-clause-done
returns-then-count-eq0-clause-done g c =
    let size : c.len-count.result ≡ length c.in-Ok.line.bytes.items = c.len-count.ensures ∙ c.in-Ok.line.bytes.ok.0 in
    let none : c.in-Ok.line.bytes.items ≡ [] = nil_from_length c.in-Ok.line.bytes.items (sym size ∙ c.if-count-eq0.true) in
    let last = empty_last c.in-Ok.line.bytes.items c.in-Ok.line.ended c.in-Ok.ensures.one none in
    serves_end g.P.Reader.shown c.args.core.now.settings c.args.judges.now.ruling c.lines.number c.lines.before c.lines.judges.ruling (between c.args.core.now.engine (map (λ j. judging ((goal.Judge-dyn g (j.vtable, j.value)).would j.value) ((goal.Judge-dyn g (j.vtable, j.value)).state j.value)) (by_number c.args.judges.now.places.zero c.args.judges.now.places.one c.args.judges.now.places.two c.args.core.now.judge))) (between c.lines.core.engine (map (λ j. judging ((goal.Judge-dyn g (j.vtable, j.value)).would j.value) ((goal.Judge-dyn g (j.vtable, j.value)).state j.value)) (by_number c.lines.judges.places.zero c.lines.judges.places.one c.lines.judges.places.two c.lines.core.judge))) (g.S.Source.left c.args.source.now) (g.S.Source.left c.lines.source) (g.S.Source.left c.read_line.new.source) c.lines.pending.items c.read_line.new.pending.items c.in-Ok.line.bytes.items (g.K.Sink.written c.args.sink.now) (g.K.Sink.written c.lines.sink) c.lines.invariant.keeps c.requires.fresh c.lines.invariant.small c.in-Ok.ensures.line none (c.in-Ok.ensures.last last) (c.in-Ok.ensures.end last)

pub returns-then-count-eq0-clause-served : goal.returns-then-count-eq0-clause-served
returns-then-count-eq0-clause-served g c =
    let size : c.len-count.result ≡ length c.in-Ok.line.bytes.items = c.len-count.ensures ∙ c.in-Ok.line.bytes.ok.0 in
    let none : c.in-Ok.line.bytes.items ≡ [] = nil_from_length c.in-Ok.line.bytes.items (sym size ∙ c.if-count-eq0.true) in
    let last = empty_last c.in-Ok.line.bytes.items c.in-Ok.line.ended c.in-Ok.ensures.one none in
    serves_of_all g.P.Reader.shown c.args.core.now.settings c.args.judges.now.ruling (between c.args.core.now.engine (map (λ j. judging ((goal.Judge-dyn g (j.vtable, j.value)).would j.value) ((goal.Judge-dyn g (j.vtable, j.value)).state j.value)) (by_number c.args.judges.now.places.zero c.args.judges.now.places.one c.args.judges.now.places.two c.args.core.now.judge))) (between c.lines.core.engine (map (λ j. judging ((goal.Judge-dyn g (j.vtable, j.value)).would j.value) ((goal.Judge-dyn g (j.vtable, j.value)).state j.value)) (by_number c.lines.judges.places.zero c.lines.judges.places.one c.lines.judges.places.two c.lines.core.judge))) (g.S.Source.left c.args.source.now) (g.S.Source.left c.read_line.new.source) (serves_end g.P.Reader.shown c.args.core.now.settings c.args.judges.now.ruling c.lines.number c.lines.before c.lines.judges.ruling (between c.args.core.now.engine (map (λ j. judging ((goal.Judge-dyn g (j.vtable, j.value)).would j.value) ((goal.Judge-dyn g (j.vtable, j.value)).state j.value)) (by_number c.args.judges.now.places.zero c.args.judges.now.places.one c.args.judges.now.places.two c.args.core.now.judge))) (between c.lines.core.engine (map (λ j. judging ((goal.Judge-dyn g (j.vtable, j.value)).would j.value) ((goal.Judge-dyn g (j.vtable, j.value)).state j.value)) (by_number c.lines.judges.places.zero c.lines.judges.places.one c.lines.judges.places.two c.lines.core.judge))) (g.S.Source.left c.args.source.now) (g.S.Source.left c.lines.source) (g.S.Source.left c.read_line.new.source) c.lines.pending.items c.read_line.new.pending.items c.in-Ok.line.bytes.items (g.K.Sink.written c.args.sink.now) (g.K.Sink.written c.lines.sink) c.lines.invariant.keeps c.requires.fresh c.lines.invariant.small c.in-Ok.ensures.line none (c.in-Ok.ensures.last last) (c.in-Ok.ensures.end last))

-- the lines have too many bytes

pub returns-then-count-room-clause-cause : goal.returns-then-count-room-clause-cause
returns-then-count-room-clause-cause g c =
    let size : c.len-count.result ≡ length c.in-Ok.line.bytes.items = c.len-count.ensures ∙ c.in-Ok.line.bytes.ok.0 in
    let many : 16777216 < c.lines.before + length c.in-Ok.line.bytes.items = omega (arith, size, c.if-count-room.true) in
    too_many_bytes g.P.Reader.shown c.args.core.now.settings c.args.judges.now.ruling c.lines.number c.lines.before c.lines.judges.ruling (between c.args.core.now.engine (map (λ j. judging ((goal.Judge-dyn g (j.vtable, j.value)).would j.value) ((goal.Judge-dyn g (j.vtable, j.value)).state j.value)) (by_number c.args.judges.now.places.zero c.args.judges.now.places.one c.args.judges.now.places.two c.args.core.now.judge))) (between c.lines.core.engine (map (λ j. judging ((goal.Judge-dyn g (j.vtable, j.value)).would j.value) ((goal.Judge-dyn g (j.vtable, j.value)).state j.value)) (by_number c.lines.judges.places.zero c.lines.judges.places.one c.lines.judges.places.two c.lines.core.judge))) (g.S.Source.left c.args.source.now) (g.S.Source.left c.lines.source) (g.S.Source.left c.read_line.new.source) c.lines.pending.items c.read_line.new.pending.items c.in-Ok.line.bytes.items c.in-Ok.line.ended (g.K.Sink.written c.args.sink.now) (g.K.Sink.written c.lines.sink) c.lines.invariant.keeps c.requires.fresh c.lines.invariant.small c.in-Ok.ensures.line c.in-Ok.ensures.one c.in-Ok.ensures.last c.in-Ok.ensures.end many

pub returns-then-count-room-clause-wrote : goal.returns-then-count-room-clause-wrote
returns-then-count-room-clause-wrote g c = c.lines.invariant.keeps.wrote

pub returns-then-count-room-clause-served : goal.returns-then-count-room-clause-served
returns-then-count-room-clause-served g c = serves_before g.P.Reader.shown c.args.core.now.settings c.args.judges.now.ruling c.lines.number c.lines.before c.lines.judges.ruling (between c.args.core.now.engine (map (λ j. judging ((goal.Judge-dyn g (j.vtable, j.value)).would j.value) ((goal.Judge-dyn g (j.vtable, j.value)).state j.value)) (by_number c.args.judges.now.places.zero c.args.judges.now.places.one c.args.judges.now.places.two c.args.core.now.judge))) (between c.lines.core.engine (map (λ j. judging ((goal.Judge-dyn g (j.vtable, j.value)).would j.value) ((goal.Judge-dyn g (j.vtable, j.value)).state j.value)) (by_number c.lines.judges.places.zero c.lines.judges.places.one c.lines.judges.places.two c.lines.core.judge))) (g.S.Source.left c.args.source.now) (g.S.Source.left c.lines.source) (g.S.Source.left c.read_line.new.source) c.lines.pending.items c.in-Ok.ensures.line.piece (g.K.Sink.written c.args.sink.now) (g.K.Sink.written c.lines.sink) c.lines.core.engine.history c.lines.invariant.keeps c.requires.fresh c.lines.invariant.small refl c.in-Ok.ensures.line.taken

-- the line

pub serve_line-requires-clause-few : goal.serve_line-requires-clause-few
serve_line-requires-clause-few g c =
    let size : c.len-count.result ≡ length c.in-Ok.line.bytes.items = c.len-count.ensures ∙ c.in-Ok.line.bytes.ok.0 in
    rw c.deref.ensures.value (omega (arith, size, c.if-count-room.false))

pub serve_line-requires-clause-from : goal.serve_line-requires-clause-from
serve_line-requires-clause-from g c = phase_some _ _ _ _ _ _ _ _ _ _ _ _ _ c.lines.invariant.keeps

pub serve_line-requires-clause-to : goal.serve_line-requires-clause-to
serve_line-requires-clause-to g c = phase_few _ _ _ _ _ _ _ _ _ _ _ _ _ c.lines.invariant.keeps c.lines.invariant.few

pub returns-in-Err-serve_line-clause-cause : goal.returns-in-Err-serve_line-clause-cause
returns-in-Err-serve_line-clause-cause g c =
    let size : c.len-count.result ≡ length c.in-Ok.line.bytes.items = c.len-count.ensures ∙ c.in-Ok.line.bytes.ok.0 in
    let some : 0 < length c.in-Ok.line.bytes.items = omega (arith, size, c.if-count-eq0.false) in
    let bound : c.lines.before + length c.in-Ok.line.bytes.items ≤ 16777216 = omega (arith, size, c.if-count-room.false, c.lines.invariant.small) in
    rw c.after_stop.ensures (stop_ends g.P.Reader.shown c.args.core.now.settings c.args.judges.now.ruling c.lines.number c.lines.before c.lines.judges.ruling (between c.args.core.now.engine (map (λ j. judging ((goal.Judge-dyn g (j.vtable, j.value)).would j.value) ((goal.Judge-dyn g (j.vtable, j.value)).state j.value)) (by_number c.args.judges.now.places.zero c.args.judges.now.places.one c.args.judges.now.places.two c.args.core.now.judge))) (between c.lines.core.engine (map (λ j. judging ((goal.Judge-dyn g (j.vtable, j.value)).would j.value) ((goal.Judge-dyn g (j.vtable, j.value)).state j.value)) (by_number c.lines.judges.places.zero c.lines.judges.places.one c.lines.judges.places.two c.lines.core.judge))) (g.S.Source.left c.args.source.now) (g.S.Source.left c.lines.source) (g.S.Source.left c.read_line.new.source) c.lines.pending.items c.read_line.new.pending.items c.in-Ok.line.bytes.items c.in-Ok.line.ended (g.K.Sink.written c.args.sink.now) (g.K.Sink.written c.lines.sink) (g.S.Source.faults c.args.source.now) (g.S.Source.faults c.read_line.new.source) (g.K.Sink.faults c.args.sink.now) (g.K.Sink.faults c.lines.sink) (g.K.Sink.faults c.serve_line.new.sink) c.serve_line.new.core.engine.history c.lines.sink c.serve_line.new.sink c.in-Err-serve_line.stop c.lines.invariant.keeps c.requires.fresh c.in-Err-serve_line.ensures.unanswered c.in-Ok.ensures.line c.in-Ok.ensures.one c.in-Ok.ensures.last c.in-Ok.ensures.end some bound (λ fault e. subst (λ (bs : List ℕ). LineFault (c.lines.number + 1) bs fault) c.deref.ensures.value (c.in-Err-serve_line.ensures.fault fault e)) c.lines.invariant.writes c.in-Err-serve_line.ensures.rose)

pub returns-in-Err-serve_line-clause-wrote : goal.returns-in-Err-serve_line-clause-wrote
returns-in-Err-serve_line-clause-wrote g c =
    rw c.after_stop.ensures (stop_wrote g.K.Sink.written (g.K.Sink.written c.args.sink.now) c.lines.sink c.serve_line.new.sink c.lines.core.engine.history c.serve_line.new.core.engine.history c.in-Err-serve_line.stop c.lines.before c.lines.invariant.keeps.wrote c.in-Err-serve_line.ensures.unanswered
    (λ e. front_more g.P.Reader.shown c.args.core.now.settings (c.lines.number + 1) c.lines.judges.ruling c.serve_line.new.judges.ruling (between c.lines.core.engine (map (λ j. judging ((goal.Judge-dyn g (j.vtable, j.value)).would j.value) ((goal.Judge-dyn g (j.vtable, j.value)).state j.value)) (by_number c.lines.judges.places.zero c.lines.judges.places.one c.lines.judges.places.two c.lines.core.judge))) (between c.serve_line.new.core.engine (map (λ j. judging ((goal.Judge-dyn g (j.vtable, j.value)).would j.value) ((goal.Judge-dyn g (j.vtable, j.value)).state j.value)) (by_number c.serve_line.new.judges.places.zero c.serve_line.new.judges.places.one c.serve_line.new.judges.places.two c.serve_line.new.core.judge))) c.in-Ok.line.bytes.items (g.K.Sink.written c.args.sink.now) (g.K.Sink.written c.lines.sink) (g.K.Sink.written c.serve_line.new.sink) c.lines.invariant.keeps.wrote (settled _ _ _ _ _ _ _ _ _ _ _ c.lines.invariant.settings c.deref.ensures.value (c.in-Err-serve_line.ensures.write e))))

pub returns-in-Err-serve_line-clause-served : goal.returns-in-Err-serve_line-clause-served
returns-in-Err-serve_line-clause-served g c =
    let size : c.len-count.result ≡ length c.in-Ok.line.bytes.items = c.len-count.ensures ∙ c.in-Ok.line.bytes.ok.0 in
    let bound : c.lines.before + length c.in-Ok.line.bytes.items ≤ 16777216 = omega (arith, size, c.if-count-room.false, c.lines.invariant.small) in
    stop_serves c.in-Err-serve_line.stop c.lines.core.engine.history c.serve_line.new.core.engine.history c.lines.sink c.serve_line.new.sink _ c.in-Err-serve_line.ensures.unanswered
    (λ same. serves_before g.P.Reader.shown c.args.core.now.settings c.args.judges.now.ruling c.lines.number c.lines.before c.lines.judges.ruling (between c.args.core.now.engine (map (λ j. judging ((goal.Judge-dyn g (j.vtable, j.value)).would j.value) ((goal.Judge-dyn g (j.vtable, j.value)).state j.value)) (by_number c.args.judges.now.places.zero c.args.judges.now.places.one c.args.judges.now.places.two c.args.core.now.judge))) (between c.lines.core.engine (map (λ j. judging ((goal.Judge-dyn g (j.vtable, j.value)).would j.value) ((goal.Judge-dyn g (j.vtable, j.value)).state j.value)) (by_number c.lines.judges.places.zero c.lines.judges.places.one c.lines.judges.places.two c.lines.core.judge))) (g.S.Source.left c.args.source.now) (g.S.Source.left c.lines.source) (g.S.Source.left c.read_line.new.source) c.lines.pending.items c.in-Ok.ensures.line.piece (g.K.Sink.written c.args.sink.now) (g.K.Sink.written c.lines.sink) c.serve_line.new.core.engine.history c.lines.invariant.keeps c.requires.fresh c.lines.invariant.small same c.in-Ok.ensures.line.taken)
    (λ e. serves_line g.P.Reader.shown c.args.core.now.settings c.args.judges.now.ruling c.lines.number c.lines.before c.lines.judges.ruling c.serve_line.new.judges.ruling (between c.args.core.now.engine (map (λ j. judging ((goal.Judge-dyn g (j.vtable, j.value)).would j.value) ((goal.Judge-dyn g (j.vtable, j.value)).state j.value)) (by_number c.args.judges.now.places.zero c.args.judges.now.places.one c.args.judges.now.places.two c.args.core.now.judge))) (between c.lines.core.engine (map (λ j. judging ((goal.Judge-dyn g (j.vtable, j.value)).would j.value) ((goal.Judge-dyn g (j.vtable, j.value)).state j.value)) (by_number c.lines.judges.places.zero c.lines.judges.places.one c.lines.judges.places.two c.lines.core.judge))) (between c.serve_line.new.core.engine (map (λ j. judging ((goal.Judge-dyn g (j.vtable, j.value)).would j.value) ((goal.Judge-dyn g (j.vtable, j.value)).state j.value)) (by_number c.serve_line.new.judges.places.zero c.serve_line.new.judges.places.one c.serve_line.new.judges.places.two c.serve_line.new.core.judge))) (g.S.Source.left c.args.source.now) (g.S.Source.left c.lines.source) (g.S.Source.left c.read_line.new.source) c.lines.pending.items c.read_line.new.pending.items c.in-Ok.line.bytes.items c.in-Ok.line.ended (g.K.Sink.written c.args.sink.now) (g.K.Sink.written c.lines.sink) _ c.lines.invariant.keeps c.requires.fresh c.in-Ok.ensures.line c.in-Ok.ensures.one (settled _ _ _ _ _ _ _ _ _ _ _ c.lines.invariant.settings c.deref.ensures.value (c.in-Err-serve_line.ensures.write e)) bound c.in-Ok.ensures.last c.in-Ok.ensures.end)

pub returns-in-Err-serve_line-clause-done : goal.returns-in-Err-serve_line-clause-done
returns-in-Err-serve_line-clause-done g c = rw c.after_stop.ensures (stop_not_done c.in-Err-serve_line.stop c.lines.before _)

-- the last line, which has no end

pub returns-then-not-line-clause-cause : goal.returns-then-not-line-clause-cause
returns-then-not-line-clause-cause g c = c.in-Ok.ensures.end c.if-not-line.true

pub returns-then-not-line-clause-wrote : goal.returns-then-not-line-clause-wrote
returns-then-not-line-clause-wrote g c = whole_more g.P.Reader.shown c.args.core.now.settings (c.lines.number + 1) c.lines.judges.ruling c.serve_line.new.judges.ruling (between c.lines.core.engine (map (λ j. judging ((goal.Judge-dyn g (j.vtable, j.value)).would j.value) ((goal.Judge-dyn g (j.vtable, j.value)).state j.value)) (by_number c.lines.judges.places.zero c.lines.judges.places.one c.lines.judges.places.two c.lines.core.judge))) (between c.serve_line.new.core.engine (map (λ j. judging ((goal.Judge-dyn g (j.vtable, j.value)).would j.value) ((goal.Judge-dyn g (j.vtable, j.value)).state j.value)) (by_number c.serve_line.new.judges.places.zero c.serve_line.new.judges.places.one c.serve_line.new.judges.places.two c.serve_line.new.core.judge))) c.in-Ok.line.bytes.items (g.K.Sink.written c.args.sink.now) (g.K.Sink.written c.lines.sink) (g.K.Sink.written c.serve_line.new.sink) c.lines.invariant.keeps.wrote (settled _ _ _ _ _ _ _ _ _ _ _ c.lines.invariant.settings c.deref.ensures.value c.in-Ok-serve_line.ensures.ok)

pub returns-then-not-line-clause-done : goal.returns-then-not-line-clause-done
returns-then-not-line-clause-done g c =
    let last : c.in-Ok.line.ended ≡ false = c.if-not-line.true in
    let size : c.len-count.result ≡ length c.in-Ok.line.bytes.items = c.len-count.ensures ∙ c.in-Ok.line.bytes.ok.0 in
    let bound : c.lines.before + length c.in-Ok.line.bytes.items ≤ 16777216 = omega (arith, size, c.if-count-room.false, c.lines.invariant.small) in
    serves_last g.P.Reader.shown c.args.core.now.settings c.args.judges.now.ruling c.lines.number c.lines.before c.lines.judges.ruling c.serve_line.new.judges.ruling (between c.args.core.now.engine (map (λ j. judging ((goal.Judge-dyn g (j.vtable, j.value)).would j.value) ((goal.Judge-dyn g (j.vtable, j.value)).state j.value)) (by_number c.args.judges.now.places.zero c.args.judges.now.places.one c.args.judges.now.places.two c.args.core.now.judge))) (between c.lines.core.engine (map (λ j. judging ((goal.Judge-dyn g (j.vtable, j.value)).would j.value) ((goal.Judge-dyn g (j.vtable, j.value)).state j.value)) (by_number c.lines.judges.places.zero c.lines.judges.places.one c.lines.judges.places.two c.lines.core.judge))) (between c.serve_line.new.core.engine (map (λ j. judging ((goal.Judge-dyn g (j.vtable, j.value)).would j.value) ((goal.Judge-dyn g (j.vtable, j.value)).state j.value)) (by_number c.serve_line.new.judges.places.zero c.serve_line.new.judges.places.one c.serve_line.new.judges.places.two c.serve_line.new.core.judge))) (g.S.Source.left c.args.source.now) (g.S.Source.left c.lines.source) (g.S.Source.left c.read_line.new.source) c.lines.pending.items c.read_line.new.pending.items c.in-Ok.line.bytes.items c.in-Ok.line.ended (g.K.Sink.written c.args.sink.now) (g.K.Sink.written c.lines.sink) _ c.lines.invariant.keeps c.requires.fresh c.in-Ok.ensures.line c.in-Ok.ensures.one (settled _ _ _ _ _ _ _ _ _ _ _ c.lines.invariant.settings c.deref.ensures.value c.in-Ok-serve_line.ensures.ok) bound (c.in-Ok.ensures.last last) (c.in-Ok.ensures.end last)

pub returns-then-not-line-clause-served : goal.returns-then-not-line-clause-served
returns-then-not-line-clause-served g c =
    let last : c.in-Ok.line.ended ≡ false = c.if-not-line.true in
    let size : c.len-count.result ≡ length c.in-Ok.line.bytes.items = c.len-count.ensures ∙ c.in-Ok.line.bytes.ok.0 in
    let bound : c.lines.before + length c.in-Ok.line.bytes.items ≤ 16777216 = omega (arith, size, c.if-count-room.false, c.lines.invariant.small) in
    serves_of_all g.P.Reader.shown c.args.core.now.settings c.args.judges.now.ruling (between c.args.core.now.engine (map (λ j. judging ((goal.Judge-dyn g (j.vtable, j.value)).would j.value) ((goal.Judge-dyn g (j.vtable, j.value)).state j.value)) (by_number c.args.judges.now.places.zero c.args.judges.now.places.one c.args.judges.now.places.two c.args.core.now.judge))) (between c.serve_line.new.core.engine (map (λ j. judging ((goal.Judge-dyn g (j.vtable, j.value)).would j.value) ((goal.Judge-dyn g (j.vtable, j.value)).state j.value)) (by_number c.serve_line.new.judges.places.zero c.serve_line.new.judges.places.one c.serve_line.new.judges.places.two c.serve_line.new.core.judge))) (g.S.Source.left c.args.source.now) (g.S.Source.left c.read_line.new.source) (serves_last g.P.Reader.shown c.args.core.now.settings c.args.judges.now.ruling c.lines.number c.lines.before c.lines.judges.ruling c.serve_line.new.judges.ruling (between c.args.core.now.engine (map (λ j. judging ((goal.Judge-dyn g (j.vtable, j.value)).would j.value) ((goal.Judge-dyn g (j.vtable, j.value)).state j.value)) (by_number c.args.judges.now.places.zero c.args.judges.now.places.one c.args.judges.now.places.two c.args.core.now.judge))) (between c.lines.core.engine (map (λ j. judging ((goal.Judge-dyn g (j.vtable, j.value)).would j.value) ((goal.Judge-dyn g (j.vtable, j.value)).state j.value)) (by_number c.lines.judges.places.zero c.lines.judges.places.one c.lines.judges.places.two c.lines.core.judge))) (between c.serve_line.new.core.engine (map (λ j. judging ((goal.Judge-dyn g (j.vtable, j.value)).would j.value) ((goal.Judge-dyn g (j.vtable, j.value)).state j.value)) (by_number c.serve_line.new.judges.places.zero c.serve_line.new.judges.places.one c.serve_line.new.judges.places.two c.serve_line.new.core.judge))) (g.S.Source.left c.args.source.now) (g.S.Source.left c.lines.source) (g.S.Source.left c.read_line.new.source) c.lines.pending.items c.read_line.new.pending.items c.in-Ok.line.bytes.items c.in-Ok.line.ended (g.K.Sink.written c.args.sink.now) (g.K.Sink.written c.lines.sink) _ c.lines.invariant.keeps c.requires.fresh c.in-Ok.ensures.line c.in-Ok.ensures.one (settled _ _ _ _ _ _ _ _ _ _ _ c.lines.invariant.settings c.deref.ensures.value c.in-Ok-serve_line.ensures.ok) bound (c.in-Ok.ensures.last last) (c.in-Ok.ensures.end last))

pub lines-preserved : goal.lines-preserved
lines-preserved g c =
    let size : c.len-count.result ≡ length c.in-Ok.line.bytes.items = c.len-count.ensures ∙ c.in-Ok.line.bytes.ok.0 in
    let bound : c.lines.before + length c.in-Ok.line.bytes.items ≤ 16777216 = omega (arith, size, c.if-count-room.false, c.lines.invariant.small) in
    record {
      few = let said = (settled _ _ _ _ _ _ _ _ _ _ _ c.lines.invariant.settings c.deref.ensures.value c.in-Ok-serve_line.ensures.ok) in (line_fits (c.lines.number + 1) (first_line (behind_mark (c.lines.number + 1) c.in-Ok.line.bytes.items)) said.said said.says.says).1;
      small = omega (arith, c.if-count-room.false, c.lines.invariant.small);
      keeps = keeps_more g.P.Reader.shown c.args.core.now.settings c.args.judges.now.ruling c.lines.number c.lines.before c.lines.judges.ruling c.serve_line.new.judges.ruling (between c.args.core.now.engine (map (λ j. judging ((goal.Judge-dyn g (j.vtable, j.value)).would j.value) ((goal.Judge-dyn g (j.vtable, j.value)).state j.value)) (by_number c.args.judges.now.places.zero c.args.judges.now.places.one c.args.judges.now.places.two c.args.core.now.judge))) (between c.lines.core.engine (map (λ j. judging ((goal.Judge-dyn g (j.vtable, j.value)).would j.value) ((goal.Judge-dyn g (j.vtable, j.value)).state j.value)) (by_number c.lines.judges.places.zero c.lines.judges.places.one c.lines.judges.places.two c.lines.core.judge))) (between c.serve_line.new.core.engine (map (λ j. judging ((goal.Judge-dyn g (j.vtable, j.value)).would j.value) ((goal.Judge-dyn g (j.vtable, j.value)).state j.value)) (by_number c.serve_line.new.judges.places.zero c.serve_line.new.judges.places.one c.serve_line.new.judges.places.two c.serve_line.new.core.judge))) (g.S.Source.left c.args.source.now) (g.S.Source.left c.lines.source) (g.S.Source.left c.read_line.new.source) c.lines.pending.items c.read_line.new.pending.items c.in-Ok.line.bytes.items c.in-Ok.line.ended (g.K.Sink.written c.args.sink.now) (g.K.Sink.written c.lines.sink) (g.K.Sink.written c.serve_line.new.sink) _ c.lines.invariant.keeps c.in-Ok.ensures.line c.in-Ok.ensures.one c.if-not-line.false (settled _ _ _ _ _ _ _ _ _ _ _ c.lines.invariant.settings c.deref.ensures.value c.in-Ok-serve_line.ensures.ok) (omega (arith, size));
      reads = omega (arith, c.lines.invariant.reads, c.in-Ok.ensures.later);
      writes = omega (arith, c.lines.invariant.writes, c.serve_line.ensures.later);
      settings = c.serve_line.ensures.settings ∙ c.lines.invariant.settings;
    }

pub returns-in-Err-serve_line-clause-settings : goal.returns-in-Err-serve_line-clause-settings
returns-in-Err-serve_line-clause-settings g c = c.serve_line.ensures.settings ∙ c.lines.invariant.settings

pub returns-then-not-line-clause-settings : goal.returns-then-not-line-clause-settings
returns-then-not-line-clause-settings g c = c.serve_line.ensures.settings ∙ c.lines.invariant.settings
