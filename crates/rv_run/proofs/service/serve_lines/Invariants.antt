use Rattle.std.proofs.Common.{◌≡◌, ◌≤◌, ◌-◌, map}
use Rattle.rv_run.specs.Judges.{by_number}
use Rattle.rv_run.specs.Ruling.{between, judging}
use Rattle.rv_run.proofs.Served.{Keeps}
use Rattle.rv_run.proofs.service.serve_lines.Given as goal

abbrev pub invariant-lines : goal.invariant-lines
invariant-lines g l = record {
  few : l.number ≤ 200000;
  small : l.before ≤ 16777216;
  keeps : Keeps (g.P.Reader.shown) l.fn.core.settings l.fn.judges.ruling l.number l.before l.judges.ruling (between l.fn.core.engine (map (λ j. judging ((goal.Judge-dyn g (j.vtable, j.value)).would j.value) ((goal.Judge-dyn g (j.vtable, j.value)).state j.value)) (by_number l.fn.judges.places.zero l.fn.judges.places.one l.fn.judges.places.two l.fn.core.judge))) (between l.core.engine (map (λ j. judging ((goal.Judge-dyn g (j.vtable, j.value)).would j.value) ((goal.Judge-dyn g (j.vtable, j.value)).state j.value)) (by_number l.judges.places.zero l.judges.places.one l.judges.places.two l.core.judge))) (g.S.Source.left l.fn.source) (g.S.Source.left l.source) l.pending.items (g.K.Sink.written l.fn.sink) (g.K.Sink.written l.sink);
  reads : g.S.Source.faults l.fn.source ≤ g.S.Source.faults l.source;
  writes : g.K.Sink.faults l.fn.sink ≤ g.K.Sink.faults l.sink;
  settings : l.core.settings ≡ l.fn.core.settings;
}

abbrev pub decreases-lines : goal.decreases-lines
decreases-lines g l = 200001 - l.number
