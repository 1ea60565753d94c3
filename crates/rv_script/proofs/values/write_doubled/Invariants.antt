use Rattle.std.proofs.Common.{length}
use Rattle.rv_script.proofs.Doubling.{Told}
use Rattle.rv_script.proofs.values.write_doubled.Given as goal

abbrev pub invariant-runs : goal.invariant-runs
invariant-runs g l = Told l.fn.sofar (g.K.Sink.written l.fn.sink) (g.K.Sink.written l.sink) (g.K.Sink.faults l.fn.sink) (g.K.Sink.faults l.sink) l.written l.fn.bytes l.rest

abbrev pub decreases-runs : goal.decreases-runs
decreases-runs g l = length l.rest
