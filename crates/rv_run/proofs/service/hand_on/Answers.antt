use Rattle.std.proofs.Common.{arith}
use Rattle.std.proofs.lemmas.Result.{on_err_weaker}
use Rattle.rv_value.proofs.Lists.{on_err, on_ok}
use Rattle.rv_model.specs.Transcript.{text}
use Rattle.rv_run.proofs.Served.{flushed, front_flushed, rose_later}
use Rattle.rv_run.proofs.service.hand_on.Goals as goal

pub returns-in-Ok-clause-ok : goal.returns-in-Ok-clause-ok
returns-in-Ok-clause-ok g c = on_ok c.flush.result _ (flushed (g.K.Sink.written c.args.sink.now) (g.K.Sink.written c.write_text.new.sink) (g.K.Sink.written c.flush.new.self) (text c.args.entries.now) c.in-Ok.ensures.on.ok c.flush.ensures.kept)

pub returns-in-Ok-clause-err : goal.returns-in-Ok-clause-err
returns-in-Ok-clause-err g c = on_err c.flush.result _ (front_flushed (g.K.Sink.written c.args.sink.now) (g.K.Sink.written c.write_text.new.sink) (g.K.Sink.written c.flush.new.self) (text c.args.entries.now) c.in-Ok.ensures.on.ok c.flush.ensures.kept)

pub returns-in-Ok-clause-cause : goal.returns-in-Ok-clause-cause
returns-in-Ok-clause-cause g c = on_err_weaker c.flush.result (rose_later (g.K.Sink.faults c.args.sink.now) (g.K.Sink.faults c.write_text.new.sink) (g.K.Sink.faults c.flush.new.self) c.in-Ok.ensures.on.later) c.flush.ensures.cause.failed

pub returns-in-Ok-clause-later : goal.returns-in-Ok-clause-later
returns-in-Ok-clause-later g c = omega (arith, c.in-Ok.ensures.on.later, c.flush.ensures.cause.later)

pub returns-in-Err-clause-err : goal.returns-in-Err-clause-err
returns-in-Err-clause-err g c = c.in-Err.ensures.on.err

pub returns-in-Err-clause-cause : goal.returns-in-Err-clause-cause
returns-in-Err-clause-cause g c = c.in-Err.ensures.on.cause

pub returns-in-Err-clause-later : goal.returns-in-Err-clause-later
returns-in-Err-clause-later g c = c.in-Err.ensures.on.later
