use Rattle.std.proofs.Common.{Err, ap, ◌∙◌}
use Rattle.rv_auditrun.proofs.Telling.{front_all, front_limit, says_all}
use Rattle.rv_auditrun.proofs.running.audit_run.Goals as goal

pub returns-in-Ok-clause-verdict : goal.returns-in-Ok-clause-verdict
returns-in-Ok-clause-verdict g c = λ v. says_all (g.S.Source.left c.args.source.now) (g.S.Source.left c.read_all.new.source) (g.K.Sink.written c.args.sink.now) (g.K.Sink.written c.audit_input.new.sink) c.in-Ok.input.items c.as_slice.result.now c.audit_input.result c.as_slice.ensures.value c.in-Ok.ensures.bytes (c.audit_input.ensures.verdict v)

pub returns-in-Ok-clause-front : goal.returns-in-Ok-clause-front
returns-in-Ok-clause-front g c = λ e. front_all (g.S.Source.left c.args.source.now) (g.S.Source.left c.read_all.new.source) (g.K.Sink.written c.args.sink.now) (g.K.Sink.written c.audit_input.new.sink) c.in-Ok.input.items c.as_slice.result.now c.as_slice.ensures.value c.in-Ok.ensures.bytes (c.audit_input.ensures.front e)

pub returns-in-Err-TooBig-clause-front : goal.returns-in-Err-TooBig-clause-front
returns-in-Err-TooBig-clause-front g c = λ e. front_limit (g.S.Source.left c.args.source.now) (g.S.Source.left c.read_all.new.source) (g.K.Sink.written c.args.sink.now) (g.K.Sink.written c.tell_limit.new.sink) _ _ c.tell_limit.result (c.read_all.ensures.too_big (c.in-Err-TooBig.is ∙ ap (λ fault. Err fault) c.in-Err-TooBig.field-0-is)) c.tell_limit.ensures e
