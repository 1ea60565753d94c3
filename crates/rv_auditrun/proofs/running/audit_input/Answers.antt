use Rattle.rv_auditrun.proofs.Telling.{answered, says_input}
use Rattle.rv_auditrun.proofs.running.audit_input.Goals as goal

pub tell-requires : goal.tell-requires
tell-requires g c = answered c.in-Ok.answer c.in-Ok.ensures.answer

pub returns-in-Ok-clause-verdict : goal.returns-in-Ok-clause-verdict
returns-in-Ok-clause-verdict g c = (says_input c.args.input.now c.in-Ok.answer _ _ _ _ c.tell.result c.in-Ok.ensures.audits c.tell.ensures).verdict

pub returns-in-Ok-clause-front : goal.returns-in-Ok-clause-front
returns-in-Ok-clause-front g c = (says_input c.args.input.now c.in-Ok.answer _ _ _ _ c.tell.result c.in-Ok.ensures.audits c.tell.ensures).front

pub returns-in-Ok-clause-kind : goal.returns-in-Ok-clause-kind
returns-in-Ok-clause-kind g c = (says_input c.args.input.now c.in-Ok.answer _ _ _ _ c.tell.result c.in-Ok.ensures.audits c.tell.ensures).kind

pub returns-in-Ok-clause-silent : goal.returns-in-Ok-clause-silent
returns-in-Ok-clause-silent g c = λ s. absurd ((says_input c.args.input.now c.in-Ok.answer _ _ _ _ c.tell.result c.in-Ok.ensures.audits c.tell.ensures).silent s)
