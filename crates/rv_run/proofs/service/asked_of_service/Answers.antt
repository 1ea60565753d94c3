use Rattle.rv_run.proofs.Served.{is_service, not_accepted, not_service}
use Rattle.rv_run.proofs.service.asked_of_service.Goals as goal

pub returns-then-not-accepted-clause-fault : goal.returns-then-not-accepted-clause-fault
returns-then-not-accepted-clause-fault c = not_accepted c.args.words.now c.accepted.result c.accepted.ensures c.if-not-accepted.true

pub returns-then-not-is_of_service-clause-fault : goal.returns-then-not-is_of_service-clause-fault
returns-then-not-is_of_service-clause-fault c = not_service c.args.words.now c.in-Ok.asked c.is_of_service.result c.is_of_service.ensures c.in-Ok.ensures.only c.if-not-is_of_service.true

pub returns-clause-service : goal.returns-clause-service
returns-clause-service c = λ ok. is_service c.args.words.now c.in-Ok.asked c.is_of_service.result c.is_of_service.ensures c.in-Ok.ensures.ok c.if-not-is_of_service.false
