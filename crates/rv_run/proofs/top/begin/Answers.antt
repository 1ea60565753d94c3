use Rattle.std.proofs.Common.{refl}
use Rattle.rv_run.proofs.Ends.{stops_of}
use Rattle.rv_run.proofs.top.begin.Goals as goal

pub returns-in-Ok-script_to_run-clause-all_read : goal.returns-in-Ok-script_to_run-clause-all_read
returns-in-Ok-script_to_run-clause-all_read g c = λ none. c.in-Ok-script_to_run.ensures.all_read none refl

pub returns-in-Ok-script_to_run-clause-unread : goal.returns-in-Ok-script_to_run-clause-unread
returns-in-Ok-script_to_run-clause-unread g c = λ asked ask some. c.in-Ok-script_to_run.ensures.unread (rw (c.in-Ok.ensures.only asked ask) at some)

pub returns-in-Err-clause-generated : goal.returns-in-Err-clause-generated
returns-in-Err-clause-generated g c = λ asked ask some. c.in-Err.ensures.generated (rw (c.in-Ok.ensures.only asked ask) at some)

pub returns-in-Err-clause-unread : goal.returns-in-Err-clause-unread
returns-in-Err-clause-unread g c = λ asked ask some. c.in-Err.ensures.unread (rw (c.in-Ok.ensures.only asked ask) at some)

pub returns-in-Err-clause-fault : goal.returns-in-Err-clause-fault
returns-in-Err-clause-fault g c = stops_of _ _ _ _ _ c.in-Err.status c.in-Err.ensures.fault
