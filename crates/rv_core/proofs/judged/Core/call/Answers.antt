use Rattle.rv_value.proofs.Lists.{on_err}
use Rattle.rv_core.proofs.Keeping.{sees_itself}
use Rattle.rv_core.proofs.Soundness.{unanswered_same}
use Rattle.rv_core.proofs.judged.Core.call.Goals as goal

pub call_text-requires-clause-short : goal.call_text-requires-clause-short
call_text-requires-clause-short g c = rw c.in_ok-copy.ensures.copy c.requires.short

pub returns-in_err-copy-clause-err : goal.returns-in_err-copy-clause-err
returns-in_err-copy-clause-err g c = on_err _ _ (unanswered_same _ _ _ _ _)

pub returns-in_err-copy-clause-sees : goal.returns-in_err-copy-clause-sees
returns-in_err-copy-clause-sees g c = sees_itself _ _

pub returns-in_err-copy-clause-sound : goal.returns-in_err-copy-clause-sound
returns-in_err-copy-clause-sound g c = c.copied.ensures.sound

pub returns-clause-ok : goal.returns-clause-ok
returns-clause-ok g c = rw (← c.in_ok-copy.ensures.copy) c.call_text.ensures.ok

pub returns-clause-err : goal.returns-clause-err
returns-clause-err g c = rw (← c.in_ok-copy.ensures.copy) c.call_text.ensures.err
