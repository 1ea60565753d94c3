use Rattle.rv_core.specs.declared.engine.PartOf.TheVariants.{Answered, Working}
use Rattle.rv_lending.proofs.Shows.{part_answered, part_working, same_part}
use Rattle.rv_lending.proofs.lent.LentServed.call_step.Goals as goal

pub returns-in-Ok-Answered-clause-called : goal.returns-in-Ok-Answered-clause-called
returns-in-Ok-Answered-clause-called g c = let e = c.call_step.ensures in record { ok = same_part _ _ _ _ _ _ _ _ (Answered _) c.in-Ok-Answered.field-0-is c.in-Ok-Answered.ensures.ok; err = tt; sees = e.sees; rules = record { would = e.rules; settings = e.settings } }

pub returns-in-Ok-Working-clause-called : goal.returns-in-Ok-Working-clause-called
returns-in-Ok-Working-clause-called g c = let e = c.call_step.ensures in record { ok = same_part _ _ _ _ _ _ _ _ Working c.in-Ok-Working.field-0-is c.in-Ok-Working.ensures.ok; err = tt; sees = e.sees; rules = record { would = e.rules; settings = e.settings } }

pub returns-in-Err-clause-called : goal.returns-in-Err-clause-called
returns-in-Err-clause-called g c = let e = c.call_step.ensures in record { ok = tt; err = c.in-Err.ensures.err; sees = e.sees; rules = record { would = e.rules; settings = e.settings } }

pub returns-in-Ok-Answered-clause-ok : goal.returns-in-Ok-Answered-clause-ok
returns-in-Ok-Answered-clause-ok g c = part_answered _ _ _ _ _ _ _ _ _ c.in-Ok-Answered.field-0-is c.in-Ok-Answered.ensures.ok

pub returns-in-Ok-Working-clause-ok : goal.returns-in-Ok-Working-clause-ok
returns-in-Ok-Working-clause-ok g c = part_working _ _ _ _ _ _ _ _ c.in-Ok-Working.field-0-is c.in-Ok-Working.ensures.ok
