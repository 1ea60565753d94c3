use Rattle.rv_lending.proofs.Shows.{answered, kept}
use Rattle.rv_lending.proofs.lent.LentServed.call.Goals as goal

pub returns-clause-called : goal.returns-clause-called
returns-clause-called g c = let e = c.call.ensures in record { ok = e.ok; err = e.err; sees = e.sees; rules = record { would = e.rules; settings = e.settings } }

pub returns-clause-ok : goal.returns-clause-ok
returns-clause-ok g c = answered _ _ _ _ _ _ _ _ c.call.ensures.ok

pub returns-clause-err : goal.returns-clause-err
returns-clause-err g c = kept _ _ _ _ _ _ _ _ c.call.ensures.err
