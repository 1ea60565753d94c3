use Rattle.try_stores.specs.Viewing.{IsKept}
use Rattle.try_stores.proofs.views.reading.write.Given as goal

abbrev pub invariant-rows : goal.invariant-rows
invariant-rows g l = IsKept (g.S.Reader.shown l.store) l.view l.written
