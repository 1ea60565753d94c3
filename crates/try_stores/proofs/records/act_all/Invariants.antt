use Rattle.try_stores.specs.Clocked.{Stands}
use Rattle.try_stores.proofs.records.act_all.Given as goal

abbrev pub invariant-acts : goal.invariant-acts
invariant-acts l = Stands l.clock.last l.clock.horizon l.records
