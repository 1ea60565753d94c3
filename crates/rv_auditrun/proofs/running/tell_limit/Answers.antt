use Rattle.std.proofs.Common.{refl}
use Rattle.rv_auditrun.proofs.Telling.{tells_by}
use Rattle.rv_auditrun.proofs.running.tell_limit.Goals as goal

pub returns : goal.returns
returns g c = tells_by _ _ _ _ _ _ _ _ c.write_next-written.result c.told.ensures refl tt c.write_next-written.ensures
