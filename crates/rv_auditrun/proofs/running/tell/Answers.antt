use Rattle.rv_auditrun.proofs.Telling.{tells_by}
use Rattle.rv_auditrun.proofs.running.tell.Goals as goal

pub returns : goal.returns
returns g c = tells_by _ _ _ _ _ _ _ _ c.write_verdict-written.result c.told.ensures c.status_of-status.ensures c.requires c.write_verdict-written.ensures
