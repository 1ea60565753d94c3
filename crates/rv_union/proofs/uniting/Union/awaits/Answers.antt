use Rattle.std.proofs.Common.{◌∙◌, sym}
use Rattle.rv_union.proofs.Lanes.{own_awaits}
use Rattle.rv_union.proofs.uniting.Union.awaits.Goals as goal

pub returns : goal.returns
returns c = own_awaits c.args.self.now c.args.sieved.now c.is_own.result c.next_id.result (sym c.is_scanning.ensures ∙ c.if-not-is_scanning.false) c.next_id.ensures c.is_own.ensures
