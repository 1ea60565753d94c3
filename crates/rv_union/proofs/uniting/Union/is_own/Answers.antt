use Rattle.std.proofs.Common.{◌↔◌, IsTrue, subst}
use Rattle.rv_jscan.specs.declared.jscan.ScanPlan.{ScanPlan}
use Rattle.rv_jscan.specs.Lanes.{IsOwn}
use Rattle.rv_union.specs.Unioned.{Unioned, present}
use Rattle.rv_union.proofs.uniting.Union.is_own.Goals as goal

pub returns : goal.returns
returns c = subst (λ (r : Unioned). IsTrue c.awaits.result ↔ IsOwn (present r) c.args.id r.lane c.args.sieved.now) c.self.view_is (subst (λ (p : ScanPlan). IsTrue c.awaits.result ↔ IsOwn p c.args.id c.self.inside.lane c.args.sieved.now) c.plan_in.ensures c.awaits.ensures)
