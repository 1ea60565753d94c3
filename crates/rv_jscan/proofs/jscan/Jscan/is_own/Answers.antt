use Rattle.std.proofs.Common.{◌↔◌, IsTrue, subst}
use Rattle.rv_jscan.specs.declared.jscan.ScanPlan.{ScanPlan}
use Rattle.rv_jscan.specs.Joint.{Joint, present}
use Rattle.rv_jscan.specs.Lanes.{IsOwn, lane_of}
use Rattle.rv_jscan.proofs.jscan.Jscan.is_own.Goals as goal

pub returns : goal.returns
returns c = subst (λ (j : Joint). IsTrue c.awaits.result ↔ IsOwn (present j) c.args.id (lane_of j) c.args.sieved.now) c.self.view_is (subst (λ (p : ScanPlan). IsTrue c.awaits.result ↔ IsOwn p c.args.id c.self.inside.lane c.args.sieved.now) c.plan_in.ensures c.awaits.ensures)
