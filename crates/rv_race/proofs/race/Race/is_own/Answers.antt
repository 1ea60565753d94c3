use Rattle.std.proofs.Common.{◌↔◌, IsTrue, subst}
use Rattle.rv_jscan.specs.declared.jscan.ScanPlan.{ScanPlan}
use Rattle.rv_jscan.specs.Lanes.{IsOwn}
use Rattle.rv_race.specs.Given.{turn_lane, turn_plan}
use Rattle.rv_race.specs.Raced.{Raced}
use Rattle.rv_race.proofs.race.Race.is_own.Goals as goal

pub returns : goal.returns
returns c = subst (λ (r : Raced). IsTrue c.awaits.result ↔ IsOwn (turn_plan r) c.args.id (turn_lane r) c.args.sieved.now) c.self.view_is (subst (λ (p : ScanPlan). IsTrue c.awaits.result ↔ IsOwn p c.args.id c.self.inside.running.turn.lane c.args.sieved.now) c.plan_in.ensures c.awaits.ensures)
