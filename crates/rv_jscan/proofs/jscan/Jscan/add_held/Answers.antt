use Rattle.std.proofs.Common.{IfSome, length, subst, sym}
use Rattle.rv_reader.specs.Storing.{AreKeys}
use Rattle.rv_jscan.specs.declared.jscan.ScanPlan.{ScanPlan}
use Rattle.rv_jscan.specs.Joint.{Joint, present}
use Rattle.rv_jscan.specs.Lanes.{HasKeys}
use Rattle.rv_jscan.proofs.jscan.Jscan.add_held.Goals as goal

pub pass-requires-clause-keys : goal.pass-requires-clause-keys
pass-requires-clause-keys c = subst (λ (p : ScanPlan). IfSome c.self.inside.lane.held (λ h. AreKeys (length p.part.columns) h.entries)) (sym c.plan_in-plan.ensures) (subst (λ (j : Joint). IfSome j.held (HasKeys (present j))) (sym c.self.view_is) c.requires.keys)
