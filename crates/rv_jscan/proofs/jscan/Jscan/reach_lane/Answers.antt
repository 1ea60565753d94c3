use Rattle.std.proofs.Common.{◌≡◌, ◌∙◌, ap, is_some, subst, sym}
use Rattle.rv_jscan.specs.declared.jscan.ScanPlan.{ScanPlan}
use Rattle.rv_jscan.specs.Joint.{CanMake, Joint, present}
use Rattle.rv_jscan.specs.Lanes.{LaneFits, lane_of, leaf_once}
use Rattle.rv_jscan.proofs.Lanes.{lane_held, lane_kept, with_lane}
use Rattle.rv_jscan.proofs.jscan.Jscan.reach_lane.Goals as goal

pub reach-requires-clause-can : goal.reach-requires-clause-can
reach-requires-clause-can g c =
    let shown = g.R.Reader.shown c.args.reader.now in
    subst (λ (p : ScanPlan). CanMake p shown c.self.inside.snap) (sym c.plan_in-plan.ensures) (subst (λ (j : Joint). CanMake (present j) shown j.snap) (sym c.self.view_is) c.requires.can)

pub reach-requires-clause-fits : goal.reach-requires-clause-fits
reach-requires-clause-fits g c =
    let shown = g.R.Reader.shown c.args.reader.now in
    subst (λ (p : ScanPlan). LaneFits p shown c.self.inside.snap c.self.inside.lane) (sym c.plan_in-plan.ensures) (subst (λ (j : Joint). LaneFits (present j) shown j.snap (lane_of j)) (sym c.self.view_is) c.requires.fits)

pub returns-clause-same : goal.returns-clause-same
returns-clause-same g c =
    let l = c.reach.new.self in
    subst (λ (j : Joint). with_lane j l ≡ record c.args.self.now { held = l.held }) (sym c.self.view_is) (lane_held c.args.self.now l (c.reach.ensures.same ∙ ap (λ (j : Joint). record (lane_of j) { held = l.held }) c.self.view_is))

pub returns-clause-held : goal.returns-clause-held
returns-clause-held g c h =
    let l = c.reach.new.self in
    subst (λ (j : Joint). with_lane j l ≡ c.args.self.now) (sym c.self.view_is) (lane_kept c.args.self.now l (c.reach.ensures.held (ap (λ (j : Joint). is_some j.held) c.self.view_is ∙ h) ∙ ap lane_of c.self.view_is))

pub returns-clause-fits : goal.returns-clause-fits
returns-clause-fits g c =
    let shown = g.R.Reader.shown c.args.reader.now in
    subst (λ (j : Joint). LaneFits (present j) shown j.snap c.reach.new.self) c.self.view_is (subst (λ (p : ScanPlan). LaneFits p shown c.self.inside.snap c.reach.new.self) c.plan_in-plan.ensures c.reach.ensures.fits)

pub returns-clause-reads : goal.returns-clause-reads
returns-clause-reads g c = c.reach.ensures.reads ∙ ap (λ (j : Joint). leaf_once (lane_of j) c.args.steps.now) c.self.view_is
