use Rattle.std.proofs.Common.{◌≡◌, ◌∙◌, IfOk, OnErr, ap, is_some, subst, sym}
use Rattle.rv_jscan.specs.declared.jscan.ScanPlan.{ScanPlan}
use Rattle.rv_jscan.specs.Joint.{CanMake, Joint, present}
use Rattle.rv_jscan.specs.Lanes.{IsOwn, LaneFits, Laned, lane_of, leaf_once}
use Rattle.rv_jscan.proofs.Lanes.{lane_err, lane_held, lane_kept, with_lane}
use Rattle.rv_jscan.proofs.jscan.Jscan.take_lane.Goals as goal

pub take-requires-clause-can : goal.take-requires-clause-can
take-requires-clause-can g c =
    let shown = g.R.Reader.shown c.args.reader.now in
    subst (λ (p : ScanPlan). CanMake p shown c.self.inside.snap) (sym c.plan_in-plan.ensures) (subst (λ (j : Joint). CanMake (present j) shown j.snap) (sym c.self.view_is) c.requires.can)

pub take-requires-clause-fits : goal.take-requires-clause-fits
take-requires-clause-fits g c =
    let shown = g.R.Reader.shown c.args.reader.now in
    subst (λ (p : ScanPlan). LaneFits p shown c.self.inside.snap c.self.inside.lane) (sym c.plan_in-plan.ensures) (subst (λ (j : Joint). LaneFits (present j) shown j.snap (lane_of j)) (sym c.self.view_is) c.requires.fits)

pub returns-clause-same : goal.returns-clause-same
returns-clause-same g c =
    let l = c.take.new.self in
    subst (λ (j : Joint). with_lane j l ≡ record c.args.self.now { held = l.held }) (sym c.self.view_is) (lane_held c.args.self.now l (c.take.ensures.same ∙ ap (λ (j : Joint). record (lane_of j) { held = l.held }) c.self.view_is))

pub returns-clause-held : goal.returns-clause-held
returns-clause-held g c h =
    let l = c.take.new.self in
    subst (λ (j : Joint). with_lane j l ≡ c.args.self.now) (sym c.self.view_is) (lane_kept c.args.self.now l (c.take.ensures.held (ap (λ (j : Joint). is_some j.held) c.self.view_is ∙ h) ∙ ap lane_of c.self.view_is))

pub returns-clause-taken : goal.returns-clause-taken
returns-clause-taken g c = subst (λ (j : Joint). IfOk c.take.result (IsOwn (present j) c.args.id c.take.new.self)) c.self.view_is (subst (λ (p : ScanPlan). IfOk c.take.result (IsOwn p c.args.id c.take.new.self)) c.plan_in-plan.ensures c.take.ensures.taken)

pub returns-clause-err : goal.returns-clause-err
returns-clause-err g c =
    let l = c.take.new.self in
    let same = subst (λ (x : Laned). OnErr c.take.result (l ≡ x)) (ap lane_of c.self.view_is) c.take.ensures.err in
    subst (λ (j : Joint). OnErr c.take.result (with_lane j l ≡ c.args.self.now)) (sym c.self.view_is) (lane_err c.take.result c.args.self.now l same)

pub returns-clause-fits : goal.returns-clause-fits
returns-clause-fits g c =
    let shown = g.R.Reader.shown c.args.reader.now in
    subst (λ (j : Joint). LaneFits (present j) shown j.snap c.take.new.self) c.self.view_is (subst (λ (p : ScanPlan). LaneFits p shown c.self.inside.snap c.take.new.self) c.plan_in-plan.ensures c.take.ensures.fits)

pub returns-clause-reads : goal.returns-clause-reads
returns-clause-reads g c = c.take.ensures.reads ∙ ap (λ (j : Joint). leaf_once (lane_of j) c.args.steps.now) c.self.view_is
