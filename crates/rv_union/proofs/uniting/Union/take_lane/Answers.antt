use Rattle.std.proofs.Common.{◌≡◌, ◌∙◌, IfOk, OnErr, ap, is_some, refl, subst, sym}
use Rattle.rv_jscan.specs.declared.jscan.ScanPlan.{ScanPlan}
use Rattle.rv_jscan.specs.Joint.{CanMake}
use Rattle.rv_jscan.specs.Lanes.{IsOwn, LaneFits, Laned, leaf_once}
use Rattle.rv_final.proofs.Givings.{put_if}
use Rattle.rv_union.specs.Given.{with_lane}
use Rattle.rv_union.specs.Unioned.{Unioned, present}
use Rattle.rv_union.proofs.Lanes.{lane_held, lane_kept}
use Rattle.rv_union.proofs.uniting.Union.take_lane.Goals as goal

pub take-requires-clause-can : goal.take-requires-clause-can
take-requires-clause-can g c =
    let shown = g.R.Reader.shown c.args.reader.now in
    subst (λ (p : ScanPlan). CanMake p shown c.self.inside.snap) (sym c.plan_in-plan.ensures) (subst (λ (r : Unioned). CanMake (present r) shown r.snap) (sym c.self.view_is) c.requires.can)

pub take-requires-clause-fits : goal.take-requires-clause-fits
take-requires-clause-fits g c =
    let shown = g.R.Reader.shown c.args.reader.now in
    subst (λ (p : ScanPlan). LaneFits p shown c.self.inside.snap c.self.inside.lane) (sym c.plan_in-plan.ensures) (subst (λ (r : Unioned). LaneFits (present r) shown r.snap r.lane) (sym c.self.view_is) c.requires.fits)

pub returns-clause-same : goal.returns-clause-same
returns-clause-same g c =
    let l = c.take.new.self in
    subst (λ (r : Unioned). with_lane l r ≡ with_lane (record c.args.self.now.lane { held = l.held }) c.args.self.now) (sym c.self.view_is) (lane_held c.args.self.now l (c.take.ensures.same ∙ ap (λ (r : Unioned). record r.lane { held = l.held }) c.self.view_is))

pub returns-clause-held : goal.returns-clause-held
returns-clause-held g c h =
    let l = c.take.new.self in
    subst (λ (r : Unioned). with_lane l r ≡ c.args.self.now) (sym c.self.view_is) (lane_kept c.args.self.now l (c.take.ensures.held (ap (λ (r : Unioned). is_some r.lane.held) c.self.view_is ∙ h) ∙ ap (λ (x : Unioned). x.lane) c.self.view_is))

pub returns-clause-taken : goal.returns-clause-taken
returns-clause-taken g c = subst (λ (r : Unioned). IfOk c.take.result (IsOwn (present r) c.args.id c.take.new.self)) c.self.view_is (subst (λ (p : ScanPlan). IfOk c.take.result (IsOwn p c.args.id c.take.new.self)) c.plan_in-plan.ensures c.take.ensures.taken)

pub returns-clause-err : goal.returns-clause-err
returns-clause-err g c =
    let l = c.take.new.self in
    let same = subst (λ (x : Laned). OnErr c.take.result (l ≡ x)) (ap (λ (x : Unioned). x.lane) c.self.view_is) c.take.ensures.err in
    subst (λ (r : Unioned). OnErr c.take.result (with_lane l r ≡ c.args.self.now)) (sym c.self.view_is) (put_if c.take.result (λ (x : Laned). with_lane x c.args.self.now) l c.args.self.now.lane c.args.self.now refl same)

pub returns-clause-fits : goal.returns-clause-fits
returns-clause-fits g c =
    let shown = g.R.Reader.shown c.args.reader.now in
    subst (λ (r : Unioned). LaneFits (present r) shown r.snap c.take.new.self) c.self.view_is (subst (λ (p : ScanPlan). LaneFits p shown c.self.inside.snap c.take.new.self) c.plan_in-plan.ensures c.take.ensures.fits)

pub returns-clause-reads : goal.returns-clause-reads
returns-clause-reads g c = c.take.ensures.reads ∙ ap (λ (r : Unioned). leaf_once r.lane c.args.steps.now) c.self.view_is
