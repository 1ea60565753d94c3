use Rattle.std.proofs.Common.{◌≡◌, ◌∙◌, IfOk, OnErr, ap, is_some, refl, subst, sym}
use Rattle.rv_jscan.specs.declared.jscan.ScanPlan.{ScanPlan}
use Rattle.rv_jscan.specs.Joint.{CanMake}
use Rattle.rv_jscan.specs.Lanes.{IsOwn, LaneFits, Laned, leaf_once}
use Rattle.rv_final.proofs.Givings.{put_if}
use Rattle.rv_race.specs.Given.{turn_lane, turn_plan, with_lane}
use Rattle.rv_race.specs.Raced.{Raced}
use Rattle.rv_race.proofs.Lanes.{lane_held, lane_kept}
use Rattle.rv_race.proofs.race.Race.take_lane.Goals as goal

pub take-requires-clause-can : goal.take-requires-clause-can
take-requires-clause-can g c =
    let shown = g.R.Reader.shown c.args.reader.now in
    subst (λ (p : ScanPlan). CanMake p shown c.self.inside.snap) (sym c.plan_in-plan.ensures) (subst (λ (r : Raced). CanMake (turn_plan r) shown r.snap) (sym c.self.view_is) c.requires.can)

pub take-requires-clause-fits : goal.take-requires-clause-fits
take-requires-clause-fits g c =
    let shown = g.R.Reader.shown c.args.reader.now in
    subst (λ (p : ScanPlan). LaneFits p shown c.self.inside.snap c.self.inside.running.turn.lane) (sym c.plan_in-plan.ensures) (subst (λ (r : Raced). LaneFits (turn_plan r) shown r.snap (turn_lane r)) (sym c.self.view_is) c.requires.fits)

pub returns-clause-same : goal.returns-clause-same
returns-clause-same g c =
    let l = c.take.new.self in
    subst (λ (r : Raced). with_lane l r ≡ with_lane (record (turn_lane c.args.self.now) { held = l.held }) c.args.self.now) (sym c.self.view_is) (lane_held c.args.self.now l (c.take.ensures.same ∙ ap (λ (r : Raced). record (turn_lane r) { held = l.held }) c.self.view_is))

pub returns-clause-held : goal.returns-clause-held
returns-clause-held g c h =
    let l = c.take.new.self in
    subst (λ (r : Raced). with_lane l r ≡ c.args.self.now) (sym c.self.view_is) (lane_kept c.args.self.now l (c.take.ensures.held (ap (λ (r : Raced). is_some (turn_lane r).held) c.self.view_is ∙ h) ∙ ap turn_lane c.self.view_is))

pub returns-clause-taken : goal.returns-clause-taken
returns-clause-taken g c = subst (λ (r : Raced). IfOk c.take.result (IsOwn (turn_plan r) c.args.id c.take.new.self)) c.self.view_is (subst (λ (p : ScanPlan). IfOk c.take.result (IsOwn p c.args.id c.take.new.self)) c.plan_in-plan.ensures c.take.ensures.taken)

pub returns-clause-err : goal.returns-clause-err
returns-clause-err g c =
    let l = c.take.new.self in
    let same = subst (λ (x : Laned). OnErr c.take.result (l ≡ x)) (ap turn_lane c.self.view_is) c.take.ensures.err in
    subst (λ (r : Raced). OnErr c.take.result (with_lane l r ≡ c.args.self.now)) (sym c.self.view_is) (put_if c.take.result (λ (x : Laned). with_lane x c.args.self.now) l (turn_lane c.args.self.now) c.args.self.now refl same)

pub returns-clause-fits : goal.returns-clause-fits
returns-clause-fits g c =
    let shown = g.R.Reader.shown c.args.reader.now in
    subst (λ (r : Raced). LaneFits (turn_plan r) shown r.snap c.take.new.self) c.self.view_is (subst (λ (p : ScanPlan). LaneFits p shown c.self.inside.snap c.take.new.self) c.plan_in-plan.ensures c.take.ensures.fits)

pub returns-clause-reads : goal.returns-clause-reads
returns-clause-reads g c = c.take.ensures.reads ∙ ap (λ (r : Raced). leaf_once (turn_lane r) c.args.steps.now) c.self.view_is
