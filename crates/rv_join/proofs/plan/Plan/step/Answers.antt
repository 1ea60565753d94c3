use Rattle.std.proofs.Common.{◌≡◌, ap, refl, subst, sym, ◌∙◌}
use Rattle.rv_join.specs.Plans.{HoldsGood, Planned}
use Rattle.rv_join.proofs.Accounting.{fits_counted}
use Rattle.rv_join.proofs.Going.{asks_then, once_then, spends_then}
use Rattle.rv_join.proofs.OneItem.{few_lost, few_ok}
use Rattle.rv_join.proofs.Keeping.{asked_same, counted_kept, counted_moves}
use Rattle.rv_join.proofs.Staged.{Staged, found_staged, given_staged}
use Rattle.rv_join.proofs.plan.Plan.step.Given as given
use Rattle.rv_join.proofs.plan.Plan.step.Goals as goal
use Rattle.rv_join.proofs.plan.Plan.step.Goals.{After-count, in-AsFound, in-Gathering, in-Giving}

-- the step of the stage, before its reads are counted
staged : (g : given.Over) (c : After-count g) → Staged c.match-stage.stepped ((goal.Judge-dyn g (c.args.judge.now.vtable, c.args.judge.now.value)).would c.args.judge.now.value) ((goal.Judge-dyn g (c.args.judge.now.vtable, c.args.judge.now.value)).state c.args.judge.now.value) ((goal.Judge-dyn g (c.match-stage.judge.vtable, c.match-stage.judge.value)).state c.match-stage.judge.value) (g.R.Reader.shown c.args.reader.now) c.args.steps.now c.match-stage.steps c.args.self.now c.match-stage.self
staged g c =
    let shown = g.R.Reader.shown c.args.reader.now in
    let v = c.args.self.now in
    let holds = c.requires.fits.holds in
    elim c.match-stage.branch [
      | in-AsFound w ↦
          let s = w.advance-stepped.ensures in
          let old : Planned = record { asked = c.self.inside.asked; stack = c.self.inside.stack; gathered = c.self.inside.gathered; stage = c.self.inside.stage; reads = c.self.inside.reads } in
          rw (w.stepped-is, w.steps-is, w.judge-is, w.self-is) (found_staged w.advance-stepped.result _ _ _ shown c.args.steps.now w.advance-stepped.new.steps old v w.advance-stepped.new.self c.self.view_is holds (sym c.stage.ensures ∙ w.in-AsFound.is) s.moves s.alone s.asks s.once s.spends s.fetches s.plans s.err)
      | in-Gathering w ↦
          let s = w.gather_step-stepped.ensures in
          rw (w.stepped-is, w.steps-is, w.judge-is, w.self-is) (record { step = s.step; holds = s.holds; alone = s.alone; asks = s.asks; once = s.once; spends = s.spends; fetches = s.fetches; plans = s.plans; reads = s.reads; err = s.err })
      | in-Giving w ↦
          let s = w.give_next-stepped.ensures in
          rw (w.stepped-is, w.steps-is, w.judge-is, w.self-is) (given_staged w.give_next-stepped.result _ _ shown c.args.steps.now v w.give_next-stepped.new.self holds (sym c.stage.ensures ∙ w.in-Giving.is) s.given s.same s.err)
    ]

pub advance-stepped-requires : goal.advance-stepped-requires
advance-stepped-requires g c =
    let holds = subst (HoldsGood (g.R.Reader.shown c.args.reader.now)) (sym c.self.view_is) c.requires.fits.holds in
    record { can = holds.can; fits = holds.stack }

-- the judge's rule stays
pub returns-clause-stays : goal.returns-clause-stays
returns-clause-stays g c = elim c.match-stage.branch [
  | in-AsFound w ↦ rw w.judge-is w.advance-stepped.ensures.stays
  | in-Gathering w ↦ rw w.judge-is w.gather_step-stepped.ensures.stays
  | in-Giving w ↦ rw w.judge-is refl
]

pub returns-clause-fits : goal.returns-clause-fits
returns-clause-fits g c =
    let shown = g.R.Reader.shown c.args.reader.now in
    let s = staged g (goal.at.returns-clause-fits g c).After-count in
    fits_counted shown c.args.self.now c.match-stage.self c.count.new.self c.counts-before.result c.counts.result c.requires.fits s.holds (rw (c.counts-before.ensures, c.counts.ensures) s.alone) s.reads (asked_same shown c.match-stage.stepped c.args.self.now c.match-stage.self s.step s.err) s.plans c.count.ensures.same c.count.ensures.none

pub returns-clause-step : goal.returns-clause-step
returns-clause-step g c =
    let s = staged g (goal.at.returns-clause-step g c).After-count in
    counted_moves (g.R.Reader.shown c.args.reader.now) c.match-stage.stepped c.args.self.now c.match-stage.self c.count.new.self _ s.step c.count.ensures.same

pub returns-clause-err : goal.returns-clause-err
returns-clause-err g c =
    let s = staged g (goal.at.returns-clause-err g c).After-count in
    counted_kept (g.R.Reader.shown c.args.reader.now) c.match-stage.stepped c.args.self.now c.match-stage.self c.count.new.self _ s.err c.count.ensures.same

pub returns-clause-asks : goal.returns-clause-asks
returns-clause-asks g c =
    let s = staged g (goal.at.returns-clause-asks g c).After-count in
    asks_then _ _ _ _ _ _ c.args.self.now c.match-stage.self c.count.new.self s.asks (ap (λ (p : Planned). p.stack) c.count.ensures.same)

pub returns-clause-once : goal.returns-clause-once
returns-clause-once g c =
    let s = staged g (goal.at.returns-clause-once g c).After-count in
    once_then _ _ _ _ _ _ c.args.self.now c.match-stage.self c.count.new.self s.once (ap (λ (p : Planned). p.stack) c.count.ensures.same)

pub returns-clause-spends : goal.returns-clause-spends
returns-clause-spends g c =
    let s = staged g (goal.at.returns-clause-spends g c).After-count in
    spends_then c.match-stage.stepped (g.R.Reader.shown c.args.reader.now) _ _ c.args.self.now c.match-stage.self c.count.new.self s.spends (ap (λ (p : Planned). p.stack) c.count.ensures.same)

pub returns-clause-few : goal.returns-clause-few
returns-clause-few g c =
    let s = staged g (goal.at.returns-clause-few g c).After-count in
    few_ok c.match-stage.stepped _ _ _ (g.R.Reader.shown c.args.reader.now) c.args.steps.now c.match-stage.steps c.counts-before.result c.counts.result c.args.self.now c.match-stage.self c.count.new.self c.counts-before.ensures c.counts.ensures c.count.ensures.within s.reads c.count.ensures.same s.once s.fetches

pub returns-clause-lost : goal.returns-clause-lost
returns-clause-lost g c =
    let s = staged g (goal.at.returns-clause-lost g c).After-count in
    few_lost _ _ _ (g.R.Reader.shown c.args.reader.now) c.args.steps.now c.match-stage.steps c.counts-before.result c.counts.result c.args.self.now c.match-stage.self c.count.new.self c.counts-before.ensures c.counts.ensures c.count.ensures.within s.reads c.count.ensures.same s.once
