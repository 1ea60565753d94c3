use Rattle.std.proofs.Common.{Ok, ap}
use Rattle.rv_join.specs.Plans.{plan_rest}
use Rattle.try_retrievals.proofs.Plans.{given_all, gives_none, gives_stays}
use Rattle.try_retrievals.proofs.joins.drive.drive.Goals as goal

pub steps-init : goal.steps-init
steps-init g c = rw c.new-offers.ensures.items (gives_none (g.R.Reader.shown c.args.reader.now) c.args.plan.now c.requires)

pub forward-requires : goal.forward-requires
forward-requires g c = c.steps.invariant.fits

pub steps-preserved : goal.steps-preserved
steps-preserved g c =
    let shown = g.R.Reader.shown c.args.reader.now in
    let due = plan_rest shown c.args.plan.now in
    gives_stays shown due c.forward.new.offers.items c.forward.new.plan c.background.new.plan (c.in_ok-forward.ensures.gives due c.steps.invariant) c.background.ensures

pub returns-then-branch : goal.returns-then-branch
returns-then-branch g c = λ ended.
    let shown = g.R.Reader.shown c.args.reader.now in
    let due = plan_rest shown c.args.plan.now in
    given_all shown due c.forward.new.offers.items c.forward.new.plan (c.in_ok-forward.ensures.gives due c.steps.invariant) (c.in_ok-forward.ensures.ends (ap Ok c.if-branch.true))

pub background-requires : goal.background-requires
background-requires g c =
    let due = plan_rest (g.R.Reader.shown c.args.reader.now) c.args.plan.now in
    (c.in_ok-forward.ensures.gives due c.steps.invariant).fits
