use Rattle.try_retrievals.proofs.Plans.{gives_end, gives_row, gives_working}
use Rattle.try_retrievals.proofs.joins.drive.forward.Goals as goal

pub returns-in_ok-push-in-Row-clause-gives : goal.returns-in_ok-push-in-Row-clause-gives
returns-in_ok-push-in-Row-clause-gives g c = λ due gives.
    let step = rw c.in-Row.is at c.in_ok-offer.ensures.step in
    rw c.in_ok-push-in-Row.ensures.items (gives_row (g.R.Reader.shown c.args.reader.now) due c.args.offers.now.items c.args.plan.now c.step.new.self c.in-Row.offer gives c.step.ensures.fits step)

pub returns-in-Working-clause-gives : goal.returns-in-Working-clause-gives
returns-in-Working-clause-gives g c = λ due gives.
    let step = rw c.in-Working.is at c.in_ok-offer.ensures.step in
    gives_working (g.R.Reader.shown c.args.reader.now) due c.args.offers.now.items c.args.plan.now c.step.new.self gives c.step.ensures.fits step

pub returns-in-End-clause-gives : goal.returns-in-End-clause-gives
returns-in-End-clause-gives g c = λ due gives.
    let step = rw c.in-End.is at c.in_ok-offer.ensures.step in
    gives_end (g.R.Reader.shown c.args.reader.now) due c.args.offers.now.items c.args.plan.now c.step.new.self gives c.step.ensures.fits step

pub returns-in_ok-push-in-Row-clause-ends : goal.returns-in_ok-push-in-Row-clause-ends
returns-in_ok-push-in-Row-clause-ends g c = λ e. absurd (cc)

pub returns-in-Working-clause-ends : goal.returns-in-Working-clause-ends
returns-in-Working-clause-ends g c = λ e. absurd (cc)

pub returns-in-End-clause-ends : goal.returns-in-End-clause-ends
returns-in-End-clause-ends g c = λ e.
    let step = rw c.in-End.is at c.in_ok-offer.ensures.step in
    step.step.1
