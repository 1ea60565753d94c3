use Rattle.std.proofs.Common.{refl}
use Rattle.rv_join.specs.Plans.{Planned}
use Rattle.rv_join.proofs.Accounting.{alone_above}
use Rattle.rv_join.proofs.Keeping.{given_fits, given_none, gives_piece, stays_still, with_stack}
use Rattle.rv_join.proofs.plan.Plan.give.Goals as goal

pub give-requires : goal.give-requires
give-requires g c = record { «open» = c.waits-at.ensures.open }

pub returns-clause-given : goal.returns-clause-given
returns-clause-given g c =
    let old : Planned = record { asked = c.self.inside.asked; stack = c.self.inside.stack; gathered = c.self.inside.gathered; stage = c.self.inside.stage; reads = c.self.inside.reads } in
    rw (← c.self.view_is) (gives_piece c.give.result old c.give.new.self c.args.sieved c.waits-at.result c.waits-at.ensures.at c.give.ensures.given c.give.ensures.stale)

pub returns-clause-obeys : goal.returns-clause-obeys
returns-clause-obeys g c = rw (← c.self.view_is) (rw c.waits-at.ensures.at at c.give.ensures.obeys)

pub returns-clause-stays_rule : goal.returns-clause-stays_rule
returns-clause-stays_rule g c = c.give.ensures.stays_rule

pub returns-clause-quiet : goal.returns-clause-quiet
returns-clause-quiet g c = c.give.ensures.quiet

pub returns-clause-reads : goal.returns-clause-reads
returns-clause-reads g c = c.give.ensures.reads

pub returns-clause-pieces : goal.returns-clause-pieces
returns-clause-pieces g c = rw (← c.self.view_is) c.give.ensures.pieces

pub returns-clause-counts : goal.returns-clause-counts
returns-clause-counts g c = rw (← c.self.view_is) (record { pages = refl; leaves = refl; fetches = refl })

pub returns-clause-err : goal.returns-clause-err
returns-clause-err g c =
    let old : Planned = record { asked = c.self.inside.asked; stack = c.self.inside.stack; gathered = c.self.inside.gathered; stage = c.self.inside.stage; reads = c.self.inside.reads } in
    rw (← c.self.view_is) (given_none c.give.result old c.give.new.self c.give.ensures.err)

pub returns-clause-lowers : goal.returns-clause-lowers
returns-clause-lowers g c = rw (← c.self.view_is) (λ shown fits. c.give.ensures.lowers c.self.inside.asked shown fits.holds.stack)

pub returns-clause-fits : goal.returns-clause-fits
returns-clause-fits g c =
    let old : Planned = record { asked = c.self.inside.asked; stack = c.self.inside.stack; gathered = c.self.inside.gathered; stage = c.self.inside.stage; reads = c.self.inside.reads } in
    rw (← c.self.view_is) (λ shown fits. given_fits shown old (record old { stack = c.give.new.self }) c.waits-at.result fits (c.give.ensures.stays old.asked shown fits.holds.stack) c.give.ensures.counts c.give.ensures.plans refl)

pub returns-clause-stays : goal.returns-clause-stays
returns-clause-stays g c =
    let old : Planned = record { asked = c.self.inside.asked; stack = c.self.inside.stack; gathered = c.self.inside.gathered; stage = c.self.inside.stage; reads = c.self.inside.reads } in
    rw (← c.self.view_is) (λ shown fits. stays_still shown old (record old { stack = c.give.new.self }) (c.give.ensures.stays old.asked shown fits.holds.stack) refl)

pub returns-clause-less : goal.returns-clause-less
returns-clause-less g c =
    let old : Planned = record { asked = c.self.inside.asked; stack = c.self.inside.stack; gathered = c.self.inside.gathered; stage = c.self.inside.stage; reads = c.self.inside.reads } in
    rw (← c.self.view_is) (λ shown fits one. c.give.ensures.less shown (alone_above old.asked shown old.stack fits.holds.stack one) fits.holds.stack.at.here)

pub returns-clause-settled : goal.returns-clause-settled
returns-clause-settled g c =
    let old : Planned = record { asked = c.self.inside.asked; stack = c.self.inside.stack; gathered = c.self.inside.gathered; stage = c.self.inside.stage; reads = c.self.inside.reads } in
    rw (← c.self.view_is) (λ shown fits one over. (let same = c.give.ensures.settled (alone_above old.asked shown old.stack fits.holds.stack one) over in (with_stack old c.give.new.self same.0, same.1)))
