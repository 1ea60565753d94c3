use Rattle.rv_decide.proofs.May.{may, may_not}
use Rattle.rv_decide.proofs.showing.may_show.Goals as goal

pub returns-in-None : goal.returns-in-None
returns-in-None c =
    let none = c.in_ok-events_of.ensures.none c.in-None.is in
    may_not c.args.indexes.now c.args.table c.args.shown.now c.requires.apart (rw c.as_slice.ensures at none)

pub returns : goal.returns
returns c =
    let read = rw (c.in-Some.is, c.as_slice.ensures) at c.in_ok-events_of.ensures.some in
    let tells = rw (c.as_slice-in-Some.ensures.value, c.as_slice-in-Some-2.ensures.value) at c.is_allowed.ensures in
    may c.is_allowed.result c.args.indexes.now c.args.table c.args.shown.now c.in_ok-numbers.numbers.items c.in-Some.events.items c.requires.apart c.in_ok-numbers.ensures read tells
