use Rattle.std.proofs.Common.{◌∙◌, arith, sym}
use Rattle.rv_replay.proofs.Taking.{front_end, front_here, taken_more}
use Rattle.rv_replay.proofs.queues.first_left.Goals as goal

pub places-preserved : goal.places-preserved
places-preserved c = taken_more c.args.alike.now c.places.place c.places.invariant (sym c.has_left.ensures ∙ c.if-has_left.false)

pub returns-then-has_left : goal.returns-then-has_left
returns-then-has_left c = front_here c.args.alike.now c.places.place (omega arith) c.places.invariant (sym c.has_left.ensures ∙ c.if-has_left.true)

pub returns : goal.returns
returns c = front_end c.args.alike.now c.places.place _ (omega arith) (omega arith) c.places.invariant
