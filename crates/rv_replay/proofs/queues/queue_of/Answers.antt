use Rattle.std.proofs.Common.{◌∙◌}
use Rattle.rv_replay.proofs.Taking.{taken_none}
use Rattle.rv_replay.proofs.queues.queue_of.Goals as goal

pub first_left-front-requires-clause-before : goal.first_left-front-requires-clause-before
first_left-front-requires-clause-before c = taken_none c.as_slice.result.now

pub invariant_of-result : goal.invariant_of-result
invariant_of-result c = record {
  rises = c.in_ok-alike.ensures.rises;
  first = rw c.as_slice.ensures.value at c.first_left-front.ensures;
}

pub returns : goal.returns
returns c = c.in_ok-alike.ensures.all ∙ c.in_ok-offers.ensures.same
