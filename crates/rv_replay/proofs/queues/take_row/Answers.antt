use Rattle.std.proofs.Common.{◌∙◌, ap}
use Rattle.rv_replay.specs.Queues.{all_of}
use Rattle.rv_replay.proofs.Taking.{not_given}
use Rattle.rv_replay.proofs.queues.take_row.Goals as goal

pub take_at-requires : goal.take_at-requires
take_at-requires c =
    let given = rw c.as_slice.ensures.value at c.in-Some.ensures in
    record { queue = c.requires; within = given.within; some = given.some }

pub returns-in-Some-clause-judged : goal.returns-in-Some-clause-judged
returns-in-Some-clause-judged c =
    let given = rw c.as_slice.ensures.value at c.in-Some.ensures in
    (given.may, ap all_of c.take_at.ensures.rest ∙ given.rest)

pub returns-in-None-clause-judged : goal.returns-in-None-clause-judged
returns-in-None-clause-judged c = not_given _ (rw c.as_slice.ensures.value at c.in-None.ensures)
