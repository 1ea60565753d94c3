use Rattle.std.proofs.Common.{subst, sym}
use Rattle.rv_rows.specs.Rising.{Rising}
use Rattle.rv_replay.specs.Queues.{comes_before}
use Rattle.rv_replay.proofs.Taking.{less_within, rises_less, taken_less}
use Rattle.rv_replay.proofs.queues.take_at.Goals as goal

pub first_left-requires : goal.first_left-requires
first_left-requires c = record {
  within = rw (c.as_slice.ensures.value, c.one_less.ensures) (less_within c.args.alike.now.items c.args.place c.args.front.now c.requires.queue.first.within);
  before = rw (c.as_slice.ensures.value, c.one_less.ensures) (taken_less c.args.alike.now.items c.args.place c.args.front.now c.requires.queue.first.before);
}

pub returns-clause-queue : goal.returns-clause-queue
returns-clause-queue c = record {
  rises = subst (Rising comes_before) (sym c.one_less.ensures) (rises_less c.args.alike.now.items c.args.place c.requires.queue.rises);
  first = rw c.as_slice.ensures.value at c.first_left.ensures;
}
