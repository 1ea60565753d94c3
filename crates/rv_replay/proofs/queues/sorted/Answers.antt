use Rattle.rv_model.proofs.Sorting.{sorted_is, sorted_moved}
use Rattle.rv_replay.proofs.queues.sorted.Goals as goal

pub returns-clause-sorted : goal.returns-clause-sorted
returns-clause-sorted c = sorted_is c.args.offers.items c.sort.new.self.items c.sort.ensures.permutation c.in_ok-sort.ensures.sorted

pub returns-clause-same : goal.returns-clause-same
returns-clause-same c = sorted_moved c.args.offers.items c.sort.new.self.items c.sort.ensures.permutation
