use Rattle.rv_join.proofs.Collecting.{sorted_same, sorted_turned}
use Rattle.rv_join.proofs.Planning.{reversed}
use Rattle.rv_join.proofs.kept.sort.Goals as goal

pub returns-clause-same : goal.returns-clause-same
returns-clause-same c = sorted_same c.args.offers.now.items c.sort_offers.new.offers.items c.turn.new.offers.items c.sort_offers.ensures.same c.turn.ensures

pub returns-clause-sorted : goal.returns-clause-sorted
returns-clause-sorted c = sorted_turned c.sort_offers.new.offers.items c.turn.new.offers.items c.in_ok-sort_offers.ensures.sorted c.turn.ensures

pub returns-in_err-sort_offers-clause-same : goal.returns-in_err-sort_offers-clause-same
returns-in_err-sort_offers-clause-same c = reversed c.args.offers.now.items c.sort_offers.new.offers.items c.sort_offers.ensures.same
