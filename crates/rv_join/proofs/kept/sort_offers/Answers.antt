use Rattle.std.proofs.Common.{rules}
use Rattle.std.proofs.lemmas.Fn.{always_returns_same}
use Rattle.rv_join.specs.Order.{before}
use Rattle.rv_join.proofs.Planning.{offers_weak}
use Rattle.rv_join.proofs.kept.sort_offers.Goals as goal

pub returns-clause-sorted : goal.returns-clause-sorted
returns-clause-sorted c = c.in_ok-sort_by.ensures.sorted before offers_weak (always_returns_same _ _ _ (λ a r f k. search rules))
