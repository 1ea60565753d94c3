use Rattle.std.proofs.Common.{sym, ◌∙◌}
use Rattle.rv_keylist.proofs.Orders.{sorted_refill}
use Rattle.rv_keylist.proofs.parts.sort_many.Goals as goal

pub returns-clause-ascends : goal.returns-clause-ascends
returns-clause-ascends c =
    sorted_refill _ _ c.sort_unstable.new.self (sym (c.sort_unstable.ensures.len ∙ c.as_mut_slice.ensures.len))
    c.sort_unstable.ensures.sorted
