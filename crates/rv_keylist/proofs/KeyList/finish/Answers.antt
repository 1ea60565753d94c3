use Rattle.std.proofs.Common.{refl}
use Rattle.std.proofs.lemmas.List.Sorted.{IsPermutation-append, length_permutation}
use Rattle.rv_keylist.proofs.Orders.{finished}
use Rattle.rv_keylist.proofs.KeyList.finish.Goals as goal

pub invariant_of-self : goal.invariant_of-self
invariant_of-self c =
    finished _ _ _ _ _ _ _ _ _ c.self.invariant c.sort_few.ensures.permutation c.sort_few.ensures.ascends
    c.sort_many.ensures.permutation c.sort_many.ensures.ascends c.sort_many.ensures.capacity

pub returns-clause-keys : goal.returns-clause-keys
returns-clause-keys c =
    rw (← c.self.view_is) (IsPermutation-append _ _ _ _ c.sort_few.ensures.permutation c.sort_many.ensures.permutation)

pub returns-clause-ascends : goal.returns-clause-ascends
returns-clause-ascends c = (invariant_of-self c).ascends refl

pub returns-clause-count : goal.returns-clause-count
returns-clause-count c = length_permutation _ _ (returns-clause-keys c)
