use Rattle.rv_keylist.proofs.Orders.{Whole-new}
use Rattle.rv_keylist.proofs.KeyList.new.Goals as goal

pub invariant_of-result : goal.invariant_of-result
invariant_of-result c = Whole-new _ _ _ c.new.ensures c.new-2.ensures.items
