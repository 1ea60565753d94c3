use Rattle.std.proofs.Common.{List, Option, false, subst, sym, ℕ}
use Rattle.std.specs.Vec.{vec_capacity}
use Rattle.rv_keylist.specs.Whole.{Whole}
use Rattle.rv_keylist.proofs.Orders.{Whole-new}
use Rattle.rv_keylist.proofs.KeyList.renew.Goals as goal

pub invariant_of-self : goal.invariant_of-self
invariant_of-self c = subst (λ (f : Option (List ℕ)). Whole c.clear.new.self.items c.clear-2.new.self.items (vec_capacity c.clear-2.new.self) f 0 false) (sym c.take.ensures.after) (Whole-new _ _ _ c.clear.ensures c.clear-2.ensures.items)
