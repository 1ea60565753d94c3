use Rattle.std.proofs.Common.{ℕ, List, ◌++◌, ap, refl, subst, ◌∙◌, append-nil, IsPermutation}
use Rattle.rv_keylist.specs.Listed.{Listed}
use Rattle.rv_keyset.proofs.Lists.{whole_set}
use Rattle.rv_keyset.proofs.Orders.{same_order}
use Rattle.rv_keyset.proofs.KeySet.gather.Goals as goal

pub returns-in_ok-reserve-clause-ok : goal.returns-in_ok-reserve-clause-ok
returns-in_ok-reserve-clause-ok c =
    let keys = c.args.self.now.keys in
    let moved = subst (λ (all : List ℕ). IsPermutation all c.add.new.self.keys) (ap (λ (l : Listed). keys ++ l.keys) c.new.ensures ∙ append-nil keys) c.add.ensures.keys in
    whole_set c.add.new.self keys (same_order keys c.add.new.self.keys c.len-keys.ensures.ascends c.add.ensures.ascends moved) (c.add.ensures.whole refl)
