use Rattle.rv_keylist.proofs.Orders.{added}
use Rattle.rv_keylist.proofs.KeyList.add.Goals as goal

pub invariant_of-self : goal.invariant_of-self
invariant_of-self c =
    let open_before = rw (← c.self.view_is) at c.requires.open in
    let fresh = rw (← c.self.view_is) at c.requires.fresh in
    let room = rw (← c.self.view_is) at c.requires.room in
    added _ _ _ _ _ _ _ _ _ c.args.key _ c.self.invariant c.put_key.ensures.keys c.put_key.ensures.placed
    c.put_key.ensures.capacity c.mark.ensures.kept c.mark.ensures.marks room open_before fresh
