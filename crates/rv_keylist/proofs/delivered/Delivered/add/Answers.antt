use Rattle.rv_keylist.proofs.Sets.{added, stays_buffer}
use Rattle.rv_keylist.proofs.delivered.Delivered.add.Goals as goal

pub returns : goal.returns
returns c = added _ _ _ c.args.row.0 _ c.self.view_is c.put_in.ensures.rows

pub invariant_of-self : goal.invariant_of-self
invariant_of-self c =
    let room = rw (← c.self.view_is) at c.requires.room in
    let fresh = rw (← c.self.view_is) at c.requires.fresh in
    let place = rw (c.as_slice.ensures.value) at c.place_of-at.ensures in
    stays_buffer _ _ c.args.row.0 _ _ _ c.self.invariant room fresh place c.put_in.ensures.rows c.put_in.ensures.capacity
