use Rattle.std.proofs.Common.{List, ℕ, IfSome, subst}
use Rattle.std.specs.Vec.{vec_capacity}
use Rattle.rv_keylist.specs.Marks.{Marks}
use Rattle.rv_keylist.proofs.Narrow.{narrowed, narrowed_keys, still_moved}
use Rattle.rv_keylist.proofs.KeyList.narrow.Goals as goal

pub invariant_of-self : goal.invariant_of-self
invariant_of-self c =
    let open_before = rw (← c.self.view_is) at c.requires.open in
    let marks = subst (λ (ks : List ℕ). IfSome c.remark.new.filter (λ words. Marks words ks)) c.keys_of.ensures c.remark.ensures.marks in
    narrowed c.args.list.now.keys c.self.inside.few.items c.self.inside.many.items c.narrow_few.new.few.items c.narrow_many.new.many.items c.move_back.new.few.items c.move_back.new.many.items (vec_capacity c.self.inside.many) (vec_capacity c.narrow_many.new.many) (vec_capacity c.move_back.new.many) c.self.inside.filter c.remark.new.filter c.self.inside.spare c.self.inside.finished c.self.invariant c.narrow_few.ensures c.narrow_many.ensures.keys c.narrow_many.ensures.capacity c.move_back.ensures.moves c.move_back.ensures.short c.remark.ensures.kept marks open_before

pub returns-clause-keys : goal.returns-clause-keys
returns-clause-keys c = rw (← c.self.view_is) (narrowed_keys c.args.list.now.keys c.self.inside.few.items c.self.inside.many.items c.narrow_few.new.few.items c.narrow_many.new.many.items c.move_back.new.few.items c.move_back.new.many.items c.narrow_few.ensures c.narrow_many.ensures.keys c.move_back.ensures.moves.keys)

pub move_back-requires : goal.move_back-requires
move_back-requires c = still_moved c.args.list.now.keys c.self.inside.few.items c.self.inside.many.items c.narrow_few.new.few.items c.narrow_many.new.many.items c.self.invariant.placed c.narrow_few.ensures c.narrow_many.ensures.keys
