use Rattle.std.proofs.Common.{◌≡◌, ◌++◌, length, ap, subst, sym, ◌∙◌, arith, IsPermutation}
use Rattle.std.specs.Vec.{vec_capacity}
use Rattle.std.proofs.lemmas.List.Sorted.{IsPermutation-sym}
use Rattle.rv_keylist.specs.Keys.{has_key}
use Rattle.rv_keylist.proofs.Onces.{Once-IsPermutation}
use Rattle.rv_keyset.specs.Sets.{Keyed, ascending, flat}
use Rattle.rv_keyset.proofs.Lists.{added_keys, added_once, added_runs}
use Rattle.rv_keyset.proofs.Orders.{ascending_has, ascending_length, ascending_moves, ascending_rises}
use Rattle.rv_keyset.proofs.KeySet.add.Goals as goal

pub add_list-requires-clause-enough : goal.add_list-requires-clause-enough
add_list-requires-clause-enough c =
    let same : length c.args.self.now.keys ≡ length (flat c.self.inside.runs.items) = ap (λ (s : Keyed). length s.keys) (sym c.self.view_is) ∙ ascending_length (flat c.self.inside.runs.items) in
    let enough = c.requires.enough in
    omega arith

pub add_list-requires-clause-once : goal.add_list-requires-clause-once
add_list-requires-clause-once c =
    let keys = flat c.self.inside.runs.items in
    added_once keys c.args.list.keys c.args.self.now.keys c.self.invariant.once c.len-keys.ensures.once (λ n. ascending_has n keys ∙ ap (λ (s : Keyed). has_key n s.keys) c.self.view_is) c.requires.apart

pub invariant_of-self : goal.invariant_of-self
invariant_of-self c =
    let keys = flat c.self.inside.runs.items in
    let same : length c.args.self.now.keys ≡ length keys = ap (λ (s : Keyed). length s.keys) (sym c.self.view_is) ∙ ascending_length keys in
    let small = c.requires.small in
    let once = added_once keys c.args.list.keys c.args.self.now.keys c.self.invariant.once c.len-keys.ensures.once (λ n. ascending_has n keys ∙ ap (λ (s : Keyed). has_key n s.keys) c.self.view_is) c.requires.apart in
    added_runs c.self.inside.runs.items c.add_list.new.lists.items c.args.list.keys (vec_capacity c.add_list.new.lists) once (omega arith) c.add_list.ensures.finished c.add_list.ensures.keys c.add_list.ensures.place

pub returns-clause-keys : goal.returns-clause-keys
returns-clause-keys c =
    let keys = flat c.self.inside.runs.items in
    let now = subst (λ (s : Keyed). IsPermutation s.keys keys) c.self.view_is (IsPermutation-sym keys (ascending keys) (ascending_moves keys)) in
    let new = flat c.add_list.new.lists.items in
    added_keys keys c.args.list.keys c.args.self.now.keys new (ascending new) now c.add_list.ensures.keys (ascending_moves new)

pub returns-clause-ascends : goal.returns-clause-ascends
returns-clause-ascends c =
    let keys = flat c.self.inside.runs.items in
    let once = added_once keys c.args.list.keys c.args.self.now.keys c.self.invariant.once c.len-keys.ensures.once (λ n. ascending_has n keys ∙ ap (λ (s : Keyed). has_key n s.keys) c.self.view_is) c.requires.apart in
    ascending_rises (flat c.add_list.new.lists.items) (Once-IsPermutation (keys ++ c.args.list.keys) (flat c.add_list.new.lists.items) c.add_list.ensures.keys once)
