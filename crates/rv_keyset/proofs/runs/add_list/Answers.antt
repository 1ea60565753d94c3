use Rattle.std.proofs.Common.{ℕ, List, ◌++◌, ◌∙◌, ap, subst, IsPermutation}
use Rattle.rv_keyset.specs.Sets.{flat}
use Rattle.rv_keyset.proofs.Lists.{pushed_items, put_behind}
use Rattle.rv_keyset.proofs.runs.add_list.Goals as goal

pub returns-clause-keys : goal.returns-clause-keys
returns-clause-keys c =
    let filled = c.pour.ensures.keys ∙ ap (λ (keys : List ℕ). keys ++ c.args.list.now.keys) c.requires.empty in
    let moved = subst (λ (keys : List ℕ). IsPermutation (flat c.args.lists.now.items ++ keys) (flat c.pour_due.new.lists.items ++ c.pour_due.new.put.keys)) filled c.pour_due.ensures.keys in
    put_behind (flat c.args.lists.now.items ++ c.args.list.now.keys) c.pour_due.new.lists.items c.push.new.self.items c.pour_due.new.put c.finish.new.self moved c.finish.ensures.keys (pushed_items c.push.result c.pour_due.new.lists.items c.push.new.self.items c.finish.new.self (c.push.ensures.succeeds c.pour_due.ensures.place) c.push.ensures.items)
