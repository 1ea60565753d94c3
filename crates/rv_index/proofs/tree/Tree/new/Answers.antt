use Rattle.std.proofs.Common.{◌≡◌, ◌∙◌, [], length, ap, subst, max}
use Rattle.rv_versions.specs.Chains.{IsPut, AllChainsBelow}
use Rattle.rv_node.specs.Nodes.{Parts, empty_node}
use Rattle.rv_index.specs.Index.{Nodes, IsNew}
use Rattle.rv_index.proofs.Starting.{new_is}
use Rattle.rv_index.proofs.tree.Tree.new.Goals as goal

new_by : (old new : Nodes) (node : Parts) → old ≡ [] → node ≡ empty_node → length new ≡ max (length old) 1 → IsPut Parts 0 0 node old new → AllChainsBelow 1 new → IsNew new
new_by old new node o n len put below =
    let put' = subst (λ v. IsPut Parts 0 0 v [] new) n (subst (λ v. IsPut Parts 0 0 node v new) o put) in
    new_is new (len ∙ ap (λ v. max (length v) 1) o) put' below

pub returns-in-Ok : goal.returns-in-Ok
returns-in-Ok c =
    new_by c.new-nodes.result c.write.new.self c.leaf.result c.new-nodes.ensures c.leaf.ensures c.in-Ok.ensures.len c.in-Ok.ensures.ok c.write.ensures.below
