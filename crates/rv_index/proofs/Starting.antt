-- A tree of one empty leaf.
use Rattle.std.proofs.Common.{ℕ, inl, inr, ◌≡◌, [], length, Some, refl, ap, sym, ◌∙◌, subst, arith}
use Rattle.std.specs.Prelude.{unwrap_or}
use Rattle.std.proofs.lemmas.Bool.{cases_eq, le-leb}
use Rattle.rv_versions.specs.Chains.{value_of, IsPut, AllChainsBelow}
use Rattle.rv_node.specs.Nodes.{Parts, empty_node}
use Rattle.rv_index.specs.Index.{Nodes, nodes_at, whole_at, IsIndexTree, IsNew}
use Rattle.rv_node.specs.Trees.{entries_all, cuts_all}
use Rattle.rv_index.proofs.Growing.{same_id-most, same_id-other}

abbrev no_nodes : ℕ → Parts
no_nodes id = empty_node

none_index : IsIndexTree 1 no_nodes
none_index = record {
  own = record { stored = refl; once = λ n. same_id-most 0 n; used = λ n l. same_id-other 0 n (λ e. absurd (omega arith)) };
  whole = (tt, omega arith);
}

pub new_is : (nodes : Nodes) → length nodes ≡ 1 → IsPut Parts 0 0 empty_node [] nodes → AllChainsBelow 1 nodes → IsNew nodes
new_is nodes one put below =
    let there : (snap : ℕ) → value_of nodes 0 snap ≡ Some empty_node = λ snap. rw (le-leb 0 snap (omega arith)) at (put.there snap) in
    let each : (snap id : ℕ) → nodes_at nodes snap id ≡ no_nodes id = λ snap id. elim (cases_eq id 0) [
      | inl e ↦ ap (λ v. unwrap_or v empty_node) (ap (λ i. value_of nodes i snap) e ∙ there snap)
      | inr ne ↦ ap (λ v. unwrap_or v empty_node) (put.others id snap ne)
    ] in
    let same : (snap : ℕ) → no_nodes ≡ nodes_at nodes snap = λ snap. λ i id. sym (each snap id) i in
    record {
      one = one;
      sound = λ snap. subst (λ len. IsIndexTree len (nodes_at nodes snap)) (sym one) (subst (IsIndexTree 1) (same snap) none_index);
      tree = λ snap. ap whole_at (sym (same snap));
      entries = λ snap. ap (λ at. entries_all (whole_at at)) (sym (same snap));
      cuts = λ snap. ap (λ at. cuts_all (whole_at at)) (sym (same snap));
      newest = below;
    }
