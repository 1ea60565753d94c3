-- What users of a sound tree need: its entries and cuts ascend, the cuts are few, and the leaves short; a key of another
-- row is absent.
use Rattle.std.proofs.Common.{ℕ, true, inl, inr, ◌<◌, ◌≤◌, ◌≡◌, List, Bool, length, refl, ap, arith, None, subst}
use Rattle.std.specs.Prelude.{◌||◌}
use Rattle.std.proofs.lemmas.Bool.{cases_Bool}
use Rattle.rv_value.specs.declared.record.IndexEntry.{IndexEntry}
use Rattle.rv_value.proofs.Lists.{all_true}
use Rattle.rv_reader.specs.Entries.{comes_before}
use Rattle.rv_reader.specs.Leaves.{leaf_from, leaf_entries}
use Rattle.rv_reader.specs.Shown.{IsIndex}
use Rattle.rv_reader.proofs.Orders.{order}
use Rattle.rv_reader.proofs.Short.{short_by}
use Rattle.rv_reader.proofs.Sorting.{same}
use Rattle.rv_node.specs.Nodes.{Parts}
use Rattle.rv_node.specs.Trees.{entries_all, cuts_all}
use Rattle.rv_node.specs.Stored.{tree_at}
use Rattle.rv_node.proofs.Counts.{cuts_few}
use Rattle.rv_node.proofs.Leaves.{leaf_found, leaf_short}
use Rattle.rv_node.proofs.Rising.{entries_rising, cuts_rising}
use Rattle.rv_index.specs.Index.{level_at, whole_at, IsIndexTree}

-- each cut is the first of a leaf of its own
pub few_cuts : (len : ℕ) (at : ℕ → Parts) → IsIndexTree len at → length (cuts_all (whole_at at)) < len
few_cuts len at index = cuts_few at len (level_at at) 0 index.own.stored index.own.once index.own.used

pub index_is : (len : ℕ) (at : ℕ → Parts) → IsIndexTree len at → len ≤ 4294967296 → IsIndex (entries_all (whole_at at)) (cuts_all (whole_at at))
index_is len at index small =
    let level = level_at at in
    let few = few_cuts len at index in
    record {
      ascend = entries_rising comes_before order level None None (tree_at at level 0) index.whole;
      apart = cuts_rising comes_before order level None None (tree_at at level 0) index.whole;
      few = omega arith;
    }

-- each leaf of the tree has at most 32 entries
pub short_leaves : (len : ℕ) (at : ℕ → Parts) → IsIndexTree len at → (passes : IndexEntry → Bool) → length (leaf_entries (leaf_from passes None (cuts_all (whole_at at))) (entries_all (whole_at at))) ≤ 32
short_leaves len at index =
    let level = level_at at in
    let tree = tree_at at level 0 in
    let es = entries_all (whole_at at) in
    let cs = cuts_all (whole_at at) in
    short_by es cs (cuts_rising comes_before order level None None tree index.whole)
    (λ goes front.
    let found = leaf_found goes (λ (x : IndexEntry). true) (λ x c tx tc l p. front x c l p) level tree index.whole (all_true cs) in
    subst (λ (leaf : List IndexEntry). length leaf ≤ 32) found.0 (leaf_short comes_before level goes None None tree index.whole None))

-- entries of different rows are different
pub other_row : (e x : IndexEntry) → (x.row.0 ≡ e.row.0 → ⊥) → (comes_before x e || comes_before e x) ≡ true
other_row e x apart = elim (cases_Bool (comes_before x e)) [
  | inl t ↦ rw t refl
  | inr f ↦ elim (cases_Bool (comes_before e x)) [
    | inl t ↦ rw (f, t) refl
    | inr g ↦ absurd (apart (ap (λ (y : IndexEntry). y.row.0) (same x e f g)))
  ]
]
