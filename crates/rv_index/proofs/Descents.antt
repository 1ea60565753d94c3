-- A step down, and what is read of the leaf in which a descent ends.
use Rattle.std.proofs.Common.{ℕ, zero, suc, ◌+◌, ◌<◌, ◌≤◌, ◌≡◌, List, [], Option, None, Bool, refl, ap, sym, ◌∙◌, arith, length}
use Rattle.std.specs.Prelude.{filter}
use Rattle.rv_value.proofs.Lists.{filter_length}
use Rattle.rv_value.specs.declared.record.IndexEntry.{IndexEntry}
use Rattle.rv_value.specs.declared.range.Range.{Range}
use Rattle.rv_reader.specs.Entries.{comes_before, AreLong}
use Rattle.rv_reader.specs.Leaves.{is_passed, is_wanted, within, leaf_at, leaf_entries, IsChunk}
use Rattle.rv_reader.proofs.Chunks.{is_chunk, is_long, run_tests}
use Rattle.rv_reader.proofs.Orders.{order}
use Rattle.rv_reader.proofs.Halving.{passed_goes}
use Rattle.rv_node.specs.Nodes.{Parts}
use Rattle.rv_node.specs.Trees.{entries_all, cuts_all}
use Rattle.rv_node.specs.Stored.{tree_at, IsStored}
use Rattle.rv_node.specs.Descent.{child_in, leaf_in}
use Rattle.rv_node.proofs.Kids.{descend-child, each_child}
use Rattle.rv_node.proofs.Leaves.{leaf_found, leaf_short}
use Rattle.rv_node.proofs.Rising.{entries_rising}
use Rattle.rv_index.specs.Index.{level_at, whole_at, IsIndexTree}
use Rattle.rv_index.specs.Steps.{leaf_of}

pub leaf_step : (at : ℕ → Parts) (goes : IndexEntry → Bool) (level down id : ℕ) (next : Option IndexEntry) → down + 1 ≡ level → IsStored at level id
    → (leaf_in level goes (tree_at at level id) next ≡ leaf_in down goes (tree_at at down (child_in goes (at id).entries (at id).children next).0) (child_in goes (at id).entries (at id).children next).1)
    × IsStored at down (child_in goes (at id).entries (at id).children next).0
leaf_step at goes zero down id next e s = absurd (omega arith)
leaf_step at goes (suc level) down id next e s =
    let same : down ≡ level = omega arith in
    rw same (
      descend-child goes (leaf_in level goes) ([], next) (tree_at at level) (at id).entries (at id).children next s.1 s.2,
      each_child (IsStored at level) goes (at id).entries (at id).children next s.1 s.2 s.4,
    )

pub stored_level : (at : ℕ → Parts) (level id : ℕ) → IsStored at level id → (at id).level ≡ level
stored_level at zero id s = s
stored_level at (suc level) id s = s.0

pub stored_kids : (at : ℕ → Parts) (level id : ℕ) → 0 < level → IsStored at level id → (length (at id).entries ≡ length (at id).children) × (0 < length (at id).children)
stored_kids at zero id l s = absurd (omega arith)
stored_kids at (suc level) id l s = (s.1, s.2)

pub leaf_end : (at : ℕ → Parts) (goes : IndexEntry → Bool) (level id : ℕ) (next : Option IndexEntry) → level ≤ 0 → ((at id).entries, next) ≡ leaf_in level goes (tree_at at level id) next
leaf_end at goes zero id next l = refl
leaf_end at goes (suc level) id next l = absurd (omega arith)

pub chunk_is : (len : ℕ) (at : ℕ → Parts) (range : Range) (start : Option IndexEntry) (leaf entries : List IndexEntry) (cut next : Option IndexEntry) → IsIndexTree len at → AreLong range (entries_all (whole_at at)) → AreLong range (cuts_all (whole_at at))
    → (leaf, cut) ≡ leaf_of at start range → entries ≡ filter (is_wanted range start) leaf → next ≡ within range cut → IsChunk (entries_all (whole_at at)) (cuts_all (whole_at at)) range start (record { entries = entries; next = next })
chunk_is len at range start leaf entries cut next index long long_cuts l e n =
    let level = level_at at in
    let tree = tree_at at level 0 in
    let goes = is_passed start range in
    let es = entries_all (whole_at at) in
    let cs = cuts_all (whole_at at) in
    let found = leaf_found goes (is_long range) (λ x c lx lc l p. passed_goes range start x c l lx lc p) level tree index.whole long_cuts in
    let leaf_is : leaf ≡ leaf_entries (leaf_at cs start range) es = ap (λ p. p.0) l ∙ found.0 in
    let cut_is : cut ≡ (leaf_at cs start range).next = ap (λ p. p.1) l ∙ found.1 in
    let short : length leaf ≤ 32 = rw (ap (λ p. p.0) l) (leaf_short comes_before level goes None None tree index.whole None) in
    let fewer = filter_length (is_wanted range start) leaf in
    is_chunk es cs range start (record { entries = entries; next = next }) (entries_rising comes_before order level None None tree index.whole) long long_cuts
    (e ∙ ap (filter (is_wanted range start)) leaf_is ∙ sym (run_tests (leaf_entries (leaf_at cs start range) es) range start))
    (n ∙ ap (within range) cut_is)
    (rw e (omega arith))
