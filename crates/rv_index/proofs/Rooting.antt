-- The whole tree after an insertion, and after a deletion.
use Rattle.std.proofs.Common.{ℕ, zero, suc, inl, inr, ◌+◌, ◌<◌, ◌≤◌, ◌≡◌, List, [], ◌∷◌, length, Option, Some, None, refl, ap, sym, ◌∙◌, subst, arith, add-one}
use Rattle.std.proofs.lemmas.Bool.{cases_eq, cases_lt}
use Rattle.std.proofs.lemmas.Bool.{le-leb}
use Rattle.std.proofs.Common.{cond, true}
use Rattle.std.specs.Prelude.{unwrap_or, slice_index_or}
use Rattle.std.specs.List.{AllByRecursion}
use Rattle.rv_value.specs.declared.record.IndexEntry.{IndexEntry}
use Rattle.rv_reader.specs.Entries.{comes_before, sorted_in}
use Rattle.rv_reader.proofs.Orders.{order}
use Rattle.rv_versions.specs.declared.chain.Version.{Version}
use Rattle.rv_versions.specs.Chains.{value_from, AllBelow, AllChainsBelow}
use Rattle.rv_node.specs.Nodes.{Parts, empty_node}
use Rattle.rv_node.specs.Trees.{grow, raise, inserted, deleted, entries_all, cuts_all, placed}
use Rattle.rv_node.specs.Sound.{IsWhole, Absent}
use Rattle.rv_node.specs.Stored.{kids_at, tree_at, IsStored, uses, same_id}
use Rattle.rv_node.proofs.Cuts.{inserted_cuts, deleted_cuts}
use Rattle.rv_node.proofs.Rising.{list_all-of, All-of}
use Rattle.rv_node.proofs.Storing.{IsKept, kept, kept_each, uses_self, EachOf-map, EachOf-stored, kids_at-same, uses_by-same}
use Rattle.rv_node.proofs.Whole.{inserted_entries, inserted_whole}
use Rattle.rv_node.proofs.Shrinking.{shrunk}
use Rattle.rv_index.specs.Index.{Nodes, nodes_at, tree_of, entries_of, cuts_of, IsSound, IsDeleted, IsOwn, IsIndexTree, IsInserted, whole_at, level_at}
use Rattle.rv_index.specs.Steps.{shrunken, IsGrown, IsRaised}
use Rattle.rv_index.proofs.Descents.{stored_level}
use Rattle.rv_index.proofs.Growing.{own_there, same_id-self, same_id-other, same_id-most}

-- the whole tree by its level
whole_by : (at : ℕ → Parts) (level : ℕ) → (at 0).level ≡ level → whole_at at ≡ (level, tree_at at level 0)
whole_by at level e = ap (λ (l : ℕ). (l, tree_at at l 0)) e

placed_sorted : (e : IndexEntry) (es : List IndexEntry) → placed comes_before e es ≡ sorted_in e es
placed_sorted e [] = refl
placed_sorted e (x ∷ xs) = ap (λ ys. cond (comes_before x e) (x ∷ ys) (e ∷ x ∷ xs)) (placed_sorted e xs)

-- the tree of a commit after an insertion
pub inserted_is : (commit : ℕ) (e : IndexEntry) (old new : Nodes) → IsSound old commit → Absent comes_before e (entries_of old commit)
    → IsOwn (length new) (level_at (nodes_at new commit)) 0 (nodes_at new commit) × (tree_of new commit ≡ inserted comes_before e (tree_of old commit)) → IsInserted commit e old new
inserted_is commit e old new sound absent grown =
    let w = tree_of old commit in
    record {
      sound = record { own = grown.0; whole = subst (IsWhole comes_before) (sym grown.1) (inserted_whole comes_before order e w sound.whole absent) };
      tree = grown.1;
      entries = ap entries_all grown.1 ∙ inserted_entries comes_before order e w sound.whole ∙ placed_sorted e (entries_all w);
      cuts = λ q here cuts entries. list_all-of q (cuts_of new commit)
          (subst (λ v. AllByRecursion (λ x. q x ≡ true) (cuts_all v)) (sym grown.1) (inserted_cuts comes_before (λ x. q x ≡ true) order e w here (All-of q (cuts_all w) cuts) (All-of q (entries_all w) entries)));
    }

pub inserted_none : (len len' level : ℕ) (e : IndexEntry) (at at' : ℕ → Parts) → level ≡ level_at at → IsIndexTree len at → IsGrown len len' level 0 (grow level comes_before e) None at at'
    → IsOwn len' (level_at at') 0 at' × (whole_at at' ≡ inserted comes_before e (whole_at at))
inserted_none len len' level e at at' up index grown =
    let here = stored_level at' level 0 grown.stored in
    let first = sym (whole_by at level (sym up)) in
    let tree = whole_by at' level here ∙ ap (λ g. raise level g.0 g.1) grown.tree ∙ ap (inserted comes_before e) first in
    let old = subst (λ l. IsOwn len l 0 at) (sym up) index.own in
    let own : IsOwn len' level 0 at' = record {
      stored = grown.stored;
      once = λ n. elim (cases_lt n len) [
        | inl below ↦ let g = grown.uses_old n below in let o = old.once n in omega arith
        | inr past ↦ let g = grown.uses_new n past in omega arith
      ];
      used = λ n past. let g = grown.uses_none n past in omega arith;
    } in
    (subst (λ l. IsOwn len' l 0 at') (sym here) own, tree)

-- a node under another number
record IsMoved (at at' : ℕ → Parts) (level id id' : ℕ) : Type 0 where
  pub tree : tree_at at' level id' ≡ tree_at at level id
  pub stored : IsStored at level id → IsStored at' level id'
  pub uses : (n : ℕ) → uses at' level id' n + same_id id n ≡ uses at level id n + same_id id' n

moved : (at at' : ℕ → Parts) (level id id' : ℕ) → at' id' ≡ at id → uses at level id id ≤ 1 → ((n : ℕ) → 0 < uses at level id n → (n ≡ id → ⊥) → at' n ≡ at n) → IsMoved at at' level id id'
moved at at' zero id id' e once h = record { tree = ap (λ x. x.entries) e; stored = λ s. ap (λ x. x.level) e ∙ s; uses = λ n. omega arith }
moved at at' (suc level) id id' e once h =
    let self = same_id-self id in
    let each = kept_each at at' level (kept at at' level) (at id).children (λ n l. h n (omega arith) (λ eq. let m = rw eq at l in absurd (omega arith))) in
    record {
      tree = rw e (kids_at-same (tree_at at level) (tree_at at' level) (at id).entries (at id).children (EachOf-map (IsKept at at' level) (λ x. tree_at at' level x ≡ tree_at at level x) (at id).children (λ x k. k.tree) each));
      stored = λ s. rw e (s.0, s.1, s.2, s.3, EachOf-stored at at' level (at id).children each s.4);
      uses = λ n. let u = uses_by-same (λ x. uses at level x n) (λ x. uses at' level x n) (at id).children (EachOf-map (IsKept at at' level) (λ x. uses at' level x n ≡ uses at level x n) (at id).children (λ x k. k.uses n) each) in rw e (omega arith);
    }

two_kids : {T : Type 0} (cut : IndexEntry) (t t' q q' : T) → t ≡ t' → q ≡ q' → ◌≡◌ {A = List (IndexEntry × T)} ((cut, t) ∷ (cut, q) ∷ []) ((cut, t') ∷ (cut, q') ∷ [])
two_kids cut t t' q q' a b = λ i. (cut, a i) ∷ (cut, b i) ∷ []

pub inserted_some : (len len1 len2 level : ℕ) (e cut : IndexEntry) (right : ℕ) (at at' at2 : ℕ → Parts) → level ≡ level_at at → IsIndexTree len at → IsGrown len len1 level 0 (grow level comes_before e) (Some (cut, right)) at at'
    → IsRaised len1 len2 level cut right at' at2 → IsOwn len2 (level_at at2) 0 at2 × (whole_at at2 ≡ inserted comes_before e (whole_at at))
inserted_some len len1 len2 level e cut right at at' at2 up index grown raised =
    let old = subst (λ l. IsOwn len l 0 at) (sym up) index.own in
    let there = own_there len level 0 at old in
    let more = grown.grows in
    let count = raised.count in
    let old_root = grown.uses_old 0 there in
    let once_root = old.once 0 in
    let self = uses_self at' level 0 in
    let fresh = grown.uses_none len1 (omega arith) in
    let m = moved at' at2 level 0 len1 raised.left (omega arith) (λ n pos apart. raised.others n apart (λ eq. let p = rw eq at pos in absurd (omega arith))) in
    let k = kept at' at2 level right (λ n pos. raised.others n (λ eq. let p = rw eq at pos in absurd (omega arith)) (λ eq. let p = rw eq at pos in absurd (omega arith))) in
    let here : (at2 0).level ≡ suc level = ap (λ x. x.level) raised.root ∙ add-one level in
    let kids : tree_at at2 (suc level) 0 ≡ (cut, tree_at at' level 0) ∷ (cut, tree_at at' level right) ∷ [] =
    ap (λ x. kids_at (tree_at at2 level) x.entries x.children) raised.root ∙ two_kids cut (tree_at at2 level len1) (tree_at at' level 0) (tree_at at2 level right) (tree_at at' level right) m.tree k.tree in
    let first = sym (whole_by at level (sym up)) in
    let tree = whole_by at2 (suc level) here ∙ ap (λ t. (suc level, t)) kids ∙ ap (λ g. raise level g.0 g.1) grown.tree ∙ ap (inserted comes_before e) first in
    let own : IsOwn len2 (suc level) 0 at2 = record {
      stored = (here, ap (λ x. length x.entries) raised.root ∙ sym (ap (λ x. length x.children) raised.root), rw raised.root (omega arith), rw raised.root (omega arith), rw raised.root (m.stored grown.stored, (k.stored grown.right, tt)));
      once = λ n. let a = m.uses n in let b = k.uses n in elim (cases_eq n len1) [
        | inl eq ↦ let z = grown.uses_none n (omega arith) in let s = same_id-most len1 n in rw raised.root (omega arith)
        | inr ne ↦ let s = same_id-other len1 n (λ eq. ne (sym eq)) in elim (cases_lt n len) [
          | inl below ↦ let g = grown.uses_old n below in let o = old.once n in rw raised.root (omega arith)
          | inr past ↦ let g = grown.uses_new n past in rw raised.root (omega arith)
        ]
      ];
      used = λ n past. let a = m.uses n in let b = k.uses n in let z = grown.uses_none n (omega arith) in let s = same_id-other len1 n (λ eq. absurd (omega arith)) in rw raised.root (omega arith);
    } in
    (subst (λ l. IsOwn len2 l 0 at2) (sym here) own, tree)

-- above all versions the value stays
pub value_from-above : {T : Type 0} (best : Option T) (vs : List (Version T)) (high snap other : ℕ) → AllBelow high vs → high ≤ snap + 1 → high ≤ other + 1 → value_from best vs snap ≡ value_from best vs other
value_from-above best [] high snap other b l m = refl
value_from-above best (x ∷ xs) high snap other b l m =
    let below = b.0 in
    rw (le-leb x.commit snap (omega arith), le-leb x.commit other (omega arith)) (value_from-above (Some x.value) xs high snap other b.1 l m)

-- above all versions the nodes stay
pub nodes_above : (nodes : Nodes) (commit snap : ℕ) → AllChainsBelow (commit + 1) nodes → commit ≤ snap → nodes_at nodes snap ≡ nodes_at nodes commit
nodes_above nodes commit snap below l =
    let each = λ (id : ℕ). ap (λ v. unwrap_or v empty_node) (value_from-above None (slice_index_or nodes id []) (commit + 1) snap commit (below id) (omega arith) (omega arith)) in
    λ i id. each id i

-- a tree is sound where it was, with more ids
pub sound_more : (len len' : ℕ) (at : ℕ → Parts) → len ≤ len' → IsIndexTree len at → IsIndexTree len' at
sound_more len len' at more index = record {
  own = record { stored = index.own.stored; once = index.own.once; used = λ n l. index.own.used n (omega arith) };
  whole = index.whole;
}

-- the tree of a commit after a deletion
pub deleted_by : (len len' level : ℕ) (e : IndexEntry) (at at' : ℕ → Parts) → level ≡ level_at at → IsIndexTree len at → IsGrown len len' level 0 (shrunken level e) None at at'
    → IsOwn len' (level_at at') 0 at' × (whole_at at' ≡ deleted comes_before e (whole_at at))
deleted_by len len' level e at at' up index grown =
    let here = stored_level at' level 0 grown.stored in
    let first = sym (whole_by at level (sym up)) in
    let tree = whole_by at' level here ∙ ap (λ g. (level, g.0)) grown.tree ∙ ap (deleted comes_before e) first in
    let old = subst (λ l. IsOwn len l 0 at) (sym up) index.own in
    let own : IsOwn len' level 0 at' = record {
      stored = grown.stored;
      once = λ n. elim (cases_lt n len) [
        | inl below ↦ let g = grown.uses_old n below in let o = old.once n in omega arith
        | inr past ↦ let g = grown.uses_new n past in omega arith
      ];
      used = λ n past. let g = grown.uses_none n past in omega arith;
    } in
    (subst (λ l. IsOwn len' l 0 at') (sym here) own, tree)

pub deleted_is : (commit : ℕ) (e : IndexEntry) (old new : Nodes) → IsSound old commit
    → IsOwn (length new) (level_at (nodes_at new commit)) 0 (nodes_at new commit) × (tree_of new commit ≡ deleted comes_before e (tree_of old commit)) → IsDeleted commit e old new
deleted_is commit e old new sound grown =
    let w = tree_of old commit in
    let s = shrunk comes_before order e w.0 None None w.1 sound.whole in
    record {
      sound = record { own = grown.0; whole = subst (IsWhole comes_before) (sym grown.1) s.1 };
      tree = grown.1;
      entries = ap entries_all grown.1 ∙ s.0;
      cuts = ap cuts_all grown.1 ∙ deleted_cuts comes_before e w;
    }
