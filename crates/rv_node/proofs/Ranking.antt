-- The nodes of a tree of ascending entries are ranked.
use Rattle.std.proofs.Common.{◌≡◌, ℕ, zero, suc, ◌+◌, ◌<◌, ◌≤◌, List, [], ◌∷◌, ◌++◌, Bool, true, Option, Some, refl, sym, ◌∙◌, arith, length, drop, get_or}
use Rattle.std.specs.Prelude.{flat_map}
use Rattle.std.specs.List.{list_all}
use Rattle.std.proofs.lemmas.List.Folds.{list_all-append}
use Rattle.std.proofs.lemmas.Bool.{and_parts}
use Rattle.rv_value.specs.declared.record.IndexEntry.{IndexEntry}
use Rattle.rv_rows.specs.Rising.{Rising}
use Rattle.rv_reader.specs.Entries.{comes_before}
use Rattle.rv_reader.proofs.Orders.{order}
use Rattle.rv_node.specs.Descent.{child_in}
use Rattle.rv_node.specs.Nodes.{Parts}
use Rattle.rv_node.specs.Ranks.{IsRanked, Ranks}
use Rattle.rv_node.specs.Sound.{IsTree, Kids, KidsFrom}
use Rattle.rv_node.specs.Stored.{EachOf, IsStored, kids_at, tree_at}
use Rattle.rv_node.specs.Trees.{cuts_in, cuts_under, entries_in}
use Rattle.rv_node.proofs.Kids.{each_child}
use Rattle.rv_node.proofs.Rising.{all_behind, entries_rising}

-- the low entries of children after the first ascend
lows_above : {T : Type 0} (P : Option IndexEntry → Option IndexEntry → T → Type 0) (h : ℕ → T) (x : IndexEntry) (high : Option IndexEntry) (t : T) (lows : List IndexEntry) (ids : List ℕ) → length lows ≡ length ids
    → KidsFrom comes_before P (Some x) high t (kids_at h lows ids) → list_all (comes_before x) lows ≡ true
lows_above P h x high t [] ids same k = refl
lows_above P h x high t (l ∷ lows) [] same k = absurd (omega arith)
lows_above P h x high t (l ∷ lows) (i ∷ ids) same k = rw k.1 (all_behind comes_before order x l lows k.1 (lows_above P h l high (h i) lows ids (omega arith) k.3))

lows_rise : {T : Type 0} (P : Option IndexEntry → Option IndexEntry → T → Type 0) (h : ℕ → T) (low high : Option IndexEntry) (t : T) (lows : List IndexEntry) (ids : List ℕ) → length lows ≡ length ids
    → KidsFrom comes_before P low high t (kids_at h lows ids) → Rising comes_before lows
lows_rise P h low high t [] ids same k = tt
lows_rise P h low high t (l ∷ lows) [] same k = absurd (omega arith)
lows_rise P h low high t (l ∷ lows) (i ∷ ids) same k = (lows_above P h l high (h i) lows ids (omega arith) k.3, lows_rise P h (Some l) high (h i) lows ids (omega arith) k.3)

split : (q : IndexEntry → Bool) (xs ys : List IndexEntry) → list_all q (xs ++ ys) ≡ true → (list_all q xs ≡ true) × (list_all q ys ≡ true)
split q xs ys all = and_parts (list_all q xs) (list_all q ys) (sym (list_all-append q xs ys) ∙ all)

module _ (at : ℕ → Parts) (q : IndexEntry → Bool) where
  abbrev Step : ℕ → Type 0
  Step level = (id : ℕ) (low high : Option IndexEntry) → IsTree level comes_before low high (tree_at at level id) → IsStored at level id
      → list_all q (entries_in level (tree_at at level id)) ≡ true → list_all q (cuts_in level (tree_at at level id)) ≡ true → IsRanked at q level id

  each_ranked : (level : ℕ) → Step level → (low high : Option IndexEntry) (id : ℕ) (lows : List IndexEntry) (ids : List ℕ) → length lows ≡ length ids
      → KidsFrom comes_before (IsTree level comes_before) low high (tree_at at level id) (kids_at (tree_at at level) lows ids)
      → IsStored at level id → EachOf (IsStored at level) ids
      → list_all q (entries_in level (tree_at at level id) ++ flat_map (λ kid. entries_in level kid.1) (kids_at (tree_at at level) lows ids)) ≡ true
      → list_all q (cuts_in level (tree_at at level id) ++ flat_map (λ kid. kid.0 ∷ cuts_in level kid.1) (kids_at (tree_at at level) lows ids)) ≡ true
      → (list_all q lows ≡ true) × EachOf (IsRanked at q level) (id ∷ ids)
  each_ranked level step low high id [] [] same k stored each es cs =
      let e = split q (entries_in level (tree_at at level id)) [] es in
      let c = split q (cuts_in level (tree_at at level id)) [] cs in
      (refl, (step id low high k stored e.0 c.0, tt))
  each_ranked level step low high id [] (x ∷ xs) same k stored each es cs = absurd (omega arith)
  each_ranked level step low high id (l ∷ lows) [] same k stored each es cs = absurd (omega arith)
  each_ranked level step low high id (l ∷ lows) (x ∷ xs) same k stored each es cs =
      let e = split q (entries_in level (tree_at at level id)) (entries_in level (tree_at at level x) ++ flat_map (λ kid. entries_in level kid.1) (kids_at (tree_at at level) lows xs)) es in
      let c = split q (cuts_in level (tree_at at level id)) (l ∷ (cuts_in level (tree_at at level x) ++ flat_map (λ kid. kid.0 ∷ cuts_in level kid.1) (kids_at (tree_at at level) lows xs))) cs in
      let first = and_parts (q l) (list_all q (cuts_in level (tree_at at level x) ++ flat_map (λ kid. kid.0 ∷ cuts_in level kid.1) (kids_at (tree_at at level) lows xs))) c.1 in
      let rest = each_ranked level step (Some l) high x lows xs (omega arith) k.3 each.0 each.1 e.1 first.1 in
      (rw first.0 rest.0, (step id low (Some l) k.0 stored e.0 c.0, rest.1))

  kids_ranked : (level : ℕ) → Step level → (low high : Option IndexEntry) (lows : List IndexEntry) (ids : List ℕ) → length lows ≡ length ids → 0 < length ids
      → Kids comes_before (IsTree level comes_before) low high (kids_at (tree_at at level) lows ids) → EachOf (IsStored at level) ids
      → list_all q (flat_map (λ kid. entries_in level kid.1) (kids_at (tree_at at level) lows ids)) ≡ true
      → list_all q (cuts_under (cuts_in level) (kids_at (tree_at at level) lows ids)) ≡ true
      → Ranks q (drop 1 lows) × EachOf (IsRanked at q level) ids
  kids_ranked level step low high [] [] same some k each es cs = absurd (omega arith)
  kids_ranked level step low high [] (x ∷ xs) same some k each es cs = absurd (omega arith)
  kids_ranked level step low high (l ∷ lows) [] same some k each es cs = absurd (omega arith)
  kids_ranked level step low high (l ∷ lows) (x ∷ xs) same some k each es cs =
      let rest = each_ranked level step low high x lows xs (omega arith) k each.0 each.1 es cs in
      (record { ascend = lows_rise (IsTree level comes_before) (tree_at at level) low high (tree_at at level x) lows xs (omega arith) k; all = rest.0 }, rest.1)

  pub ranked : (level : ℕ) → Step level
  ranked zero id low high tree stored es cs = record { ascend = entries_rising comes_before order zero low high (at id).entries tree; all = es }
  ranked (suc level) id low high tree stored es cs = kids_ranked level (ranked level) low high (at id).entries (at id).children stored.1 stored.2 tree.0 stored.4 es cs

  -- a node on the way down, and the leaf at its end
  pub ranked_lows : (level id : ℕ) → 0 < level → IsRanked at q level id → Ranks q (drop 1 (at id).entries)
  ranked_lows zero id pos r = absurd (omega arith)
  ranked_lows (suc level) id pos r = r.0

  pub ranked_leaf : (level id : ℕ) → level ≤ 0 → IsRanked at q level id → Ranks q (at id).entries
  ranked_leaf zero id none r = r
  ranked_leaf (suc level) id none r = absurd (omega arith)

  pub ranked_kid : (goes : IndexEntry → Bool) (level down id : ℕ) (next : Option IndexEntry) → down + 1 ≡ level → IsStored at level id → IsRanked at q level id → IsRanked at q down (child_in goes (at id).entries (at id).children next).0
  ranked_kid goes zero down id next e s r = absurd (omega arith)
  ranked_kid goes (suc level) down id next e s r =
      let same : down ≡ level = omega arith in
      rw same (each_child (IsRanked at q level) goes (at id).entries (at id).children next s.1 s.2 r.1)

  each_at : (P : ℕ → Type 0) (n : ℕ) (ids : List ℕ) → n < length ids → EachOf P ids → P (get_or ids n 0)
  each_at P n [] l a = absurd (omega arith)
  each_at P zero (id ∷ ids) l a = a.0
  each_at P (suc n) (id ∷ ids) l a = each_at P n ids (omega arith) a.1

  pub ranked_at : (level down id n : ℕ) → down + 1 ≡ level → n < length (at id).children → IsRanked at q level id → IsRanked at q down (get_or (at id).children n 0)
  ranked_at zero down id n e l r = absurd (omega arith)
  ranked_at (suc level) down id n e l r =
      let same : down ≡ level = omega arith in
      rw same (each_at (IsRanked at q level) n (at id).children l r.1)
