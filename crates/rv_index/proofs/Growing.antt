-- An insertion into stored nodes.
use Rattle.std.proofs.Common.{ℕ, suc, true, false, inl, inr, ◌+◌, ◌<◌, ◌≤◌, ◌≡◌, List, [], ◌∷◌, length, take, drop, Option, Some, None, cond, eqb, refl, ap, sym, ◌∙◌, subst, arith, get_or, length-take, length-drop}
use Rattle.std.proofs.lemmas.Bool.{eq-eqb, ne_eqb, le-leb, lt-leb, cases_eq, cases_lt}
use Rattle.std.proofs.lemmas.List.{drop_more, get_or-drop}
use Rattle.rv_node.specs.Nodes.{Parts}
use Rattle.rv_value.specs.declared.record.IndexEntry.{IndexEntry}
use Rattle.rv_reader.specs.Entries.{comes_before}
use Rattle.rv_node.specs.Trees.{Tree, change, grow, halves, up_to, placed, differs}
use Rattle.std.specs.Prelude.{filter}
use Rattle.rv_node.specs.Stored.{kids_at, tree_at, EachOf, IsStored, uses, uses_by, same_id, uses_right, kid_lows, kid_ids}
use Rattle.rv_node.specs.Descent.{child_in}
use Rattle.rv_node.proofs.Storing.{IsKept, kept, kept_each, uses_self, EachOf-map, EachOf-stored, kids_at-same, uses_by-same, changed_at, changed_uses, changed_each, kid_within, kids_at-take, kids_at-drop, length-kids_at, uses_by-take-drop, EachOf-take, EachOf-drop, add_length, add_lows-none, add_ids-none, add_more}
use Rattle.rv_node.proofs.Kids.{each_child}
use Rattle.rv_index.specs.Index.{IsOwn}
use Rattle.rv_index.specs.Steps.{IsNodePut, IsStoredIn, IsGrown, shrunken}

-- the number of a tree that is used is taken
pub own_there : (len level id : ℕ) (at : ℕ → Parts) → IsOwn len level id at → id < len
own_there len level id at own = elim (cases_lt id len) [
  | inl below ↦ below
  | inr past ↦ let none = own.used id past in let self = uses_self at level id in absurd (omega arith)
]

pub same_id-self : (id : ℕ) → same_id id id ≡ 1
same_id-self id = rw (eq-eqb id id refl) refl

pub same_id-other : (id n : ℕ) → (id ≡ n → ⊥) → same_id id n ≡ 0
same_id-other id n apart = rw (ne_eqb id n apart) refl

pub kid_length : (e : IndexEntry) (r : Option (IndexEntry × ℕ)) (lows : List IndexEntry) (ids : List ℕ) → length lows ≡ length ids → length (kid_lows e r lows) ≡ length (kid_ids e r lows ids)
kid_length e r [] [] same = refl
kid_length e r [] (x ∷ xs) same = absurd (omega arith)
kid_length e r (low ∷ lows) [] same = absurd (omega arith)
kid_length e r (low ∷ lows) (x ∷ xs) same = let m = add_length (up_to comes_before e) r lows xs (omega arith) in omega arith

pub kid_more : (e : IndexEntry) (r : Option (IndexEntry × ℕ)) (lows : List IndexEntry) → length (kid_lows e r lows) ≤ length lows + 1
kid_more e r [] = omega arith
kid_more e r (low ∷ lows) = let m = add_more (up_to comes_before e) r lows in omega arith

pub kid_some : (e : IndexEntry) (r : Option (IndexEntry × ℕ)) (lows : List IndexEntry) (ids : List ℕ) → length lows ≡ length ids → 0 < length ids → 0 < length (kid_ids e r lows ids)
kid_some e r [] [] same some = absurd (omega arith)
kid_some e r [] (x ∷ xs) same some = absurd (omega arith)
kid_some e r (low ∷ lows) [] same some = absurd (omega arith)
kid_some e r (low ∷ lows) (x ∷ xs) same some = omega arith

kid_lows-none : (e : IndexEntry) (lows : List IndexEntry) → kid_lows e None lows ≡ lows
kid_lows-none e [] = refl
kid_lows-none e (low ∷ lows) = ap (λ xs. low ∷ xs) (add_lows-none (up_to comes_before e) lows)

kid_ids-none : (e : IndexEntry) (lows : List IndexEntry) (ids : List ℕ) → length lows ≡ length ids → kid_ids e None lows ids ≡ ids
kid_ids-none e [] [] same = refl
kid_ids-none e [] (x ∷ xs) same = absurd (omega arith)
kid_ids-none e (low ∷ lows) [] same = absurd (omega arith)
kid_ids-none e (low ∷ lows) (x ∷ xs) same = ap (λ ys. x ∷ ys) (add_ids-none (up_to comes_before e) lows xs (omega arith))

halves_small : {X : Type 0} (low : X → IndexEntry) (xs : List X) → length xs ≤ 32 → halves low xs ≡ (xs, [])
halves_small low xs small = rw (le-leb (length xs) 32 small) refl

pub same_id-most : (id n : ℕ) → same_id id n ≤ 1
same_id-most id n = elim (eqb id n) as (λ b. cond b 1 0 ≤ 1) [ true ↦ omega arith | false ↦ omega arith ]

module _ (e : IndexEntry) (len l id : ℕ) (at : ℕ → Parts) (own : IsOwn len (suc l) id at) where
  abbrev under : ℕ → ℕ
  under n = uses_by (λ x. uses at l x n) (at id).children

  abbrev the_kid : ℕ
  the_kid = (child_in (up_to comes_before e) (at id).entries (at id).children None).0

  kid_under : (lows : List IndexEntry) (ids : List ℕ) → length lows ≡ length ids → 0 < length ids → (n : ℕ) → uses at l (child_in (up_to comes_before e) lows ids None).0 n ≤ uses_by (λ x. uses at l x n) ids
  kid_under [] [] same some n = absurd (omega arith)
  kid_under [] (x ∷ xs) same some n = absurd (omega arith)
  kid_under (low ∷ lows) [] same some n = absurd (omega arith)
  kid_under (low ∷ lows) (x ∷ xs) same some n = kid_within (up_to comes_before e) (λ y m. uses at l y m) x lows xs None n

  kid_stored : (lows : List IndexEntry) (ids : List ℕ) → length lows ≡ length ids → 0 < length ids → EachOf (IsStored at l) ids → IsStored at l (child_in (up_to comes_before e) lows ids None).0
  kid_stored lows ids same some each = each_child (IsStored at l) (up_to comes_before e) lows ids None same some each

  -- the child is a tree of its own
  pub own_kid : IsOwn len l the_kid at
  own_kid =
      let s = own.stored in
      record {
        stored = kid_stored (at id).entries (at id).children s.1 s.2 s.4;
        once = λ n. let o = own.once n in let k = kid_under (at id).entries (at id).children s.1 s.2 n in omega arith;
        used = λ n past. let o = own.used n past in let k = kid_under (at id).entries (at id).children s.1 s.2 n in omega arith;
      }

  under_self : under id ≡ 0
  under_self = let o = own.once id in let self = same_id-self id in omega arith

  module _ (len' : ℕ) (r : Option (IndexEntry × ℕ)) (at' : ℕ → Parts) (f : Tree IndexEntry l → Tree IndexEntry l × List (IndexEntry × Tree IndexEntry l)) (grown : IsGrown len len' l the_kid f r at at') where
    other : (x : ℕ) → ((n : ℕ) → uses at l x n + uses at l the_kid n ≤ under n) → IsKept at at' l x
    other x apart = kept at at' l x (λ n pos.
        let a = apart n in let o = own.once n in
        grown.frame n (elim (cases_lt n len) [ inl below ↦ below | inr past ↦ let none = own.used n past in absurd (omega arith) ]) (omega arith))

    others : (y : ℕ) → ((n : ℕ) → uses at l y n + uses at l the_kid n ≤ under n) → (tree_at at' l y ≡ tree_at at l y) × ((n : ℕ) → uses at' l y n ≡ uses at l y n) × (IsStored at l y → IsStored at' l y)
    others y apart = let o = other y apart in (o.tree, o.uses, o.stored)

    changed : (lows : List IndexEntry) (ids : List ℕ) → length lows ≡ length ids → 0 < length ids → the_kid ≡ (child_in (up_to comes_before e) lows ids None).0 → ((n : ℕ) → uses_by (λ x. uses at l x n) ids ≤ under n) → EachOf (IsStored at l) ids
        → (change (up_to comes_before e) f (kids_at (tree_at at l) lows ids) ≡ kids_at (tree_at at' l) (kid_lows e r lows) (kid_ids e r lows ids))
        × ((n : ℕ) → uses_by (λ x. uses at' l x n) (kid_ids e r lows ids) + uses at l the_kid n ≡ uses_by (λ x. uses at l x n) ids + (uses at' l the_kid n + uses_right (λ x. uses at' l x n) r))
        × EachOf (IsStored at' l) (kid_ids e r lows ids)
    changed [] [] same some k once each = absurd (omega arith)
    changed [] (x ∷ xs) same some k once each = absurd (omega arith)
    changed (low ∷ lows) [] same some k once each = absurd (omega arith)
    changed (low ∷ lows) (x ∷ xs) same some k once each =
        let here = sym grown.tree in
        let a = changed_at (up_to comes_before e) f (tree_at at l) (tree_at at' l) (λ y m. uses at l y m) (λ y m. uses at' l y m) (IsStored at l) (IsStored at' l) under the_kid r others here x lows xs None (omega arith) k once in
        let b = changed_uses (up_to comes_before e) f (tree_at at l) (tree_at at' l) (λ y m. uses at l y m) (λ y m. uses at' l y m) (IsStored at l) (IsStored at' l) under the_kid r others here x lows xs None (omega arith) k once in
        let c = changed_each (up_to comes_before e) f (tree_at at l) (tree_at at' l) (λ y m. uses at l y m) (λ y m. uses at' l y m) (IsStored at l) (IsStored at' l) under the_kid r others here x lows xs None (omega arith) k once each.0 each.1 grown.stored grown.right in
        (ap (λ p. (low, p.0) ∷ p.1) a, b, c)

    -- the children after the change
    abbrev lows2 : List IndexEntry
    lows2 = kid_lows e r (at id).entries

    abbrev ids2 : List ℕ
    ids2 = kid_ids e r (at id).entries (at id).children

    all_changed : (change (up_to comes_before e) f (kids_at (tree_at at l) (at id).entries (at id).children) ≡ kids_at (tree_at at' l) lows2 ids2)
        × ((n : ℕ) → uses_by (λ x. uses at' l x n) ids2 + uses at l the_kid n ≡ under n + (uses at' l the_kid n + uses_right (λ x. uses at' l x n) r))
        × EachOf (IsStored at' l) ids2
    all_changed = let s = own.stored in changed (at id).entries (at id).children s.1 s.2 refl (λ n. omega arith) s.4

    kid_le : (n : ℕ) → uses at l the_kid n ≤ under n
    kid_le n = let s = own.stored in kid_under (at id).entries (at id).children s.1 s.2 n

    uses2_old : (n : ℕ) → n < len → uses_by (λ x. uses at' l x n) ids2 ≡ under n
    uses2_old n below = let c = all_changed.1 n in let g = grown.uses_old n below in omega arith

    under_none : (n : ℕ) → len ≤ n → under n ≡ 0
    under_none n past = let o = own.used n past in omega arith

    uses2_new : (n : ℕ) → len ≤ n → uses_by (λ x. uses at' l x n) ids2 ≡ uses at' l the_kid n + uses_right (λ x. uses at' l x n) r
    uses2_new n past = let c = all_changed.1 n in let u = under_none n past in let k = kid_le n in omega arith

    length2 : length lows2 ≡ length ids2
    length2 = let s = own.stored in kid_length e r (at id).entries (at id).children s.1

    some2 : 0 < length ids2
    some2 = let s = own.stored in kid_some e r (at id).entries (at id).children s.1 s.2

    more2 : length lows2 ≤ 33
    more2 = let s = own.stored in let small = s.3 in let m = kid_more e r (at id).entries in omega arith

-- where the child was not cut, the node stays
changed_none : (e : IndexEntry) (len len' l id : ℕ) (at at' : ℕ → Parts) (f : Tree IndexEntry l → Tree IndexEntry l × List (IndexEntry × Tree IndexEntry l)) (F : Tree IndexEntry (suc l) → Tree IndexEntry (suc l) × List (IndexEntry × Tree IndexEntry (suc l)))
    → ((ks : List (IndexEntry × Tree IndexEntry l)) → length (change (up_to comes_before e) f ks) ≤ 32 → F ks ≡ (change (up_to comes_before e) f ks, []))
    → (own : IsOwn len (suc l) id at) → IsGrown len len' l (the_kid e len l id at own) f None at at' → IsGrown len len' (suc l) id F None at at'
changed_none e len len' l id at at' f F whole own grown =
    let s = own.stored in
    let lows_same = kid_lows-none e (at id).entries in
    let ids_same = kid_ids-none e (at id).entries (at id).children s.1 in
    let all = all_changed e len l id at own len' None at' f grown in
    let there = own_there len (suc l) id at own in
    let kid_none = kid_le e len l id at own len' None at' f grown id in
    let self = under_self e len l id at own in
    let node : at' id ≡ at id = grown.frame id there (omega arith) in
    let small = s.3 in
    let long = length-kids_at (tree_at at' l) (at id).entries (at id).children s.1 in
    let each = rw ids_same at all.2 in
    let tree = rw (lows_same, ids_same) at all.0 in
    record {
      tree = rw node (sym (whole (kids_at (tree_at at l) (at id).entries (at id).children) (rw tree (omega arith)) ∙ ap (λ ks. (ks, [])) tree));
      stored = rw node (s.0, s.1, s.2, s.3, each);
      right = tt;
      uses_old = λ n below. let u = rw ids_same at (uses2_old e len l id at own len' None at' f grown n below) in rw node (omega arith);
      uses_new = λ n past.
          let u = rw ids_same at (uses2_new e len l id at own len' None at' f grown n past) in let g = grown.uses_new n past in
          let apart = same_id-other id n (λ eq. absurd (omega arith)) in rw node (omega arith);
      uses_none = λ n past.
          let more = grown.grows in
          let u = rw ids_same at (uses2_new e len l id at own len' None at' f grown n (omega arith)) in let g = grown.uses_none n past in
          let apart = same_id-other id n (λ eq. absurd (omega arith)) in rw node (omega arith);
      frame = λ n below none. let k = kid_le e len l id at own len' None at' f grown n in grown.frame n below (omega arith);
      grows = grown.grows;
    }

pub grown_none : (e : IndexEntry) (len len' l id : ℕ) (at at' : ℕ → Parts) (own : IsOwn len (suc l) id at) → IsGrown len len' l (the_kid e len l id at own) (grow l comes_before e) None at at' → IsGrown len len' (suc l) id (grow (suc l) comes_before e) None at at'
grown_none e len len' l id at at' own grown =
    changed_none e len len' l id at at' (grow l comes_before e) (grow (suc l) comes_before e) (λ ks small. halves_small (λ kid. kid.0) (change (up_to comes_before e) (grow l comes_before e) ks) small) own grown

-- a deletion below a node
pub shrunk_none : (e : IndexEntry) (len len' l id : ℕ) (at at' : ℕ → Parts) (own : IsOwn len (suc l) id at) → IsGrown len len' l (the_kid e len l id at own) (shrunken l e) None at at' → IsGrown len len' (suc l) id (shrunken (suc l) e) None at at'
shrunk_none e len len' l id at at' own grown = changed_none e len len' l id at at' (shrunken l e) (shrunken (suc l) e) (λ ks small. refl) own grown

-- a deletion in a leaf
pub shrunk_leaf : (e : IndexEntry) (len id : ℕ) (at at' : ℕ → Parts) (es : List IndexEntry) → es ≡ filter (differs comes_before e) (at id).entries → IsOwn len 0 id at → IsNodePut id (record { level = 0; entries = es; children = [] }) at at' → IsGrown len len 0 id (shrunken 0 e) None at at'
shrunk_leaf e len id at at' es is own s =
    record {
      tree = ap (λ (x : Parts). (x.entries, [])) s.here ∙ ap (λ xs. (xs, [])) is;
      stored = ap (λ x. x.level) s.here;
      right = tt;
      uses_old = λ n below. omega arith;
      uses_new = λ n past. let o = own.once n in omega arith;
      uses_none = λ n past. let o = own.used n past in omega arith;
      frame = λ n below none. s.others n (λ eq. let self = same_id-self id in let z = rw eq at none in absurd (omega arith));
      grows = omega arith;
    }

halves_big : {X : Type 0} (low : X → IndexEntry) (xs : List X) (c : X) (rest : List X) → 32 < length xs → drop 16 xs ≡ c ∷ rest → halves low xs ≡ (take 16 xs, (low c, drop 16 xs) ∷ [])
halves_big low xs c rest big d = rw (lt-leb (length xs) 32 big, d) refl

same_halves : {T : Type 0} (cut : IndexEntry) (t t' q q' : T) → t ≡ t' → q ≡ q' → ◌≡◌ {A = T × List (IndexEntry × T)} (t, (cut, q) ∷ []) (t', (cut, q') ∷ [])
same_halves cut t t' q q' a b = λ i. (a i, (cut, b i) ∷ [])

-- a leaf with a further entry
pub grown_leaf : (e : IndexEntry) (len len' id : ℕ) (at at' : ℕ → Parts) (r : Option (IndexEntry × ℕ)) → IsOwn len 0 id at → IsStoredIn len len' 0 id (placed comes_before e (at id).entries) [] r at at' → IsGrown len len' 0 id (grow 0 comes_before e) r at at'
grown_leaf e len len' id at at' None own s =
    let node = s.halves.1 in
    let count = s.count in
    record {
      tree = let a = ap (λ x. x.entries) node in let b = halves_small (λ x. x) (placed comes_before e (at id).entries) s.halves.0 in ap (λ t. (t, [])) a ∙ sym b;
      stored = rw node refl;
      right = tt;
      uses_old = λ n below. omega arith;
      uses_new = λ n past. let o = own.once n in omega arith;
      uses_none = λ n past. let o = own.used n (omega arith) in omega arith;
      frame = λ n below none. s.others n (λ eq. let self = same_id-self id in let z = rw eq at none in absurd (omega arith)) (λ eq. absurd (omega arith));
      grows = omega arith;
    }
grown_leaf e len len' id at at' (Some r) own s =
    let h = s.halves in
    let count = s.count in
    let right_is = h.1 in
    let there = own_there len 0 id at own in
    let right_node = rw (← right_is) at h.3 in
    record {
      tree = let a = ap (λ x. x.entries) h.2 in let b = ap (λ x. x.entries) right_node in same_halves r.0 (at' id).entries (take 16 (placed comes_before e (at id).entries)) (at' r.1).entries (drop 16 (placed comes_before e (at id).entries)) a b ∙ sym (halves_big (λ x. x) (placed comes_before e (at id).entries) r.0 (drop 17 (placed comes_before e (at id).entries)) h.0 h.4);
      stored = rw h.2 refl;
      right = rw right_node refl;
      uses_old = λ n below. let a = same_id-other r.1 n (λ eq. absurd (omega arith)) in omega arith;
      uses_new = λ n past. let a = same_id-other id n (λ eq. absurd (omega arith)) in let b = same_id-most r.1 n in omega arith;
      uses_none = λ n past. let a = same_id-other id n (λ eq. absurd (omega arith)) in let b = same_id-other r.1 n (λ eq. absurd (omega arith)) in omega arith;
      frame = λ n below none. s.others n (λ eq. let self = same_id-self id in let z = rw eq at none in absurd (omega arith)) (λ eq. absurd (omega arith));
      grows = omega arith;
    }

first_of_list : (ys : List ℕ) → 0 < length ys → (x : ℕ) × ((xs : List ℕ) × (ys ≡ x ∷ xs))
first_of_list [] some = absurd (omega arith)
first_of_list (x ∷ xs) some = (x, (xs, refl))

first_kid : {T : Type 0} (h : ℕ → T) (es : List IndexEntry) (cs : List ℕ) (c : IndexEntry) (rest : List IndexEntry) → length es ≡ length cs → 32 < length es → drop 16 es ≡ c ∷ rest
    → halves (λ kid. kid.0) (kids_at h es cs) ≡ (take 16 (kids_at h es cs), (c, drop 16 (kids_at h es cs)) ∷ [])
first_kid h es cs c rest same big d =
    let long = length-kids_at h es cs same in
    let p = first_of_list (drop 16 cs) (omega (arith, length-drop 16 cs)) in
    halves_big (λ kid. kid.0) (kids_at h es cs) (c, h p.0) (kids_at h rest p.1.0) (omega arith) (kids_at-drop h 16 es cs ∙ (λ i. kids_at h (d i) (p.1.1 i)))

-- where the child was changed and its node is stored again
module _ (e : IndexEntry) (len len1 len2 l id : ℕ) (at at' at2 : ℕ → Parts) (r0 : Option (IndexEntry × ℕ)) (own : IsOwn len (suc l) id at) (grown : IsGrown len len1 l (the_kid e len l id at own) (grow l comes_before e) r0 at at') where
  abbrev es : List IndexEntry
  es = lows2 e len l id at own len1 r0 at' (grow l comes_before e) grown

  abbrev cs : List ℕ
  cs = ids2 e len l id at own len1 r0 at' (grow l comes_before e) grown

  abbrev kids : List (IndexEntry × Tree IndexEntry l)
  kids = kids_at (tree_at at' l) es cs

  grown_to : grow (suc l) comes_before e (tree_at at (suc l) id) ≡ halves (λ kid. kid.0) kids
  grown_to = ap (halves (λ kid. kid.0)) (all_changed e len l id at own len1 r0 at' (grow l comes_before e) grown).0

  module _ (r : Option (IndexEntry × ℕ)) (s : IsStoredIn len1 len2 (suc l) id es cs r at' at2) where
    each2 : EachOf (IsKept at' at2 l) cs
    each2 = kept_each at' at2 l (kept at' at2 l) cs (λ n pos. s.others n
        (λ eq.
        let there = own_there len (suc l) id at own in
        let z = uses2_old e len l id at own len1 r0 at' (grow l comes_before e) grown id there in
        let self = under_self e len l id at own in
        let p = rw eq at pos in absurd (omega arith))
        (λ eq.
        let more = grown.grows in
        let z = uses2_new e len l id at own len1 r0 at' (grow l comes_before e) grown len1 more in
        let none = grown.uses_none len1 (omega arith) in
        let p = rw eq at pos in absurd (omega arith)))

    trees2 : EachOf (λ x. tree_at at2 l x ≡ tree_at at' l x) cs
    trees2 = EachOf-map (IsKept at' at2 l) (λ x. tree_at at2 l x ≡ tree_at at' l x) cs (λ x k. k.tree) each2

    stored2 : EachOf (IsStored at2 l) cs
    stored2 = EachOf-stored at' at2 l cs each2 (all_changed e len l id at own len1 r0 at' (grow l comes_before e) grown).2

    uses2 : (n : ℕ) → uses_by (λ x. uses at2 l x n) cs ≡ uses_by (λ x. uses at' l x n) cs
    uses2 n = uses_by-same (λ x. uses at' l x n) (λ x. uses at2 l x n) cs (EachOf-map (IsKept at' at2 l) (λ x. uses at2 l x n ≡ uses at' l x n) cs (λ x k. k.uses n) each2)

    frame2 : (n : ℕ) → n < len → uses at (suc l) id n ≡ 0 → at2 n ≡ at n
    frame2 n below none =
        let more = grown.grows in
        let k = kid_le e len l id at own len1 r0 at' (grow l comes_before e) grown n in
        s.others n (λ eq. let self = same_id-self id in let z = rw eq at none in absurd (omega arith)) (λ eq. absurd (omega arith)) ∙ grown.frame n below (omega arith)

  -- as stored whole
  whole_is : (s : IsStoredIn len1 len2 (suc l) id es cs None at' at2) → IsGrown len len2 (suc l) id (grow (suc l) comes_before e) None at at2
  whole_is s =
      let node = s.halves.1 in
      let small = s.halves.0 in
      let count = s.count in
      let more = grown.grows in
      let o = own.stored in
      let long = length-kids_at (tree_at at' l) es cs (length2 e len l id at own len1 r0 at' (grow l comes_before e) grown) in
      let same = kids_at-same (tree_at at' l) (tree_at at2 l) es cs (trees2 None s) in
      let tree : tree_at at2 (suc l) id ≡ kids = ap (λ x. kids_at (tree_at at2 l) x.entries x.children) node ∙ same in
      let some = some2 e len l id at own len1 r0 at' (grow l comes_before e) grown in
      record {
        tree = ap (λ t. (t, [])) tree ∙ sym (grown_to ∙ halves_small (λ kid. kid.0) kids (omega arith));
        stored = rw node (refl, length2 e len l id at own len1 r0 at' (grow l comes_before e) grown, some, small, stored2 None s);
        right = tt;
        uses_old = λ n below. let a = uses2 None s n in let b = uses2_old e len l id at own len1 r0 at' (grow l comes_before e) grown n below in rw node (omega arith);
        uses_new = λ n past. let a = uses2 None s n in let b = uses2_new e len l id at own len1 r0 at' (grow l comes_before e) grown n past in let g = grown.uses_new n past in
            let there = own_there len (suc l) id at own in
            let apart = same_id-other id n (λ eq. absurd (omega arith)) in rw node (omega arith);
        uses_none = λ n past. let a = uses2 None s n in let b = uses2_new e len l id at own len1 r0 at' (grow l comes_before e) grown n (omega arith) in let g = grown.uses_none n (omega arith) in
            let there = own_there len (suc l) id at own in
            let apart = same_id-other id n (λ eq. absurd (omega arith)) in rw node (omega arith);
        frame = frame2 None s;
        grows = omega arith;
      }

  -- as stored in halves
  halves_are : (r : IndexEntry × ℕ) (s : IsStoredIn len1 len2 (suc l) id es cs (Some r) at' at2) → IsGrown len len2 (suc l) id (grow (suc l) comes_before e) (Some r) at at2
  halves_are r s =
      let h = s.halves in
      let big = h.0 in
      let count = s.count in
      let more = grown.grows in
      let right_is = h.1 in
      let there = own_there len (suc l) id at own in
      let right_node = rw (← right_is) at h.3 in
      let same = length2 e len l id at own len1 r0 at' (grow l comes_before e) grown in
      let most = more2 e len l id at own len1 r0 at' (grow l comes_before e) grown in
      let long = length-kids_at (tree_at at' l) es cs same in
      let left_tree : tree_at at2 (suc l) id ≡ take 16 kids =
      ap (λ x. kids_at (tree_at at2 l) x.entries x.children) h.2 ∙ kids_at-same (tree_at at' l) (tree_at at2 l) (take 16 es) (take 16 cs) (EachOf-take (λ x. tree_at at2 l x ≡ tree_at at' l x) 16 cs (trees2 (Some r) s)) ∙ sym (kids_at-take (tree_at at' l) 16 es cs) in
      let right_tree : tree_at at2 (suc l) r.1 ≡ drop 16 kids =
      ap (λ x. kids_at (tree_at at2 l) x.entries x.children) right_node ∙ kids_at-same (tree_at at' l) (tree_at at2 l) (drop 16 es) (drop 16 cs) (EachOf-drop (λ x. tree_at at2 l x ≡ tree_at at' l x) 16 cs (trees2 (Some r) s)) ∙ sym (kids_at-drop (tree_at at' l) 16 es cs) in
      let first = first_kid (tree_at at' l) es cs r.0 (drop 17 es) same big h.4 in
      let a16 = length-take 16 es in let b16 = length-take 16 cs in let c16 = length-drop 16 es in let d16 = length-drop 16 cs in
      let spread = λ (n : ℕ). uses_by-take-drop (λ x. uses at2 l x n) 16 cs in
      record {
        tree = same_halves r.0 (tree_at at2 (suc l) id) (take 16 kids) (tree_at at2 (suc l) r.1) (drop 16 kids) left_tree right_tree ∙ sym (grown_to ∙ first);
        stored = rw h.2 (refl, omega arith, omega arith, omega arith, EachOf-take (IsStored at2 l) 16 cs (stored2 (Some r) s));
        right = rw right_node (refl, omega arith, omega arith, omega arith, EachOf-drop (IsStored at2 l) 16 cs (stored2 (Some r) s));
        uses_old = λ n below. let a = uses2 (Some r) s n in let b = uses2_old e len l id at own len1 r0 at' (grow l comes_before e) grown n below in let sp = spread n in
            let apart = same_id-other r.1 n (λ eq. absurd (omega arith)) in rw (h.2, right_node) (omega arith);
        uses_new = λ n past. let a = uses2 (Some r) s n in let b = uses2_new e len l id at own len1 r0 at' (grow l comes_before e) grown n past in let sp = spread n in let g = grown.uses_new n past in
            let apart = same_id-other id n (λ eq. absurd (omega arith)) in
            elim (cases_eq n r.1) [
              | inl eq ↦ let none = grown.uses_none n (omega arith) in let m = same_id-most r.1 n in rw (h.2, right_node) (omega arith)
              | inr ne ↦ let z = same_id-other r.1 n (λ eq. ne (sym eq)) in rw (h.2, right_node) (omega arith)
            ];
        uses_none = λ n past. let a = uses2 (Some r) s n in let b = uses2_new e len l id at own len1 r0 at' (grow l comes_before e) grown n (omega arith) in let g = grown.uses_none n (omega arith) in let sp = spread n in
            let apart = same_id-other id n (λ eq. absurd (omega arith)) in let apart' = same_id-other r.1 n (λ eq. absurd (omega arith)) in rw (h.2, right_node) (omega arith);
        frame = frame2 (Some r) s;
        grows = omega arith;
      }

  pub grown_some : (r : Option (IndexEntry × ℕ)) → IsStoredIn len1 len2 (suc l) id es cs r at' at2 → IsGrown len len2 (suc l) id (grow (suc l) comes_before e) r at at2
  grown_some None s = whole_is s
  grown_some (Some r) s = halves_are r s

-- a node put under a number, and a further one under the next
pub store_two : (len len1 len2 level id : ℕ) (es : List IndexEntry) (cs : List ℕ) (cut : IndexEntry) (right : ℕ) (at at1 at2 : ℕ → Parts) (left_es right_es : List IndexEntry) (left_cs right_cs : List ℕ)
    → id < len → 32 < length es → left_es ≡ take 16 es → right_es ≡ drop 16 es → left_cs ≡ take 16 cs → right_cs ≡ drop 16 cs → cut ≡ get_or right_es 0 cut → right ≡ len → len1 ≡ len + 1 → len2 ≡ len1
    → IsNodePut len (record { level = level; entries = right_es; children = right_cs }) at at1 → IsNodePut id (record { level = level; entries = left_es; children = left_cs }) at1 at2
    → IsStoredIn len len2 level id es cs (Some (cut, right)) at at2
store_two len len1 len2 level id es cs cut right at at1 at2 left_es right_es left_cs right_cs there big le re lc rc c r l1 l2 a b =
    let apart : len ≡ id → ⊥ = λ eq. absurd (omega arith) in
    record {
      halves = (
        big,
        r,
        b.here ∙ (λ i. record { level = level; entries = le i; children = lc i }),
        b.others len apart ∙ a.here ∙ (λ i. record { level = level; entries = re i; children = rc i }),
        drop_more es 16 cut (omega arith) ∙ ap (λ x. x ∷ drop 17 es) (sym (c ∙ ap (λ v. get_or v 0 cut) re ∙ get_or-drop 16 es 0 cut)),
      );
      others = λ n x y. b.others n x ∙ a.others n y;
      count = omega arith;
    }

-- the node above stays while its child is changed
pub node_stays : (e : IndexEntry) (len len' l id : ℕ) (at at' : ℕ → Parts) (r : Option (IndexEntry × ℕ)) (own : IsOwn len (suc l) id at) → IsGrown len len' l (the_kid e len l id at own) (grow l comes_before e) r at at' → at' id ≡ at id
node_stays e len len' l id at at' r own grown =
    let there = own_there len (suc l) id at own in
    let kid_none = kid_le e len l id at own len' r at' (grow l comes_before e) grown id in
    let self = under_self e len l id at own in
    grown.frame id there (omega arith)

-- the same as stored over the old node
pub grown_over : (e : IndexEntry) (len len1 len2 l id : ℕ) (at at' at2 : ℕ → Parts) (r0 r : Option (IndexEntry × ℕ)) (own : IsOwn len (suc l) id at) → IsGrown len len1 l (the_kid e len l id at own) (grow l comes_before e) r0 at at'
    → IsStoredIn len1 len2 (suc l) id (kid_lows e r0 (at' id).entries) (kid_ids e r0 (at' id).entries (at' id).children) r at' at2 → IsGrown len len2 (suc l) id (grow (suc l) comes_before e) r at at2
grown_over e len len1 len2 l id at at' at2 r0 r own grown s =
    let stays = node_stays e len len1 l id at at' r0 own grown in
    grown_some e len len1 len2 l id at at' at2 r0 own grown r
    (subst (λ (x : Parts). IsStoredIn len1 len2 (suc l) id (kid_lows e r0 x.entries) (kid_ids e r0 x.entries x.children) r at' at2) stays s)
