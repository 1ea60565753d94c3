-- The entries of a tree ascend, and so do its cuts.
use Rattle.std.proofs.Common.{ℕ, zero, suc, true, false, ◌≡◌, List, [], ◌∷◌, ◌++◌, Option, Some, Bool, refl, append-nil}
use Rattle.std.specs.Prelude.{flat_map}
use Rattle.std.specs.Cmp.{IsStrictWeakOrder}
use Rattle.std.specs.List.{AllByRecursion, list_all}
use Rattle.std.proofs.lemmas.List.Folds.{list_all-append}
use Rattle.std.proofs.lemmas.Bool.{and_parts}
use Rattle.rv_value.proofs.Lists.{all_more}
use Rattle.rv_rows.specs.Rising.{Rising}
use Rattle.rv_node.specs.Trees.{Tree, entries_in, cuts_in, cuts_under}
use Rattle.rv_node.specs.Sound.{AtLeast, Above, Below, LeafIn, Kids, KidsFrom, IsTree}
use Rattle.rv_node.proofs.Orders.{lt_le, lt_trans, irrefl}
use Rattle.rv_node.proofs.Bounds.{entries_within, kids_within, cuts_within, kid_cuts_within}

pub list_all-of : {X : Type 0} (p : X → Bool) (xs : List X) → AllByRecursion (λ x. p x ≡ true) xs → list_all p xs ≡ true
list_all-of p [] a = refl
list_all-of p (x ∷ xs) a = rw a.0 (list_all-of p xs a.1)

pub All-of : {X : Type 0} (p : X → Bool) (xs : List X) → list_all p xs ≡ true → AllByRecursion (λ x. p x ≡ true) xs
All-of p [] h = tt
All-of p (x ∷ xs) h = let parts = and_parts (p x) (list_all p xs) h in (parts.0, All-of p xs parts.1)

module _ {E : Type 0} (lt : E → E → Bool) (o : IsStrictWeakOrder lt) where
  -- two lists on either side of an entry
  rising_append : (k : E) (xs ys : List E) → AllByRecursion (λ x. lt x k ≡ true) xs → AllByRecursion (λ y. lt y k ≡ false) ys → Rising lt xs → Rising lt ys → Rising lt (xs ++ ys)
  rising_append k [] ys below from rx ry = ry
  rising_append k (x ∷ xs) ys below from rx ry =
      let behind : list_all (lt x) ys ≡ true = list_all-of (lt x) ys (all_more (λ y. lt y k ≡ false) (λ y. lt x y ≡ true) (λ y f. lt_le lt o x k y below.0 f) ys from) in
      (rw (list_all-append (lt x) xs ys, rx.0) behind, rising_append k xs ys below.1 from rx.1 ry)

  pub all_behind : (x y : E) (ys : List E) → lt x y ≡ true → list_all (lt y) ys ≡ true → list_all (lt x) ys ≡ true
  all_behind x y ys l all = list_all-of (lt x) ys (all_more (λ z. lt y z ≡ true) (λ z. lt x z ≡ true) (λ z m. lt_trans lt o x y z l m) ys (All-of (lt y) ys all))

  leaf_rising : (low high : Option E) (es : List E) → LeafIn lt low high es → Rising lt es
  leaf_rising low high [] l = tt
  leaf_rising low high (e ∷ []) l = (refl, tt)
  leaf_rising low high (e ∷ x ∷ xs) l =
      let rest = leaf_rising low high (x ∷ xs) l.3 in
      let behind = all_behind e x xs l.2 rest.0 in
      (rw l.2 behind, rest)

  kids_rising : {T : Type 0} (P : Option E → Option E → T → Type 0) (f : T → List E)
      → ((low high : Option E) (t : T) → P low high t → AllByRecursion (λ x. AtLeast lt low x × Below lt x high) (f t))
      → ((low high : Option E) (t : T) → P low high t → Rising lt (f t))
      → (low high : Option E) (t : T) (kids : List (E × T)) → KidsFrom lt P low high t kids → Rising lt (f t ++ flat_map (λ kid. f kid.1) kids)
  kids_rising P f each step low high t [] k = rw (append-nil (f t)) (step low high t k)
  kids_rising P f each step low high t (kid ∷ kids) k =
      let rest = f kid.1 ++ flat_map (λ q. f q.1) kids in
      rising_append kid.0 (f t) rest
      (all_more (λ x. AtLeast lt low x × Below lt x (Some kid.0)) (λ x. lt x kid.0 ≡ true) (λ x w. w.1) (f t) (each low (Some kid.0) t k.0))
      (all_more (λ x. AtLeast lt (Some kid.0) x × Below lt x high) (λ x. lt x kid.0 ≡ false) (λ x w. w.0) rest (kids_within lt o P f each (Some kid.0) high kid.1 kids k.3))
      (step low (Some kid.0) t k.0) (kids_rising P f each step (Some kid.0) high kid.1 kids k.3)

  all_kids_rising : {T : Type 0} (P : Option E → Option E → T → Type 0) (f : T → List E)
      → ((low high : Option E) (t : T) → P low high t → AllByRecursion (λ x. AtLeast lt low x × Below lt x high) (f t))
      → ((low high : Option E) (t : T) → P low high t → Rising lt (f t))
      → (low high : Option E) (kids : List (E × T)) → Kids lt P low high kids → Rising lt (flat_map (λ kid. f kid.1) kids)
  all_kids_rising P f each step low high [] k = tt
  all_kids_rising P f each step low high (kid ∷ kids) k = kids_rising P f each step low high kid.1 kids k

  pub entries_rising : (level : ℕ) (low high : Option E) (t : Tree E level) → IsTree level lt low high t → Rising lt (entries_in level t)
  entries_rising zero low high t k = leaf_rising low high t k.0
  entries_rising (suc level) low high t k = all_kids_rising (IsTree level lt) (entries_in level) (entries_within lt o level) (entries_rising level) low high t k.0

  kid_cuts_rising : {T : Type 0} (P : Option E → Option E → T → Type 0) (f : T → List E)
      → ((low high : Option E) (t : T) → P low high t → AllByRecursion (λ x. Above lt low x × Below lt x high) (f t))
      → ((low high : Option E) (t : T) → P low high t → Rising lt (f t))
      → (low high : Option E) (t : T) (kids : List (E × T)) → KidsFrom lt P low high t kids → Rising lt (f t ++ flat_map (λ kid. kid.0 ∷ f kid.1) kids)
  kid_cuts_rising P f each step low high t [] k = rw (append-nil (f t)) (step low high t k)
  kid_cuts_rising P f each step low high t (kid ∷ kids) k =
      let rest = f kid.1 ++ flat_map (λ q. q.0 ∷ f q.1) kids in
      let above = all_more (λ x. Above lt (Some kid.0) x × Below lt x high) (λ x. lt kid.0 x ≡ true) (λ x w. w.0) rest (kid_cuts_within lt o P f each (Some kid.0) high kid.1 kids k.3) in
      rising_append kid.0 (f t) (kid.0 ∷ rest)
      (all_more (λ x. Above lt low x × Below lt x (Some kid.0)) (λ x. lt x kid.0 ≡ true) (λ x w. w.1) (f t) (each low (Some kid.0) t k.0))
      (irrefl lt o kid.0, all_more (λ x. lt kid.0 x ≡ true) (λ x. lt x kid.0 ≡ false) (λ x w. o.one_way kid.0 x w) rest above)
      (step low (Some kid.0) t k.0) (list_all-of (lt kid.0) rest above, kid_cuts_rising P f each step (Some kid.0) high kid.1 kids k.3)

  all_cuts_rising : {T : Type 0} (P : Option E → Option E → T → Type 0) (f : T → List E)
      → ((low high : Option E) (t : T) → P low high t → AllByRecursion (λ x. Above lt low x × Below lt x high) (f t))
      → ((low high : Option E) (t : T) → P low high t → Rising lt (f t))
      → (low high : Option E) (kids : List (E × T)) → Kids lt P low high kids → Rising lt (cuts_under f kids)
  all_cuts_rising P f each step low high [] k = tt
  all_cuts_rising P f each step low high (kid ∷ kids) k = kid_cuts_rising P f each step low high kid.1 kids k

  pub cuts_rising : (level : ℕ) (low high : Option E) (t : Tree E level) → IsTree level lt low high t → Rising lt (cuts_in level t)
  cuts_rising zero low high t k = tt
  cuts_rising (suc level) low high t k = all_cuts_rising (IsTree level lt) (cuts_in level) (cuts_within lt o level) (cuts_rising level) low high t k.0
