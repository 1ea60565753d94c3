-- What a deletion does to a tree.
use Rattle.std.proofs.Common.{ℕ, zero, suc, true, inl, inr, ◌≡◌, List, [], ◌∷◌, ◌++◌, length, Option, Some, Bool, refl, ap, sym, ◌∙◌, arith, append-nil}
use Rattle.std.specs.Prelude.{filter, flat_map}
use Rattle.std.specs.List.{AllByRecursion}
use Rattle.std.proofs.lemmas.Bool.{cases_Bool, or_right}
use Rattle.std.specs.Cmp.{IsStrictWeakOrder}
use Rattle.std.proofs.lemmas.List.Elements.{filter-append}
use Rattle.rv_value.proofs.Lists.{all_more, filter_length}
use Rattle.rv_node.specs.Trees.{Tree, entries_in, change, change_from, up_to, shrink, differs}
use Rattle.rv_node.specs.Sound.{AtLeast, Below, Precedes, LeafIn, Kids, KidsFrom, IsTree}
use Rattle.rv_node.proofs.Orders.{lt_trans, lt_le}
use Rattle.rv_node.proofs.Bounds.{entries_within, kids_within}
use Rattle.rv_node.proofs.Lists.{filter-all}

module _ {E : Type 0} (lt : E → E → Bool) (o : IsStrictWeakOrder lt) (e : E) where
  below_differs : (x : E) → lt x e ≡ true → differs lt e x ≡ true
  below_differs x l = rw l refl

  above_differs : (x : E) → lt e x ≡ true → differs lt e x ≡ true
  above_differs x l = or_right (lt x e) (lt e x) l

  module _ {T : Type 0} (P : Option E → Option E → T → Type 0) (ent : T → List E) (f : T → T)
      (each : (low high : Option E) (t : T) → P low high t → AllByRecursion (λ x. AtLeast lt low x × Below lt x high) (ent t))
      (step : (low high : Option E) (t : T) → P low high t → (ent (f t) ≡ filter (differs lt e) (ent t)) × P low high (f t)) where
    shrunk_kids : (low high : Option E) (t : T) (kids : List (E × T)) → KidsFrom lt P low high t kids
        → (ent (change_from (up_to lt e) (λ t. (f t, [])) t kids).0 ++ flat_map (λ q. ent q.1) (change_from (up_to lt e) (λ t. (f t, [])) t kids).1 ≡ filter (differs lt e) (ent t ++ flat_map (λ q. ent q.1) kids))
        × KidsFrom lt P low high (change_from (up_to lt e) (λ t. (f t, [])) t kids).0 (change_from (up_to lt e) (λ t. (f t, [])) t kids).1
        × (length (change_from (up_to lt e) (λ t. (f t, [])) t kids).1 ≡ length kids)
    shrunk_kids low high t [] k = let s = step low high t k in (append-nil (ent (f t)) ∙ s.0 ∙ ap (filter (differs lt e)) (sym (append-nil (ent t))), s.1, refl)
    shrunk_kids low high t (kid ∷ kids) k = elim (cases_Bool (lt e kid.0)) [
      | inl stops ↦
          let s = step low (Some kid.0) t k.0 in
          let rest = ent kid.1 ++ flat_map (λ q. ent q.1) kids in
          let stays = filter-all (differs lt e) rest (all_more (λ x. AtLeast lt (Some kid.0) x × Below lt x high) (λ x. differs lt e x ≡ true) (λ x w. above_differs x (lt_le lt o e kid.0 x stops w.0)) rest (kids_within lt o P ent each (Some kid.0) high kid.1 kids k.3)) in
          rw stops (ap (λ xs. xs ++ rest) s.0 ∙ ap (λ xs. filter (differs lt e) (ent t) ++ xs) (sym stays) ∙ sym (filter-append (differs lt e) (ent t) rest), (s.1, k.1, k.2, k.3), refl)
      | inr goes_on ↦
          let more = shrunk_kids (Some kid.0) high kid.1 kids k.3 in
          let rest = ent kid.1 ++ flat_map (λ q. ent q.1) kids in
          let stays = filter-all (differs lt e) (ent t) (all_more (λ x. AtLeast lt low x × Below lt x (Some kid.0)) (λ x. differs lt e x ≡ true) (λ x w. below_differs x (lt_le lt o x kid.0 e w.1 goes_on)) (ent t) (each low (Some kid.0) t k.0)) in
          rw goes_on (ap (λ xs. ent t ++ xs) more.0 ∙ ap (λ xs. xs ++ filter (differs lt e) rest) (sym stays) ∙ sym (filter-append (differs lt e) (ent t) rest), (k.0, k.1, k.2, more.1), ap suc more.2)
    ]

    all_shrunk : (low high : Option E) (kids : List (E × T)) → Kids lt P low high kids
        → (flat_map (λ q. ent q.1) (change (up_to lt e) (λ t. (f t, [])) kids) ≡ filter (differs lt e) (flat_map (λ q. ent q.1) kids)) × Kids lt P low high (change (up_to lt e) (λ t. (f t, [])) kids)
        × (length (change (up_to lt e) (λ t. (f t, [])) kids) ≡ length kids)
    all_shrunk low high [] k = absurd k
    all_shrunk low high (kid ∷ kids) k = let s = shrunk_kids low high kid.1 kids k in (s.0, s.1, ap suc s.2)

  Precedes-more : (x y : E) (ys : List E) → lt x y ≡ true → Precedes lt y ys → Precedes lt x ys
  Precedes-more x y [] l p = tt
  Precedes-more x y (z ∷ zs) l p = lt_trans lt o x y z l p

  Precedes-filter : (p : E → Bool) (low high : Option E) (x : E) (es : List E) → LeafIn lt low high es → Precedes lt x es → Precedes lt x (filter p es)
  Precedes-filter p low high x [] l q = tt
  Precedes-filter p low high x (y ∷ ys) l q = elim (cases_Bool (p y)) [
    | inl stays ↦ rw stays q
    | inr goes ↦ rw goes (Precedes-filter p low high x ys l.3 (Precedes-more x y ys q l.2))
  ]

  LeafIn-filter : (p : E → Bool) (low high : Option E) (es : List E) → LeafIn lt low high es → LeafIn lt low high (filter p es)
  LeafIn-filter p low high [] l = tt
  LeafIn-filter p low high (x ∷ xs) l = elim (cases_Bool (p x)) [
    | inl stays ↦ rw stays (l.0, l.1, Precedes-filter p low high x xs l.3 l.2, LeafIn-filter p low high xs l.3)
    | inr goes ↦ rw goes (LeafIn-filter p low high xs l.3)
  ]

  -- a deletion takes the entry away, and keeps the tree sound
  pub shrunk : (level : ℕ) (low high : Option E) (t : Tree E level) → IsTree level lt low high t
      → (entries_in level (shrink level lt e t) ≡ filter (differs lt e) (entries_in level t)) × IsTree level lt low high (shrink level lt e t)
  shrunk zero low high t k = let small = k.1 in (refl, (LeafIn-filter (differs lt e) low high t k.0, omega (arith, filter_length (differs lt e) t)))
  shrunk (suc level) low high t k =
      let small = k.1 in
      let s = all_shrunk (IsTree level lt) (entries_in level) (shrink level lt e) (entries_within lt o level) (shrunk level) low high t k.0 in
      let same = s.2 in
      (s.0, (s.1, omega arith))
