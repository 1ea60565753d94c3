-- What an insertion does to the entries of a tree.
use Rattle.std.proofs.Common.{ℕ, zero, suc, true, false, inl, inr, ◌≡◌, List, [], ◌∷◌, ◌++◌, length, take, drop, Option, Some, Bool, leb, refl, ap, sym, ◌∙◌, append_assoc, append-nil, take-append-drop}
use Rattle.std.specs.Prelude.{flat_map}
use Rattle.std.specs.List.{AllByRecursion}
use Rattle.std.proofs.lemmas.Bool.{cases_Bool}
use Rattle.std.specs.Cmp.{IsStrictWeakOrder}
use Rattle.std.proofs.lemmas.Grind.{flat_map-append}
use Rattle.rv_value.proofs.Lists.{all_more}
use Rattle.rv_node.specs.Trees.{Tree, entries_in, placed, halves, cut_at, change, change_from, up_to, grow}
use Rattle.rv_node.specs.Sound.{AtLeast, Below, Kids, KidsFrom, IsTree}
use Rattle.rv_node.proofs.Orders.{lt_le}
use Rattle.rv_node.proofs.Bounds.{entries_within, kids_within}

-- what is spread over the halves is what was
spread_cut : {E X Y : Type 0} (low : X → E) (F : List X → List Y) → F [] ≡ [] → (xs : List X) → flat_map (λ q. F q.1) (cut_at low xs) ≡ F xs
spread_cut low F none [] = sym none
spread_cut low F none (x ∷ xs) = append-nil (F (x ∷ xs))

pub halves_spread : {E X Y : Type 0} (low : X → E) (F : List X → List Y) → F [] ≡ [] → ((xs ys : List X) → F (xs ++ ys) ≡ F xs ++ F ys) → (xs : List X)
    → F (halves low xs).0 ++ flat_map (λ q. F q.1) (halves low xs).1 ≡ F xs
halves_spread low F none joins xs = elim (cases_Bool (leb (length xs) 32)) [
  | inl small ↦ rw small (append-nil (F xs))
  | inr big ↦ rw big (rw (spread_cut low F none (drop 16 xs)) (sym (joins (take 16 xs) (drop 16 xs)) ∙ ap F (take-append-drop 16 xs)))
]

module _ {E : Type 0} (lt : E → E → Bool) (o : IsStrictWeakOrder lt) (e : E) where
  placed-skip : (xs ys : List E) → AllByRecursion (λ x. lt x e ≡ true) xs → placed lt e (xs ++ ys) ≡ xs ++ placed lt e ys
  placed-skip [] ys a = refl
  placed-skip (x ∷ xs) ys a = rw a.0 (ap (λ zs. x ∷ zs) (placed-skip xs ys a.1))

  placed-first : (ys : List E) → AllByRecursion (λ x. lt x e ≡ false) ys → placed lt e ys ≡ e ∷ ys
  placed-first [] a = refl
  placed-first (y ∷ ys) a = rw a.0 refl

  placed-here : (xs ys : List E) → AllByRecursion (λ x. lt x e ≡ false) ys → placed lt e (xs ++ ys) ≡ placed lt e xs ++ ys
  placed-here [] ys a = placed-first ys a
  placed-here (x ∷ xs) ys a = elim (cases_Bool (lt x e)) [
    | inl past ↦ rw past (ap (λ zs. x ∷ zs) (placed-here xs ys a))
    | inr here ↦ rw here refl
  ]

  -- the entries after a change of one child
  changed_entries : {T : Type 0} (P : Option E → Option E → T → Type 0) (ent : T → List E) (f : T → T × List (E × T))
      → ((low high : Option E) (t : T) → P low high t → AllByRecursion (λ x. AtLeast lt low x × Below lt x high) (ent t))
      → ((low high : Option E) (t : T) → P low high t → ent (f t).0 ++ flat_map (λ q. ent q.1) (f t).1 ≡ placed lt e (ent t))
      → (low high : Option E) (t : T) (kids : List (E × T)) → KidsFrom lt P low high t kids
      → ent (change_from (up_to lt e) f t kids).0 ++ flat_map (λ q. ent q.1) (change_from (up_to lt e) f t kids).1 ≡ placed lt e (ent t ++ flat_map (λ q. ent q.1) kids)
  changed_entries P ent f each step low high t [] k = rw (append-nil (ent t)) (step low high t k)
  changed_entries P ent f each step low high t (kid ∷ kids) k = elim (cases_Bool (lt e kid.0)) [
    | inl stops ↦
        let later = all_more (λ x. AtLeast lt (Some kid.0) x × Below lt x high) (λ x. lt x e ≡ false) (λ x w. o.one_way e x (lt_le lt o e kid.0 x stops w.0)) (ent kid.1 ++ flat_map (λ q. ent q.1) kids) (kids_within lt o P ent each (Some kid.0) high kid.1 kids k.3) in
        rw stops (rw (flat_map-append (λ q. ent q.1) (f t).1 (kid ∷ kids), ← append_assoc (ent (f t).0) (flat_map (λ q. ent q.1) (f t).1) (ent kid.1 ++ flat_map (λ q. ent q.1) kids), step low (Some kid.0) t k.0)
        (sym (placed-here (ent t) (ent kid.1 ++ flat_map (λ q. ent q.1) kids) later)))
    | inr goes_on ↦
        let earlier = all_more (λ x. AtLeast lt low x × Below lt x (Some kid.0)) (λ x. lt x e ≡ true) (λ x w. lt_le lt o x kid.0 e w.1 goes_on) (ent t) (each low (Some kid.0) t k.0) in
        let more = changed_entries P ent f each step (Some kid.0) high kid.1 kids k.3 in
        rw goes_on (rw more (sym (placed-skip (ent t) (ent kid.1 ++ flat_map (λ q. ent q.1) kids) earlier)))
  ]

  all_changed_entries : {T : Type 0} (P : Option E → Option E → T → Type 0) (ent : T → List E) (f : T → T × List (E × T))
      → ((low high : Option E) (t : T) → P low high t → AllByRecursion (λ x. AtLeast lt low x × Below lt x high) (ent t))
      → ((low high : Option E) (t : T) → P low high t → ent (f t).0 ++ flat_map (λ q. ent q.1) (f t).1 ≡ placed lt e (ent t))
      → (low high : Option E) (kids : List (E × T)) → Kids lt P low high kids
      → flat_map (λ q. ent q.1) (change (up_to lt e) f kids) ≡ placed lt e (flat_map (λ q. ent q.1) kids)
  all_changed_entries P ent f each step low high [] k = absurd k
  all_changed_entries P ent f each step low high (kid ∷ kids) k = changed_entries P ent f each step low high kid.1 kids k

  -- an insertion puts the entry in its place
  pub grown_entries : (level : ℕ) (low high : Option E) (t : Tree E level) → IsTree level lt low high t
      → entries_in level (grow level lt e t).0 ++ flat_map (λ q. entries_in level q.1) (grow level lt e t).1 ≡ placed lt e (entries_in level t)
  grown_entries zero low high t k = halves_spread (λ x. x) (λ xs. xs) refl (λ xs ys. refl) (placed lt e t)
  grown_entries (suc level) low high t k =
      halves_spread (λ kid. kid.0) (flat_map (λ kid. entries_in level kid.1)) refl (flat_map-append (λ kid. entries_in level kid.1)) (change (up_to lt e) (grow level lt e) t)
      ∙ all_changed_entries (IsTree level lt) (entries_in level) (grow level lt e) (entries_within lt o level) (grown_entries level) low high t k.0
