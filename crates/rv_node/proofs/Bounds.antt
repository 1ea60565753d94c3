-- Every entry and every cut of a tree lies within its bounds.
use Rattle.std.proofs.Common.{ℕ, zero, suc, List, [], ◌∷◌, ◌++◌, Option, Some, Bool}
use Rattle.std.specs.Prelude.{flat_map}
use Rattle.std.specs.Cmp.{IsStrictWeakOrder}
use Rattle.std.specs.List.{AllByRecursion}
use Rattle.rv_value.proofs.Lists.{all_append, all_more}
use Rattle.rv_node.specs.Trees.{Tree, entries_in, cuts_in, cuts_under}
use Rattle.rv_node.specs.Sound.{AtLeast, Above, Below, LeafIn, Kids, KidsFrom, IsTree}
use Rattle.rv_node.proofs.Orders.{Below-weaker, AtLeast-weaker, Above-more}

module _ {E : Type 0} (lt : E → E → Bool) (o : IsStrictWeakOrder lt) where
  pub leaf_within : (low high : Option E) (es : List E) → LeafIn lt low high es → AllByRecursion (λ x. AtLeast lt low x × Below lt x high) es
  leaf_within low high [] l = tt
  leaf_within low high (e ∷ es) l = ((l.0, l.1), leaf_within low high es l.3)

  pub kids_within : {T : Type 0} (P : Option E → Option E → T → Type 0) (f : T → List E)
      → ((low high : Option E) (t : T) → P low high t → AllByRecursion (λ x. AtLeast lt low x × Below lt x high) (f t))
      → (low high : Option E) (t : T) (kids : List (E × T)) → KidsFrom lt P low high t kids
      → AllByRecursion (λ x. AtLeast lt low x × Below lt x high) (f t ++ flat_map (λ kid. f kid.1) kids)
  kids_within P f each low high t [] k = all_append _ (f t) [] (each low high t k) tt
  kids_within P f each low high t (kid ∷ kids) k =
      all_append (λ x. AtLeast lt low x × Below lt x high) (f t) (flat_map (λ kid. f kid.1) (kid ∷ kids))
      (all_more (λ x. AtLeast lt low x × Below lt x (Some kid.0)) (λ x. AtLeast lt low x × Below lt x high) (λ x w. (w.0, Below-weaker lt o x kid.0 high w.1 k.2)) (f t) (each low (Some kid.0) t k.0))
      (all_more (λ x. AtLeast lt (Some kid.0) x × Below lt x high) (λ x. AtLeast lt low x × Below lt x high) (λ x w. (AtLeast-weaker lt o x kid.0 low w.0 k.1, w.1)) (flat_map (λ kid. f kid.1) (kid ∷ kids)) (kids_within P f each (Some kid.0) high kid.1 kids k.3))

  all_kids_within : {T : Type 0} (P : Option E → Option E → T → Type 0) (f : T → List E)
      → ((low high : Option E) (t : T) → P low high t → AllByRecursion (λ x. AtLeast lt low x × Below lt x high) (f t))
      → (low high : Option E) (kids : List (E × T)) → Kids lt P low high kids
      → AllByRecursion (λ x. AtLeast lt low x × Below lt x high) (flat_map (λ kid. f kid.1) kids)
  all_kids_within P f each low high [] k = tt
  all_kids_within P f each low high (kid ∷ kids) k = kids_within P f each low high kid.1 kids k

  pub entries_within : (level : ℕ) (low high : Option E) (t : Tree E level) → IsTree level lt low high t → AllByRecursion (λ x. AtLeast lt low x × Below lt x high) (entries_in level t)
  entries_within zero low high t k = leaf_within low high t k.0
  entries_within (suc level) low high t k = all_kids_within (IsTree level lt) (entries_in level) (entries_within level) low high t k.0

  pub kid_cuts_within : {T : Type 0} (P : Option E → Option E → T → Type 0) (f : T → List E)
      → ((low high : Option E) (t : T) → P low high t → AllByRecursion (λ x. Above lt low x × Below lt x high) (f t))
      → (low high : Option E) (t : T) (kids : List (E × T)) → KidsFrom lt P low high t kids
      → AllByRecursion (λ x. Above lt low x × Below lt x high) (f t ++ flat_map (λ kid. kid.0 ∷ f kid.1) kids)
  kid_cuts_within P f each low high t [] k = all_append _ (f t) [] (each low high t k) tt
  kid_cuts_within P f each low high t (kid ∷ kids) k =
      all_append (λ x. Above lt low x × Below lt x high) (f t) (flat_map (λ kid. kid.0 ∷ f kid.1) (kid ∷ kids))
      (all_more (λ x. Above lt low x × Below lt x (Some kid.0)) (λ x. Above lt low x × Below lt x high) (λ x w. (w.0, Below-weaker lt o x kid.0 high w.1 k.2)) (f t) (each low (Some kid.0) t k.0))
      ((k.1, k.2), all_more (λ x. Above lt (Some kid.0) x × Below lt x high) (λ x. Above lt low x × Below lt x high) (λ x w. (Above-more lt o low kid.0 x k.1 w.0, w.1)) (f kid.1 ++ flat_map (λ kid. kid.0 ∷ f kid.1) kids) (kid_cuts_within P f each (Some kid.0) high kid.1 kids k.3))

  all_cuts_within : {T : Type 0} (P : Option E → Option E → T → Type 0) (f : T → List E)
      → ((low high : Option E) (t : T) → P low high t → AllByRecursion (λ x. Above lt low x × Below lt x high) (f t))
      → (low high : Option E) (kids : List (E × T)) → Kids lt P low high kids
      → AllByRecursion (λ x. Above lt low x × Below lt x high) (cuts_under f kids)
  all_cuts_within P f each low high [] k = tt
  all_cuts_within P f each low high (kid ∷ kids) k = kid_cuts_within P f each low high kid.1 kids k

  pub cuts_within : (level : ℕ) (low high : Option E) (t : Tree E level) → IsTree level lt low high t → AllByRecursion (λ x. Above lt low x × Below lt x high) (cuts_in level t)
  cuts_within zero low high t k = tt
  cuts_within (suc level) low high t k = all_cuts_within (IsTree level lt) (cuts_in level) (cuts_within level) low high t k.0
