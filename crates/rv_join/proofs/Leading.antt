-- What is over the row that the first level gave last, through each change of the open levels.
use Rattle.std.proofs.Common.{◌≡◌, List, [], ◌∷◌, ◌++◌, Some, None, ap, ◌∙◌, subst, append_assoc}
use Rattle.std.specs.List.{Contains, flat_map}
use Rattle.std.specs.List.Sorted.{IsPermutation}
use Rattle.std.proofs.lemmas.List.Elements.{Contains-append_right}
use Rattle.std.proofs.lemmas.List.Sorted.{IsPermutation-refl, IsPermutation-sym, IsPermutation-append_comm, IsPermutation-append_left, IsPermutation-append_right, IsPermutation-trans, Contains-permutation}
use Rattle.std.proofs.lemmas.List.Concat.{flat_map-append}
use Rattle.std.proofs.lemmas.List.{append-nil}
use Rattle.rv_value.specs.declared.value.Value.{Value}
use Rattle.rv_model.specs.declared.state.Offer.{Offer}
use Rattle.rv_reader.specs.Shown.{Shown}
use Rattle.rv_join.specs.declared.places.Asked.{Asked}
use Rattle.rv_join.specs.declared.level.Level.{Level}
use Rattle.rv_join.specs.Levels.{given_in, over_held, over_rest, over_row, still}
use Rattle.rv_join.specs.Order.{Lead}

pub bag_more : (a : Asked) (shown : Shown) (ls : List Level) (l : Level) → flat_map (still a shown) (ls ++ l ∷ []) ≡ flat_map (still a shown) ls ++ still a shown l
bag_more a shown ls l = flat_map-append (still a shown) ls (l ∷ []) ∙ ap (λ x. flat_map (still a shown) ls ++ x) (append-nil (still a shown l))

-- an item of a permutation's part
pub stands_in : {A : Type 0} (xs more ys : List A) (d : A) → IsPermutation xs (more ++ ys) → Contains ys d → Contains xs d
stands_in xs more ys d p c = Contains-permutation (more ++ ys) xs d (IsPermutation-sym xs (more ++ ys) p) (Contains-append_right more ys d c)

-- what leads leads fewer
pub lead_less : (some others more here much there : List Offer) → IsPermutation some (more ++ here) → IsPermutation others (much ++ there) → Lead some others → Lead here there
lead_less some others more here much there p q led d e c i = led d e (stands_in some more here d p c) (stands_in others much there e q i)

-- the innermost level alone moves, under others
pub given_at : (a : Asked) (shown : Shown) (f : Level) (ls : List Level) (old new : Level) → IsPermutation (still a shown old) (still a shown new) → IsPermutation (given_in a shown (f ∷ ls) old) (given_in a shown (f ∷ ls) new)
given_at a shown f ls old new p = IsPermutation-append_right (over_held a shown f f.row) _ _ (IsPermutation-append_right (flat_map (still a shown) ls) (still a shown old) (still a shown new) p)

-- the innermost level is left
pub given_up : (a : Asked) (shown : Shown) (above : List Level) (l at : Level) → still a shown at ≡ [] → given_in a shown (above ++ l ∷ []) at ≡ given_in a shown above l
given_up a shown [] l at none = rw none (append-nil (over_held a shown l l.row))
given_up a shown (f ∷ ls) l at none = ap (λ x. over_held a shown f f.row ++ x) (rw (none, bag_more a shown ls l) (append-nil (flat_map (still a shown) ls ++ still a shown l)))

turned : {A : Type 0} (x y z : List A) → IsPermutation (x ++ (y ++ z)) ((x ++ z) ++ y)
turned x y z = rw (append_assoc x z y) (IsPermutation-append_right x (y ++ z) (z ++ y) (IsPermutation-append_comm y z))

-- an inner level is opened over the row that is held
pub given_down : (a : Asked) (shown : Shown) (above : List Level) (at inner : Level) → still a shown inner ≡ over_held a shown at at.row → IsPermutation (given_in a shown above at) (given_in a shown (above ++ (record at { row = None }) ∷ []) inner)
given_down a shown [] at inner is = rw is (IsPermutation-refl _)
given_down a shown (f ∷ ls) at inner is = IsPermutation-append_right (over_held a shown f f.row) _ _ (rw (bag_more a shown ls (record at { row = None }), is) (turned (flat_map (still a shown) ls) (over_held a shown at at.row) (over_rest a shown at)))

pub bag_down : (a : Asked) (shown : Shown) (above : List Level) (at inner : Level) → still a shown inner ≡ over_held a shown at at.row → IsPermutation (flat_map (still a shown) above ++ still a shown at) (flat_map (still a shown) (above ++ (record at { row = None }) ∷ []) ++ still a shown inner)
bag_down a shown above at inner is = rw (bag_more a shown above (record at { row = None }), is) (turned (flat_map (still a shown) above) (over_held a shown at at.row) (over_rest a shown at))

fronted : {A : Type 0} (x y z : List A) → IsPermutation (x ++ (y ++ z)) (y ++ (x ++ z))
fronted x y z = subst (λ l. IsPermutation (x ++ (y ++ z)) l) (append_assoc y x z) (subst (λ l. IsPermutation l ((y ++ x) ++ z)) (append_assoc x y z) (both x y z))
  where
    both : {A : Type 0} (x y z : List A) → IsPermutation ((x ++ y) ++ z) ((y ++ x) ++ z)
    both x y z = IsPermutation-append_left z (x ++ y) (y ++ x) (IsPermutation-append_comm x y)

-- the row that is held is used
pub given_used : (a : Asked) (shown : Shown) (above : List Level) (at : Level) (row : List Value) → at.row ≡ Some row → IsPermutation (given_in a shown above at) (over_row a shown at row ++ given_in a shown above (record at { row = None }))
given_used a shown [] at row e = rw (e, append-nil (over_row a shown at row)) (IsPermutation-refl _)
given_used a shown (f ∷ ls) at row e = rw e (IsPermutation-trans _ _ _ (IsPermutation-append_right (over_held a shown f f.row) _ _ (fronted (flat_map (still a shown) ls) (over_row a shown at row) (over_rest a shown at))) (fronted (over_held a shown f f.row) (over_row a shown at row) (flat_map (still a shown) ls ++ over_rest a shown at)))

pub bag_used : (a : Asked) (shown : Shown) (above : List Level) (at : Level) (row : List Value) → at.row ≡ Some row → IsPermutation (flat_map (still a shown) above ++ still a shown at) (over_row a shown at row ++ (flat_map (still a shown) above ++ still a shown (record at { row = None })))
bag_used a shown above at row e = rw e (fronted (flat_map (still a shown) above) (over_row a shown at row) (over_rest a shown at))
