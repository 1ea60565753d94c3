-- Lists that are put in order by insertions, over a total order in which only the same items compare as equal.
use Rattle.std.proofs.Common.{◌≡◌, ℕ, ◌+◌, ◌<◌, ◌≤◌, zero, suc, List, [], ◌∷◌, true, false, cond, refl, ap, sym, ◌∙◌, inl, inr, arith, length, swap, length-set}
use Rattle.std.proofs.lemmas.Bool.{cases_Bool}
use Rattle.std.proofs.lemmas.List.Sorted.{IsPermutation-keeps}
use Rattle.std.specs.List.{slice_index_or, slice_set}
use Rattle.std.specs.List.Sorted.{IsPermutation, IsSorted}
use Rattle.std.specs.Ordering.{is_lt, is_eq, ordering_reverse}
use Rattle.std.specs.Cmp.{IsTotalOrder, tied_itself}
use Rattle.std.specs.declared.cmp.Ordering.{Ordering}
use Rattle.std.specs.declared.cmp.Ordering.TheVariants.{Less, Equal, Greater}
use Rattle.rv_value.proofs.Tests.{less_other}

-- an order, an insertion before the first item that is not less, and a sort by insertions
pub record IsSort {X : Type 0} (cmp : X → X → Ordering) (put : X → List X → List X) (sorted : List X → List X) : Type 0 where
  pub total : IsTotalOrder cmp
  pub one : (a b : X) → cmp a b ≡ Equal → a ≡ b
  pub put_first : (a : X) → put a [] ≡ a ∷ []
  pub put_next : (a x : X) (xs : List X) → put a (x ∷ xs) ≡ cond (is_lt (cmp x a)) (x ∷ put a xs) (a ∷ x ∷ xs)
  pub none : sorted [] ≡ []
  pub more : (x : X) (xs : List X) → sorted (x ∷ xs) ≡ put x (sorted xs)

neither : (o p : Ordering) → o ≡ ordering_reverse p → is_lt o ≡ false → is_lt p ≡ false → o ≡ Equal
neither Less p e f g = cc
neither Equal p e f g = refl
neither Greater Less e f g = cc
neither Greater Equal e f g = cc
neither Greater Greater e f g = cc

pub lt_turned : (o p : Ordering) → o ≡ ordering_reverse p → is_lt o ≡ true → is_lt p ≡ false
lt_turned Less Less e f = cc
lt_turned Less Equal e f = cc
lt_turned Less Greater e f = refl
lt_turned Equal p e f = cc
lt_turned Greater p e f = cc

is_less : (o : Ordering) → is_lt o ≡ true → o ≡ Less
is_less Less e = refl
is_less Equal e = cc
is_less Greater e = cc

at_same : {X : Type 0} (xs : List X) (i : ℕ) (y d : X) → i < length xs → slice_index_or (slice_set xs i y) i d ≡ y
at_same [] i y d h = absurd (omega arith)
at_same (x ∷ xs) zero y d h = refl
at_same (x ∷ xs) (suc i) y d h = at_same xs i y d (omega arith)

-- the item in a place j after that of j was put into i
at_put : {X : Type 0} (xs : List X) (i j : ℕ) (d : X) → i < length xs → j < length xs → slice_index_or (slice_set xs i (slice_index_or xs j d)) j d ≡ slice_index_or xs j d
at_put [] i j d hi hj = absurd (omega arith)
at_put (x ∷ xs) zero zero d hi hj = refl
at_put (x ∷ xs) zero (suc j) d hi hj = refl
at_put (x ∷ xs) (suc i) zero d hi hj = refl
at_put (x ∷ xs) (suc i) (suc j) d hi hj = at_put xs i j d (omega arith) (omega arith)

-- without the first that is the same
abbrev taken : {X : Type 0} → (X → X → Ordering) → X → List X → List X
taken cmp o [] = []
taken cmp o (x ∷ xs) = cond (is_eq (cmp x o)) xs (x ∷ taken cmp o xs)

-- in order: no item is less than one before it
abbrev pub Rises : {X : Type 0} → (X → X → Ordering) → List X → Type 0
Rises {X} cmp xs = (k : ℕ) (d : X) → 0 ≤ k → k + 1 < length xs → is_lt (cmp (slice_index_or xs (k + 1) d) (slice_index_or xs k d)) ≡ false

pub rises_rest : {X : Type 0} (cmp : X → X → Ordering) (x : X) (xs : List X) → Rises cmp (x ∷ xs) → Rises cmp xs
rises_rest cmp x xs up k d low within =
    let e : suc k + 1 ≡ suc (k + 1) = omega arith in
    rw e at (up (suc k) d (omega arith) (omega arith))

module _ {X : Type 0} {cmp : X → X → Ordering} {put : X → List X → List X} {sorted : List X → List X} (s : IsSort cmp put sorted) where
  pub one_way : (a b : X) → is_lt (cmp a b) ≡ true → is_lt (cmp b a) ≡ false
  one_way a b h = lt_turned (cmp a b) (cmp b a) (s.total.antisymm a b) h

  -- of two items that are not less than each other
  pub same : (a b : X) → is_lt (cmp a b) ≡ false → is_lt (cmp b a) ≡ false → a ≡ b
  same a b f g = s.one a b (neither (cmp a b) (cmp b a) (s.total.antisymm a b) f g)

  follows : (x y z : X) → is_lt (cmp x y) ≡ true → is_lt (cmp y z) ≡ true → is_lt (cmp x z) ≡ true
  follows x y z h k = ap is_lt (s.total.trans x y z (is_less (cmp x y) h) (is_less (cmp y z) k))

  -- what is not less than x is less than what x is less than
  under : (a b x : X) → is_lt (cmp x a) ≡ false → is_lt (cmp x b) ≡ true → is_lt (cmp a b) ≡ true
  under a b x f t = elim (cases_Bool (is_lt (cmp a x))) [
    | inl h ↦ follows a x b h t
    | inr h ↦ let e : a ≡ x = same a x h f in ap (λ y. is_lt (cmp y b)) e ∙ t
  ]

  pair : (a b : X) (xs : List X) → cond (is_lt (cmp b a)) (b ∷ a ∷ xs) (a ∷ b ∷ xs) ≡ cond (is_lt (cmp a b)) (a ∷ b ∷ xs) (b ∷ a ∷ xs)
  pair a b xs = elim (cases_Bool (is_lt (cmp a b))) [
    | inl t ↦ rw (one_way a b t, t) refl
    | inr f ↦ elim (cases_Bool (is_lt (cmp b a))) [
      | inl t ↦ rw (t, f) refl
      | inr g ↦ rw (f, g) (let e = same a b f g in λ i. e i ∷ sym e i ∷ xs)
    ]
  ]

  -- the order in which two items are put in does not matter
  pub swap_in : (a b : X) (xs : List X) → put a (put b xs) ≡ put b (put a xs)
  swap_in a b [] = rw (s.put_first b, s.put_first a, s.put_next a b [], s.put_next b a [], s.put_first a, s.put_first b) (pair a b [])
  swap_in a b (x ∷ xs) = rw (s.put_next b x xs, s.put_next a x xs) (elim (cases_Bool (is_lt (cmp x b))) [
    | inl tb ↦ elim (cases_Bool (is_lt (cmp x a))) [
      | inl ta ↦ rw (tb, ta, s.put_next a x (put b xs), s.put_next b x (put a xs), ta, tb) (ap (λ ys. x ∷ ys) (swap_in a b xs))
      | inr fa ↦ rw (tb, fa, s.put_next a x (put b xs), s.put_next b a (x ∷ xs), fa, under a b x fa tb, s.put_next b x xs, tb) refl
    ]
    | inr fb ↦ elim (cases_Bool (is_lt (cmp x a))) [
      | inl ta ↦ rw (fb, ta, s.put_next a b (x ∷ xs), s.put_next b x (put a xs), fb, under b a x fb ta, s.put_next a x xs, ta) refl
      | inr fa ↦ rw (fb, fa, s.put_next a b (x ∷ xs), s.put_next b a (x ∷ xs), s.put_next a x xs, s.put_next b x xs, fa, fb) (pair a b (x ∷ xs))
    ]
  ])

  -- a list in order is sorted
  rising_sorted : (xs : List X) → Rises cmp xs → sorted xs ≡ xs
  rising_sorted [] up = s.none
  rising_sorted (x ∷ []) up = s.more x [] ∙ ap (put x) s.none ∙ s.put_first x
  rising_sorted (x ∷ y ∷ ys) up =
      let rest : sorted (y ∷ ys) ≡ y ∷ ys = rising_sorted (y ∷ ys) (rises_rest cmp x (y ∷ ys) up) in
      let first : is_lt (cmp y x) ≡ false = up 0 x (omega arith) (omega arith) in
      s.more x (y ∷ ys) ∙ ap (put x) rest ∙ s.put_next x y ys ∙ rw first refl

  -- what was put in can be taken out
  taken_in : (o : X) (xs : List X) → taken cmp o (put o xs) ≡ xs
  taken_in o [] = rw (s.put_first o, tied_itself s.total o) refl
  taken_in o (x ∷ xs) = rw (s.put_next o x xs) (elim (cases_Bool (is_lt (cmp x o))) [
    | inl h ↦ rw (h, less_other (cmp x o) h) (ap (λ ys. x ∷ ys) (taken_in o xs))
    | inr h ↦ rw (h, tied_itself s.total o) refl
  ])

  cancelled : (o : X) (xs ys : List X) → put o xs ≡ put o ys → xs ≡ ys
  cancelled o xs ys e = sym (taken_in o xs) ∙ ap (taken cmp o) e ∙ taken_in o ys

  -- another item in a place: the old one and the new one change sides
  set_sorted : (xs : List X) (i : ℕ) (y d : X) → i < length xs → put (slice_index_or xs i d) (sorted (slice_set xs i y)) ≡ put y (sorted xs)
  set_sorted [] i y d h = absurd (omega arith)
  set_sorted (x ∷ xs) zero y d h = ap (put x) (s.more y xs) ∙ swap_in x y (sorted xs) ∙ ap (put y) (sym (s.more x xs))
  set_sorted (x ∷ xs) (suc i) y d h =
      let z = slice_index_or xs i d in
      ap (put z) (s.more x (slice_set xs i y)) ∙ swap_in z x (sorted (slice_set xs i y)) ∙ ap (put x) (set_sorted xs i y d (omega arith)) ∙ swap_in x y (sorted xs)
      ∙ ap (put y) (sym (s.more x xs))

  -- what is swapped within a list is the same sorted
  swapped_sorted : (xs : List X) (i j : ℕ) → i < length xs → j < length xs → sorted (swap xs i j) ≡ sorted xs
  swapped_sorted [] i j hi hj = refl
  swapped_sorted (d ∷ ys) i j hi hj =
      let xs = d ∷ ys in
      let x = slice_index_or xs i d in
      let y = slice_index_or xs j d in
      let m = slice_set xs i y in
      let within : j < length m = rw (length-set xs i y) hj in
      let second : put (slice_index_or m j d) (sorted (slice_set m j x)) ≡ put x (sorted m) = set_sorted m j x d within in
      let first : put x (sorted m) ≡ put y (sorted xs) = set_sorted xs i y d hi in
      let there : slice_index_or m j d ≡ y = at_put xs i j d hi hj in
      cancelled y (sorted (slice_set m j x)) (sorted xs) (ap (λ o. put o (sorted (slice_set m j x))) (sym there) ∙ second ∙ first)

  -- the same items, each as often, are the same sorted
  pub sorted_moved : (xs ys : List X) → IsPermutation xs ys → sorted ys ≡ sorted xs
  sorted_moved xs ys moved = IsPermutation-keeps xs (λ (l : List X). sorted l ≡ sorted xs) refl (λ l i j hi hj h. swapped_sorted l i j hi hj ∙ h) ys moved

  -- A list in order with the items of another, each as often, is the other sorted.
  pub sorted_is : (xs ys : List X) → IsPermutation xs ys → IsSorted cmp ys → ys ≡ sorted xs
  sorted_is xs ys moved up = sym (rising_sorted ys up) ∙ sorted_moved xs ys moved
