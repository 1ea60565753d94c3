-- Facts of each two items of a list.
use Rattle.std.proofs.Common.{◌≡◌, ℕ, zero, suc, ◌+◌, List, [], ◌∷◌, ◌++◌, Some, None, Bool, true, false, cond, nat_lt, not, length, filter, is_some, refl, sym, ◌∙◌, arith, if◌then◌else◌}
use Rattle.std.proofs.lemmas.Bool.Decides.{nat_tests}
use Rattle.std.specs.Prelude.{slice_set, remove, position}
use Rattle.std.specs.List.{AllByRecursion, slice_index_or, position_or_len}
use Rattle.std.proofs.lemmas.Bool.{lt-ltb}
use Rattle.rv_value.proofs.Lists.{all_filter, all_more, all_last, all_remove}
use Rattle.rv_believed.specs.Orderly.{EachTwo}

pub two_last : {X : Type 0} (R : X → X → Type 0) (xs : List X) (y : X) → EachTwo R xs → AllByRecursion (λ x. R x y) xs → EachTwo R (xs ++ y ∷ [])
two_last R [] y h a = (tt, tt)
two_last R (x ∷ xs) y h a = (all_last (R x) xs y h.0 a.0, two_last R xs y h.1 a.1)

kept_two : {X : Type 0} (R : X → X → Type 0) (x : X) (xs : List X) (b : Bool) → AllByRecursion (R x) xs → EachTwo R xs → EachTwo R (if b then x ∷ xs else xs)
kept_two R x xs true a h = (a, h)
kept_two R x xs false a h = h

pub two_filter : {X : Type 0} (R : X → X → Type 0) (p : X → Bool) (xs : List X) → EachTwo R xs → EachTwo R (filter p xs)
two_filter R p [] h = tt
two_filter R p (x ∷ xs) h = kept_two R x (filter p xs) (p x) (all_filter (R x) p xs h.0) (two_filter R p xs h.1)

pub two_without : {X : Type 0} (R : X → X → Type 0) (xs : List X) (n : ℕ) → EachTwo R xs → EachTwo R (remove xs n)
two_without R [] zero h = tt
two_without R [] (suc n) h = tt
two_without R (x ∷ xs) zero h = h.1
two_without R (x ∷ xs) (suc n) h = (all_remove (R x) xs n h.0, two_without R xs n h.1)

-- an item in the place of one
pub all_put : {X : Type 0} (P : X → Type 0) (xs : List X) (n : ℕ) (x d : X) → AllByRecursion P xs → (P (slice_index_or xs n d) → P x) → AllByRecursion P (slice_set xs n x)
all_put P [] n x d h f = tt
all_put P (y ∷ xs) zero x d h f = (f h.0, h.1)
all_put P (y ∷ xs) (suc n) x d h f = (h.0, all_put P xs n x d h.1 f)

pub two_put : {X : Type 0} (R : X → X → Type 0) (xs : List X) (n : ℕ) (x d : X) → EachTwo R xs
    → ((y : X) → R y (slice_index_or xs n d) → R y x) → ((y : X) → R (slice_index_or xs n d) y → R x y) → EachTwo R (slice_set xs n x)
two_put R [] n x d h f g = tt
two_put R (y ∷ xs) zero x d h f g = (all_more (R y) (R x) g xs h.0, h.1)
two_put R (y ∷ xs) (suc n) x d h f g = (all_put (R y) xs n x d h.0 (f y), two_put R xs n x d h.1 f g)

-- without the item in one place, lists of one length are of one length
pub without_same : {X Y : Type 0} (xs : List X) (ys : List Y) (n : ℕ) → length xs ≡ length ys → length (remove xs n) ≡ length (remove ys n)
without_same [] [] zero e = refl
without_same [] [] (suc n) e = refl
without_same [] (y ∷ ys) n e = absurd (omega (arith, e))
without_same (x ∷ xs) [] n e = absurd (omega (arith, e))
without_same (x ∷ xs) (y ∷ ys) zero e = omega (arith, e)
without_same (x ∷ xs) (y ∷ ys) (suc n) e = let rest : length (remove xs n) ≡ length (remove ys n) = without_same xs ys n (omega (arith, e)) in omega (arith, rest)

pub last_same : {X Y : Type 0} (xs : List X) (ys : List Y) (x : X) (y : Y) → length xs ≡ length ys → length (xs ++ x ∷ []) ≡ length (ys ++ y ∷ [])
last_same [] [] x y e = refl
last_same [] (z ∷ ys) x y e = absurd (omega (arith, e))
last_same (z ∷ xs) [] x y e = absurd (omega (arith, e))
last_same (z ∷ xs) (w ∷ ys) x y e = let rest : length (xs ++ x ∷ []) ≡ length (ys ++ y ∷ []) = last_same xs ys x y (omega (arith, e)) in omega (arith, rest)

-- ---- none passes, where none is found

is_none_at : (b : Bool) (n : ℕ) → is_some (cond b (Some n) None) ≡ false → b ≡ false
is_none_at true n e = absurd (cc e)
is_none_at false n e = refl

one_more : (m n : ℕ) → nat_lt (1 + m) (suc n) ≡ false → nat_lt m n ≡ false
one_more m n h = grind (arith, nat_tests)

none_here : {A : Type 0} (m n : ℕ) → (b : Bool) → nat_lt (cond (not b) (1 + m) 0) (suc n) ≡ false → (b ≡ false → nat_lt m n ≡ false → A) → A
none_here m n true h f = absurd (cc (sym (lt-ltb 0 (suc n) (omega arith)) ∙ h))
none_here m n false h f = f refl (one_more m n h)

none_from : {X : Type 0} (p : X → Bool) (xs : List X) → nat_lt (position_or_len p xs) (length xs) ≡ false → AllByRecursion (λ x. p x ≡ false) xs
none_from p [] h = tt
none_from p (x ∷ xs) h = none_here (position_or_len p xs) (length xs) (p x) h (λ e rest. (e, none_from p xs rest))

pub none_passes : {X : Type 0} (p : X → Bool) (xs : List X) → is_some (position p xs) ≡ false → AllByRecursion (λ x. p x ≡ false) xs
none_passes p xs h = none_from p xs (is_none_at (nat_lt (position_or_len p xs) (length xs)) (position_or_len p xs) h)
