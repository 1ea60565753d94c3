-- A list whose last element is taken away.
use Rattle.std.proofs.Common.{◌≡◌, ℕ, zero, suc, ◌+◌, ◌<◌, List, [], ◌∷◌, ◌++◌, arith, length, All}
use Rattle.std.specs.List.{slice_index_or}

module _ {X : Type 0} where
  pub all_front : (P : X → Type 0) (xs : List X) (x : X) → All P (xs ++ x ∷ []) → All P xs
  all_front P [] x all k d below = absurd (omega arith)
  all_front P (y ∷ ys) x all zero d below = all 0 d (omega arith)
  all_front P (y ∷ ys) x all (suc k) d below = all_front P ys x (λ j e h. all (suc j) e (omega arith)) k d (omega arith)

  pub all_last : (P : X → Type 0) (xs : List X) (x : X) → All P (xs ++ x ∷ []) → P x
  all_last P [] x all = all 0 x (omega arith)
  all_last P (y ∷ ys) x all = all_last P ys x (λ j e h. all (suc j) e (omega arith))

  pub all_push : (P : X → Type 0) (xs : List X) (x : X) → All P xs → P x → All P (xs ++ x ∷ [])
  all_push P [] x all here zero d below = here
  all_push P [] x all here (suc k) d below = absurd (omega arith)
  all_push P (y ∷ ys) x all here zero d below = all 0 d (omega arith)
  all_push P (y ∷ ys) x all here (suc k) d below = all_push P ys x (λ j e h. all (suc j) e (omega arith)) here k d (omega arith)

  -- elements that are numbered in their order, from a number on
  abbrev Numbered : (X → ℕ) → ℕ → List X → Type 0
  Numbered f first xs = (k : ℕ) (d : X) → k < length xs → f (slice_index_or xs k d) ≡ first + k

  pub numbers_front : (f : X → ℕ) (first : ℕ) (xs : List X) (x : X) → Numbered f first (xs ++ x ∷ []) → Numbered f first xs
  numbers_front f first [] x h k d below = absurd (omega arith)
  numbers_front f first (y ∷ ys) x h zero d below = h 0 d (omega arith)
  numbers_front f first (y ∷ ys) x h (suc k) d below =
      let rest = numbers_front f (first + 1) ys x (λ j e l. let at = h (suc j) e (omega arith) in omega arith) k d (omega arith) in
      omega arith

  pub number_last : (f : X → ℕ) (first : ℕ) (xs : List X) (x : X) → Numbered f first (xs ++ x ∷ []) → f x ≡ first + length xs
  number_last f first [] x h = h 0 x (omega arith)
  number_last f first (y ∷ ys) x h =
      let rest = number_last f (first + 1) ys x (λ j e l. let at = h (suc j) e (omega arith) in omega arith) in
      omega arith

  -- the same of elements that are numbered from zero on
  pub number_is : (f : X → ℕ) (xs : List X) (x : X) → ((k : ℕ) (d : X) → k < length (xs ++ x ∷ []) → f (slice_index_or (xs ++ x ∷ []) k d) ≡ k) → f x ≡ length xs
  number_is f xs x h = let last = number_last f 0 xs x (λ k d b. let at = h k d b in omega arith) in omega arith

  pub numbers_rest : (f : X → ℕ) (xs : List X) (x : X) → ((k : ℕ) (d : X) → k < length (xs ++ x ∷ []) → f (slice_index_or (xs ++ x ∷ []) k d) ≡ k) → (k : ℕ) (d : X) → k < length xs → f (slice_index_or xs k d) ≡ k
  numbers_rest f xs x h k d below = let rest = numbers_front f 0 xs x (λ k d b. let at = h k d b in omega arith) k d below in omega arith
