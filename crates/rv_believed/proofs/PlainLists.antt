-- Facts of all items of a list, through what is made of lists.
use Rattle.std.proofs.Common.{◌≡◌, ℕ, suc, ◌+◌, List, [], ◌∷◌, Option, Some, None, Bool, true, false, not, cond, nat_lt, length, map, refl, sym, ◌∙◌, arith}
use Rattle.std.proofs.lemmas.Bool.Decides.{nat_tests}
use Rattle.std.specs.Prelude.{position, flat_map, IfSome, IsSome, is_some, find}
use Rattle.std.specs.List.{AllByRecursion, slice_index_or, position_or_len}
use Rattle.std.proofs.lemmas.Bool.{ltb-true, le-ltb}
use Rattle.rv_value.proofs.Lists.{all_append, all_at}

pub all_map : {X Y : Type 0} (P : X → Type 0) (Q : Y → Type 0) (f : X → Y) → ((x : X) → P x → Q (f x)) → (xs : List X) → AllByRecursion P xs → AllByRecursion Q (map f xs)
all_map P Q f holds [] a = tt
all_map P Q f holds (x ∷ xs) a = (holds x a.0, all_map P Q f holds xs a.1)

pub all_map_any : {X Y : Type 0} (Q : Y → Type 0) (f : X → Y) → ((x : X) → Q (f x)) → (xs : List X) → AllByRecursion Q (map f xs)
all_map_any Q f holds [] = tt
all_map_any Q f holds (x ∷ xs) = (holds x, all_map_any Q f holds xs)

pub all_flat : {X Y : Type 0} (P : X → Type 0) (Q : Y → Type 0) (f : X → List Y) → ((x : X) → P x → AllByRecursion Q (f x)) → (xs : List X) → AllByRecursion P xs → AllByRecursion Q (flat_map f xs)
all_flat P Q f holds [] a = tt
all_flat P Q f holds (x ∷ xs) a = all_append Q (f x) (flat_map f xs) (holds x a.0) (all_flat P Q f holds xs a.1)

found_all : {X : Type 0} (P : X → Type 0) (xs : List X) (n : ℕ) (d : X) → AllByRecursion P xs → (b : Bool) → nat_lt n (length xs) ≡ b
    → IfSome (cond b (Some n) None) (λ m. P (slice_index_or xs m d))
found_all P xs n d a true h = all_at P xs n d a (ltb-true n (length xs) h)
found_all P xs n d a false h = tt

-- what is found at a place is one of them
pub position_all : {X : Type 0} (P : X → Type 0) (p : X → Bool) (xs : List X) (d : X) → AllByRecursion P xs
    → IfSome (position p xs) (λ n. P (slice_index_or xs n d))
position_all P p xs d a = found_all P xs (position_or_len p xs) d a (nat_lt (position_or_len p xs) (length xs)) refl

find_one : {X : Type 0} (P : X → Type 0) (x : X) (o : Option X) → P x → IfSome o P → (b : Bool) → IfSome (cond b (Some x) o) P
find_one P x o a rest true = a
find_one P x o a rest false = rest

pub find_all : {X : Type 0} (P : X → Type 0) (p : X → Bool) (xs : List X) → AllByRecursion P xs → IfSome (find p xs) P
find_all P p [] a = tt
find_all P p (x ∷ xs) a = find_one P x (find p xs) a.0 (find_all P p xs a.1) (p x)

-- ---- an item that passes, where a place is found

some_true : (b : Bool) (n : ℕ) → is_some (cond b (Some n) None) ≡ true → b ≡ true
some_true true n e = refl
some_true false n e = absurd (cc e)

one_less : (m n : ℕ) → nat_lt (1 + m) (suc n) ≡ true → nat_lt m n ≡ true
one_less m n h = grind (arith, nat_tests)

-- the first item, or what the others give
by_first : {X : Type 0} {A : Type 0} (P : X → Type 0) (p : X → Bool) (x : X) → P x → ((y : X) → P y → p y ≡ true → A)
    → (m n : ℕ) → (nat_lt m n ≡ true → A) → (b : Bool) → p x ≡ b → nat_lt (cond (not b) (1 + m) 0) (suc n) ≡ true → A
by_first P p x a serves m n rest true e h = serves x a e
by_first P p x a serves m n rest false e h = rest (one_less m n h)

passing_from : {X : Type 0} {A : Type 0} (P : X → Type 0) (p : X → Bool) (xs : List X) → AllByRecursion P xs
    → ((y : X) → P y → p y ≡ true → A) → nat_lt (position_or_len p xs) (length xs) ≡ true → A
passing_from P p [] a serves h = absurd (cc (sym (le-ltb (position_or_len p []) 0 (omega arith)) ∙ h))
passing_from P p (x ∷ xs) a serves h = by_first P p x a.0 serves (position_or_len p xs) (length xs)
    (passing_from P p xs a.1 serves) (p x) refl h

-- what holds of each item that passes holds where one is found
pub passing : {X : Type 0} {A : Type 0} (P : X → Type 0) (p : X → Bool) (xs : List X) → AllByRecursion P xs
    → IsSome (position p xs) → ((y : X) → P y → p y ≡ true → A) → A
passing P p xs a found serves = passing_from P p xs a serves
    (some_true (nat_lt (position_or_len p xs) (length xs)) (position_or_len p xs) found)
