-- A name stands among the names where what has it stands in the catalog.
use Rattle.std.proofs.Common.{◌≡◌, ℕ, ◌+◌, List, [], ◌∷◌, ◌++◌, Bool, true, false, cond, not, ◌||◌, None, nat_lt, length, take, map, position, refl, sym, ap, ◌∙◌, arith, if◌then◌else◌}
use Rattle.std.specs.Prelude.{bytes_eq}
use Rattle.std.specs.List.{list_any, prefix_len}
use Rattle.std.proofs.lemmas.Bool.Decides.{nat_tests}
use Rattle.std.proofs.lemmas.List.{length-map, map-append, take-map}

prefix_map : {X Y : Type 0} (p : Y → Bool) (f : X → Y) (xs : List X) → prefix_len p (map f xs) ≡ prefix_len (λ x. p (f x)) xs
prefix_map p f [] = refl
prefix_map p f (x ∷ xs) = rw (prefix_map p f xs) refl

position_map : {X Y : Type 0} (p : Y → Bool) (f : X → Y) (xs : List X) → position p (map f xs) ≡ position (λ x. p (f x)) xs
position_map p f xs = rw (prefix_map (λ y. not (p y)) f xs, length-map xs f) refl

any_found : {X : Type 0} (p : X → Bool) (xs : List X) → list_any p xs ≡ true → nat_lt (prefix_len (λ x. not (p x)) xs) (length xs) ≡ true
any_found p [] h = absurd (cc)
any_found p (x ∷ xs) h = elim (p x) as (λ b. (b || list_any p xs) ≡ true → nat_lt (cond (not b) (1 + prefix_len (λ x. not (p x)) xs) 0) (length (x ∷ xs)) ≡ true) [
  | true ↦ λ e. grind (arith, nat_tests)
  | false ↦ λ e. let k = any_found p xs e in grind (arith, nat_tests, k)
] h

pub none_any : {X : Type 0} (p : X → Bool) (xs : List X) → position p xs ≡ None → list_any p xs ≡ false
none_any p xs h = elim (list_any p xs) as (λ b. list_any p xs ≡ b → b ≡ false) [
  | true ↦ λ e. let k = any_found p xs e in let m = rw k at h in absurd (cc)
  | false ↦ λ e. refl
] refl

-- The keys `f k` are the names `name_of x`, in one order.
known : {K X : Type 0} (f : K → List ℕ) (name_of : X → List ℕ) (keys : List K) (xs : List X) (name : List ℕ) → map f keys ≡ map name_of xs → position (λ k. bytes_eq name (f k)) keys ≡ position (λ x. bytes_eq name (name_of x)) xs
known f name_of keys xs name h = sym (position_map (bytes_eq name) f keys) ∙ (ap (position (bytes_eq name)) h ∙ position_map (bytes_eq name) name_of xs)

pub known_at : {K X : Type 0} (f : K → List ℕ) (name_of : X → List ℕ) (keys : List K) (xs : List X) (name asked : List ℕ) → asked ≡ name → map f keys ≡ map name_of xs → position (λ k. bytes_eq asked (f k)) keys ≡ position (λ x. bytes_eq name (name_of x)) xs
known_at f name_of keys xs name asked e h = ap (λ n. position (λ k. bytes_eq n (f k)) keys) e ∙ known f name_of keys xs name h

pub added : {K X : Type 0} (f : K → List ℕ) (name_of : X → List ℕ) (keys new : List K) (key : K) (xs : List X) (x : X) → map f keys ≡ map name_of xs → position (λ y. bytes_eq (name_of x) (name_of y)) xs ≡ None → f key ≡ name_of x → new ≡ (if list_any (λ k. bytes_eq (f key) (f k)) keys then keys else keys ++ key ∷ []) → map f new ≡ map name_of (xs ++ x ∷ [])
added f name_of keys new key xs x h none named is = let fresh = none_any (λ k. bytes_eq (f key) (f k)) keys (rw named (known f name_of keys xs (name_of x) h ∙ none)) in let n : new ≡ keys ++ key ∷ [] = rw fresh at is in rw (n, map-append f keys (key ∷ []), h, named, map-append name_of xs (x ∷ [])) refl

pub cut : {K X : Type 0} (f : K → List ℕ) (name_of : X → List ℕ) (keys : List K) (xs : List X) (n : ℕ) → map f keys ≡ map name_of xs → map f (take n keys) ≡ map name_of (take n xs)
cut f name_of keys xs n h = sym (take-map f n keys) ∙ (ap (take n) h ∙ take-map name_of n xs)
