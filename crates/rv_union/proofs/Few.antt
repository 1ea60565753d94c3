-- Indexes that stand once among a few are few.
use Rattle.std.proofs.Common.{◌≡◌, ℕ, ◌+◌, ◌≤◌, List, [], ◌∷◌, ◌++◌, length, Bool, true, false, cond, ◌||◌, refl, ap, sym, ◌∙◌, arith, nat_eq}
use Rattle.std.specs.List.{list_all}
use Rattle.std.proofs.lemmas.List.Folds.{list_any-append}
use Rattle.std.proofs.lemmas.Bool.{and_from, eqb-true, or_left, or_right}
use Rattle.std.specs.Cmp.{first_so, second_so}
use Rattle.rv_value.proofs.Tests.{left_false, number_turned, right_false, same_number}
use Rattle.rv_judge.specs.Runs.{EachOnce, has_index}

either : (a b c : Bool) → (a || b) ≡ true → (a ≡ true → c ≡ true) → (b ≡ true → c ≡ true) → c ≡ true
either true b c h f g = f refl
either false b c h f g = g h

-- an index is taken out of others, once
abbrev without : ℕ → List ℕ → List ℕ
without i [] = []
without i (y ∷ ys) = cond (nat_eq y i) ys (y ∷ without i ys)

less_step : (b : Bool) (y : ℕ) (ys zs : List ℕ) (has : Bool) → (b || has) ≡ true → (has ≡ true → length zs + 1 ≡ length ys) → length (cond b ys (y ∷ zs)) + 1 ≡ length (y ∷ ys)
less_step true y ys zs has h f = omega arith
less_step false y ys zs has h f = let less = f h in omega arith

one_less : (i : ℕ) (ys : List ℕ) → has_index i ys ≡ true → length (without i ys) + 1 ≡ length ys
one_less i [] h = absurd (cc)
one_less i (y ∷ ys) h = less_step (nat_eq y i) y ys (without i ys) (has_index i ys) h (one_less i ys)

stay_step : (i k y : ℕ) (b : Bool) (ys zs : List ℕ) → nat_eq y i ≡ b → nat_eq i k ≡ false → (nat_eq y k || has_index k ys) ≡ true → (has_index k ys ≡ true → has_index k zs ≡ true) → has_index k (cond b ys (y ∷ zs)) ≡ true
stay_step i k y true ys zs e apart h f = either (nat_eq y k) (has_index k ys) (has_index k ys) h (λ same. absurd (let bad : true ≡ false = sym same ∙ ap (λ (n : ℕ). nat_eq n k) (eqb-true y i e) ∙ apart in cc)) (λ there. there)
stay_step i k y false ys zs e apart h f = either (nat_eq y k) (has_index k ys) (nat_eq y k || has_index k zs) h (λ same. or_left (nat_eq y k) (has_index k zs) same) (λ there. or_right (nat_eq y k) (has_index k zs) (f there))

others_stay : (i k : ℕ) (ys : List ℕ) → nat_eq i k ≡ false → has_index k ys ≡ true → has_index k (without i ys) ≡ true
others_stay i k [] apart h = h
others_stay i k (y ∷ ys) apart h = stay_step i k y (nat_eq y i) ys (without i ys) refl apart h (others_stay i k ys apart)

all_stay : (i : ℕ) (xs ys : List ℕ) → has_index i xs ≡ false → list_all (λ k. has_index k ys) xs ≡ true → list_all (λ k. has_index k (without i ys)) xs ≡ true
all_stay i [] ys apart h = refl
all_stay i (x ∷ xs) ys apart h = and_from (has_index x (without i ys)) (list_all (λ k. has_index k (without i ys)) xs) (others_stay i x ys (number_turned i x ∙ left_false (nat_eq x i) (has_index i xs) apart) (first_so (has_index x ys) (list_all (λ k. has_index k ys) xs) h)) (all_stay i xs ys (right_false (nat_eq x i) (has_index i xs) apart) (second_so (has_index x ys) (list_all (λ k. has_index k ys) xs) h))

pub few : (xs ys : List ℕ) → EachOnce xs → list_all (λ k. has_index k ys) xs ≡ true → length xs ≤ length ys
few [] ys once h = omega arith
few (x ∷ xs) ys once h =
    let there = first_so (has_index x ys) (list_all (λ k. has_index k ys) xs) h in
    let one = one_less x ys there in
    let rest = few xs (without x ys) once.1 (all_stay x xs ys once.0 (second_so (has_index x ys) (list_all (λ k. has_index k ys) xs) h)) in
    omega arith

-- an index among others has what each of them has
pub at_index : (p : ℕ → Bool) (i : ℕ) (ys : List ℕ) → list_all p ys ≡ true → has_index i ys ≡ true → p i ≡ true
at_index p i [] all h = absurd (cc)
at_index p i (y ∷ ys) all h = either (nat_eq y i) (has_index i ys) (p i) h (λ same. ap p (sym (eqb-true y i same)) ∙ first_so (p y) (list_all p ys) all) (λ there. at_index p i ys (second_so (p y) (list_all p ys) all) there)

pub all_among : (xs ys zs : List ℕ) → list_all (λ k. has_index k ys) xs ≡ true → list_all (λ k. has_index k zs) ys ≡ true → list_all (λ k. has_index k zs) xs ≡ true
all_among [] ys zs h all = refl
all_among (x ∷ xs) ys zs h all = and_from (has_index x zs) (list_all (λ k. has_index k zs) xs) (at_index (λ k. has_index k zs) x ys all (first_so (has_index x ys) (list_all (λ k. has_index k ys) xs) h)) (all_among xs ys zs (second_so (has_index x ys) (list_all (λ k. has_index k ys) xs) h) all)

-- one more

pub index_append : (i : ℕ) (xs ys : List ℕ) → has_index i (xs ++ ys) ≡ (has_index i xs || has_index i ys)
index_append i xs ys = list_any-append (λ (k : ℕ). nat_eq k i) xs ys

pub once_push : (xs : List ℕ) (i : ℕ) → EachOnce xs → has_index i xs ≡ false → EachOnce (xs ++ i ∷ [])
once_push [] i once off = (refl, tt)
once_push (x ∷ xs) i once off = (index_append x xs (i ∷ []) ∙ none (has_index x xs) (nat_eq i x) once.0 (number_turned i x ∙ left_false (nat_eq x i) (has_index i xs) off), once_push xs i once.1 (right_false (nat_eq x i) (has_index i xs) off))
  where
    none : (a b : Bool) → a ≡ false → b ≡ false → (a || (b || false)) ≡ false
    none a b h k = grind arith

pub pushed_there : (xs : List ℕ) (i : ℕ) → has_index i (xs ++ i ∷ []) ≡ true
pushed_there xs i = index_append i xs (i ∷ []) ∙ last (has_index i xs) (nat_eq i i) (same_number i)
  where
    last : (a b : Bool) → b ≡ true → (a || (b || false)) ≡ true
    last a b h = grind arith

pub some_index : (i : ℕ) (xs : List ℕ) → has_index i xs ≡ true → 1 ≤ length xs
some_index i [] h = absurd (cc)
some_index i (x ∷ xs) h = omega arith
