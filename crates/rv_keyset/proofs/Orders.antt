-- Keys in ascending order: the same keys, and the one order in which they ascend.
use Rattle.std.proofs.Common.{◌≡◌, ℕ, ◌<◌, ◌≤◌, List, [], ◌∷◌, length, Bool, true, false, ◌||◌, refl, ap, sym, ◌∙◌, arith, subst, nat_eq, nat_cmp, Less, IsPermutation}
use Rattle.std.specs.Prelude.{nat_lt, if◌then◌else◌}
use Rattle.std.specs.Cmp.{nat_cmp_is}
use Rattle.std.specs.List.{AllByRecursion}
use Rattle.std.specs.List.Sorted.{IsStrictlyIncreasing, IsStrictlySortedBy}
use Rattle.std.proofs.lemmas.Bool.{or_parts, ltb-true, or_from, or_left, ltb-false}
use Rattle.std.proofs.lemmas.Bool.Decides.{nat_tests}
use Rattle.std.proofs.lemmas.List.Sorted.{IsPermutation-append_comm, IsPermutation-append_left, IsPermutation-cons, IsPermutation-refl, IsPermutation-trans, length_permutation, list_any-IsPermutation}
use Rattle.std.proofs.lemmas.Map.Keys.{IsStrictlyIncreasing-from_sorted, below_from_sorted, sorted_from_strictly_increasing}
use Rattle.rv_value.proofs.Tests.{same_number}
use Rattle.rv_keylist.specs.Keys.{has_key, Once}
use Rattle.rv_keylist.proofs.Onces.{Once-ascending, Once-head, Once-tail}
use Rattle.rv_keyset.specs.Sets.{ascending, placed}

-- the same keys

two_moved : (k x : ℕ) (keys : List ℕ) → IsPermutation (k ∷ x ∷ keys) (x ∷ k ∷ keys)
two_moved k x keys = IsPermutation-append_left keys (k ∷ x ∷ []) (x ∷ k ∷ []) (IsPermutation-append_comm (k ∷ []) (x ∷ []))

behind : (k x : ℕ) (keys more : List ℕ) → IsPermutation (k ∷ keys) more → IsPermutation (k ∷ x ∷ keys) (x ∷ more)
behind k x keys more p = IsPermutation-trans (k ∷ x ∷ keys) (x ∷ k ∷ keys) (x ∷ more) (two_moved k x keys) (IsPermutation-cons x (k ∷ keys) more p)

either_place : (b : Bool) (k x : ℕ) (keys more : List ℕ) → IsPermutation (k ∷ keys) more → IsPermutation (k ∷ x ∷ keys) (if b then k ∷ x ∷ keys else x ∷ more)
either_place true k x keys more p = IsPermutation-refl (k ∷ x ∷ keys)
either_place false k x keys more p = behind k x keys more p

placed_moves : (k : ℕ) (keys : List ℕ) → IsPermutation (k ∷ keys) (placed k keys)
placed_moves k [] = IsPermutation-refl (k ∷ [])
placed_moves k (x ∷ keys) = either_place (nat_lt k x) k x keys (placed k keys) (placed_moves k keys)

pub ascending_moves : (keys : List ℕ) → IsPermutation keys (ascending keys)
ascending_moves [] = IsPermutation-refl []
ascending_moves (k ∷ keys) = IsPermutation-trans (k ∷ keys) (k ∷ ascending keys) (placed k (ascending keys)) (IsPermutation-cons k keys (ascending keys) (ascending_moves keys)) (placed_moves k (ascending keys))

pub ascending_has : (n : ℕ) (keys : List ℕ) → has_key n keys ≡ has_key n (ascending keys)
ascending_has n keys = list_any-IsPermutation (nat_eq n) keys (ascending keys) (ascending_moves keys)

pub ascending_length : (keys : List ℕ) → length (ascending keys) ≡ length keys
ascending_length keys = length_permutation keys (ascending keys) (ascending_moves keys)

-- they ascend

abbrev Below : ℕ → List ℕ → Type 0
Below x keys = AllByRecursion (λ (y : ℕ). nat_cmp x y ≡ Less) keys

less : (x y : ℕ) → x < y → nat_cmp x y ≡ Less
less x y h = sym (nat_cmp_is x y Less h)

lower : (x y : ℕ) → nat_cmp x y ≡ Less → x < y
unfolding IsStrictlySortedBy
lower x y h = below_from_sorted (x ∷ y ∷ []) 0 1 0 ((h, tt), (tt, tt)) (omega arith) (omega arith)

placed_below : (y k : ℕ) (keys : List ℕ) → nat_cmp y k ≡ Less → Below y keys → Below y (placed k keys)
placed_below y k [] h all = (h, tt)
placed_below y k (x ∷ keys) h all = either (nat_lt k x) (placed k keys) (placed_below y k keys h all.1)
  where
    either : (b : Bool) (more : List ℕ) → Below y more → Below y (if b then k ∷ x ∷ keys else x ∷ more)
    either true more m = (h, all)
    either false more m = (all.0, m)

further : (k x : ℕ) (keys : List ℕ) → k < x → Below x keys → Below k keys
further k x [] h all = tt
further k x (y ∷ keys) h all = (less k y (let l = lower x y all.0 in omega arith), further k x keys h all.1)

above : (k x : ℕ) → nat_eq k x ≡ false → nat_lt k x ≡ false → x < k
above k x e l = grind (arith, nat_tests)

pub placed_sorted : (k : ℕ) (keys : List ℕ) → has_key k keys ≡ false → IsStrictlySortedBy nat_cmp keys → IsStrictlySortedBy nat_cmp (placed k keys)
unfolding IsStrictlySortedBy
placed_sorted k [] fresh s = (tt, tt)
placed_sorted k (x ∷ keys) fresh s =
    let parts = or_parts (nat_eq k x) (has_key k keys) fresh in
    either (nat_lt k x) refl parts.0 (placed_sorted k keys parts.1 s.1)
  where
    either : (b : Bool) → nat_lt k x ≡ b → nat_eq k x ≡ false → IsStrictlySortedBy nat_cmp (placed k keys) → IsStrictlySortedBy nat_cmp (if b then k ∷ x ∷ keys else x ∷ placed k keys)
    either true l e m = let h = ltb-true k x l in ((less k x h, further k x keys h s.0), s)
    either false l e m = (placed_below x k keys (less x k (above k x e l)) s.0, m)

pub ascending_sorted : (keys : List ℕ) → Once keys → IsStrictlySortedBy nat_cmp (ascending keys)
unfolding IsStrictlySortedBy
ascending_sorted [] once = tt
ascending_sorted (k ∷ keys) once = placed_sorted k (ascending keys) (sym (ascending_has k keys) ∙ Once-head k keys once) (ascending_sorted keys (Once-tail k keys once))

pub ascending_rises : (keys : List ℕ) → Once keys → IsStrictlyIncreasing (ascending keys)
ascending_rises keys once = IsStrictlyIncreasing-from_sorted (ascending keys) (ascending_sorted keys once)

-- There is one order in which they ascend.

lacks : (x : ℕ) (keys : List ℕ) → Below x keys → has_key x keys ≡ false
lacks x [] all = refl
lacks x (y ∷ keys) all = or_from (nat_eq x y) (has_key x keys) (other x y (lower x y all.0)) (lacks x keys all.1)
  where
    other : (a b : ℕ) → a < b → nat_eq a b ≡ false
    other a b l = grind (arith, nat_tests)

first_there : (x : ℕ) (keys : List ℕ) → has_key x (x ∷ keys) ≡ true
first_there x keys = or_left (nat_eq x x) (has_key x keys) (same_number x)

-- what is below the first of ascending keys is not among them
not_there : (x y : ℕ) (keys : List ℕ) → x < y → Below y keys → has_key x (y ∷ keys) ≡ false
not_there x y keys l all = lacks x (y ∷ keys) (less x y l, further x y keys l all)

not_lower : (x y : ℕ) (xs ys : List ℕ) → Below y ys → has_key x (x ∷ xs) ≡ has_key x (y ∷ ys) → y ≤ x
not_lower x y xs ys all h = by (nat_lt x y) refl
  where
    by : (b : Bool) → nat_lt x y ≡ b → y ≤ x
    by true l = absurd (let bad : true ≡ false = sym (first_there x xs) ∙ h ∙ not_there x y ys (ltb-true x y l) all in cc)
    by false l = ltb-false x y l

-- the keys behind equal first ones
tails : (x n : ℕ) (xs ys : List ℕ) → Below x xs → Below x ys → (nat_eq n x || has_key n xs) ≡ (nat_eq n x || has_key n ys) → has_key n xs ≡ has_key n ys
tails x n xs ys a b h = by (nat_eq n x) refl h
  where
    number : (a b : ℕ) → nat_eq a b ≡ true → b ≡ a
    number a b e = grind (arith, nat_tests)

    by : (c : Bool) → nat_eq n x ≡ c → (c || has_key n xs) ≡ (c || has_key n ys) → has_key n xs ≡ has_key n ys
    by true e same = subst (λ (m : ℕ). has_key m xs ≡ has_key m ys) (number n x e) (lacks x xs a ∙ sym (lacks x ys b))
    by false e same = same

pub same_keys : (xs ys : List ℕ) → IsStrictlySortedBy nat_cmp xs → IsStrictlySortedBy nat_cmp ys → ((n : ℕ) → has_key n xs ≡ has_key n ys) → xs ≡ ys
unfolding IsStrictlySortedBy
same_keys [] [] s t h = refl
same_keys [] (y ∷ ys) s t h = absurd (let bad : false ≡ true = h y ∙ first_there y ys in cc)
same_keys (x ∷ xs) [] s t h = absurd (let bad : true ≡ false = sym (first_there x xs) ∙ h x in cc)
same_keys (x ∷ xs) (y ∷ ys) s t h =
    let low : y ≤ x = not_lower x y xs ys t.0 (h x) in
    let high : x ≤ y = not_lower y x ys xs s.0 (sym (h y)) in
    let first : y ≡ x = omega arith in
    let all = subst (λ (n : ℕ). Below n ys) first t.0 in
    let rest = same_keys xs ys s.1 t.1 (λ n. tails x n xs ys s.0 all (h n ∙ ap (λ (m : ℕ). nat_eq n m || has_key n ys) first)) in
    ap (λ (keys : List ℕ). x ∷ keys) rest ∙ ap (λ (n : ℕ). n ∷ ys) (sym first)

-- ascending keys that are moved to ascend are as they were
pub same_order : (xs ys : List ℕ) → IsStrictlyIncreasing xs → IsStrictlyIncreasing ys → IsPermutation xs ys → xs ≡ ys
same_order xs ys s t p = same_keys xs ys (sorted_from_strictly_increasing xs s) (sorted_from_strictly_increasing ys t) (λ n. list_any-IsPermutation (nat_eq n) xs ys p)

pub ascending_same : (keys : List ℕ) → IsStrictlyIncreasing keys → ascending keys ≡ keys
ascending_same keys rises = sym (same_order keys (ascending keys) rises (ascending_rises keys (Once-ascending keys rises)) (ascending_moves keys))
