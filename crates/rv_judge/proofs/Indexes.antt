-- Lists of indexes in which each stands once.
use Rattle.std.proofs.Common.{◌≡◌, ℕ, List, [], ◌∷◌, ◌++◌, false, nat_eq, refl}
use Rattle.std.proofs.lemmas.Bool.{or_from, or_parts}
use Rattle.rv_judge.specs.Runs.{EachOnce, has_index}

front_misses : (i : ℕ) (xs ys : List ℕ) → has_index i (xs ++ ys) ≡ false → has_index i xs ≡ false
front_misses i [] ys off = refl
front_misses i (x ∷ xs) ys off =
    let parts = or_parts (nat_eq x i) (has_index i (xs ++ ys)) off in
    or_from (nat_eq x i) (has_index i xs) parts.0 (front_misses i xs ys parts.1)

pub front_once : (xs ys : List ℕ) → EachOnce (xs ++ ys) → EachOnce xs
front_once [] ys once = tt
front_once (x ∷ xs) ys once = (front_misses x xs ys once.0, front_once xs ys once.1)
