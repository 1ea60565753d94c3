-- Keys in two lists, and keys that stand once: none, one more, in another order, and ascending.
use Rattle.std.proofs.Common.{◌≡◌, ℕ, ◌<◌, ◌++◌, ◌∷◌, [], List, nat_eq, false, slice_index_or, arith, refl, IsPermutation, ◌||◌}
use Rattle.std.specs.List.{AllByRecursion, IsDistinct}
use Rattle.std.specs.List.Sorted.{IsStrictlyIncreasing}
use Rattle.std.proofs.lemmas.Bool.{ne_eqb, or_parts}
use Rattle.std.proofs.lemmas.Cmp.{nat_eq_equiv}
use Rattle.std.proofs.lemmas.Map.Keys.{IsDistinct-push, IsDistinct-cons, IsDistinct-head, IsDistinct-tail, IsDistinct-from_apart, IsDistinct-IsPermutation, sorted_from_strictly_increasing, below_from_sorted}
use Rattle.std.proofs.lemmas.List.Folds.{list_any-append}
use Rattle.rv_keylist.specs.Keys.{has_key, Once}

-- a row is among two lists where it is in one of them
pub key_append : (row : ℕ) (xs ys : List ℕ) → has_key row (xs ++ ys) ≡ (has_key row xs || has_key row ys)
key_append row xs ys = list_any-append (nat_eq row) xs ys

pub Once-nil : Once []
unfolding IsDistinct
Once-nil = tt

pub Once-push : (keys : List ℕ) (key : ℕ) → Once keys → has_key key keys ≡ false → Once (keys ++ key ∷ [])
Once-push keys key once fresh = IsDistinct-push nat_eq_equiv keys key once fresh

pub Once-IsPermutation : (xs ys : List ℕ) → IsPermutation xs ys → Once xs → Once ys
Once-IsPermutation xs ys moved once = IsDistinct-IsPermutation nat_eq nat_eq_equiv.symm xs ys moved once

pub Once-ascending : (keys : List ℕ) → IsStrictlyIncreasing keys → Once keys
Once-ascending keys ascends = IsDistinct-from_apart nat_eq keys (λ i j d before within.
    let below : slice_index_or keys i d < slice_index_or keys j d
    = below_from_sorted keys i j d (sorted_from_strictly_increasing keys ascends) before within in
    ne_eqb (slice_index_or keys i d) (slice_index_or keys j d) (λ same. omega arith))

others : (key : ℕ) (keys : List ℕ) → has_key key keys ≡ false → AllByRecursion (λ other. nat_eq key other ≡ false) keys
others key [] fresh = tt
others key (other ∷ keys) fresh =
    let parts = or_parts (nat_eq key other) (has_key key keys) fresh in (parts.0, others key keys parts.1)

no_other : (key : ℕ) (keys : List ℕ) → AllByRecursion (λ other. nat_eq key other ≡ false) keys → has_key key keys ≡ false
no_other key [] all = refl
no_other key (other ∷ keys) all = rw (all.0) (no_other key keys all.1)

pub Once-cons : (key : ℕ) (keys : List ℕ) → has_key key keys ≡ false → Once keys → Once (key ∷ keys)
Once-cons key keys fresh once = IsDistinct-cons nat_eq key keys (others key keys fresh) once

pub Once-tail : (key : ℕ) (keys : List ℕ) → Once (key ∷ keys) → Once keys
Once-tail key keys once = IsDistinct-tail nat_eq key keys once

-- the first of keys that stand once is not among the others
pub Once-head : (key : ℕ) (keys : List ℕ) → Once (key ∷ keys) → has_key key keys ≡ false
Once-head key keys once = no_other key keys (IsDistinct-head nat_eq key keys once)
