-- What a binary search in ascending keys finds.
use Rattle.std.proofs.Common.{◌≡◌, ◌≢◌, ℕ, ◌<◌, ◌≤◌, List, length, nat_eq, true, false, slice_index_or, sym, ◌∙◌, inl, inr, arith, Result, Ok, Err, is_ok, MatchResult}
use Rattle.std.specs.List.Sorted.{IsStrictlyIncreasing, IsNonDecreasing, IsBinarySearchResult}
use Rattle.std.specs.Ordering.{nat_cmp}
use Rattle.std.proofs.lemmas.Bool.{cases_lt, eq-eqb, ne_eqb}
use Rattle.std.proofs.lemmas.Grind.{get_or_default_zero}
use Rattle.std.proofs.lemmas.List.Folds.{list_any_at, list_any_none}
use Rattle.std.proofs.lemmas.List.Sorted.{searched}
use Rattle.std.proofs.lemmas.Map.Keys.{sorted_from_strictly_increasing, non_decreasing_from_sorted}
use Rattle.rv_keylist.specs.Keys.{has_key, IsPlace}

pub rises : (keys : List ℕ) → IsStrictlyIncreasing keys → IsNonDecreasing keys
rises keys ascends = non_decreasing_from_sorted keys (sorted_from_strictly_increasing keys ascends)

other_keys : (keys : List ℕ) (row : ℕ) → ((k : ℕ) → k < length keys → slice_index_or keys k 0 ≢ row) → has_key row keys ≡ false
other_keys keys row other = list_any_none (nat_eq row) keys (λ k d within.
    let here : slice_index_or keys k d ≡ slice_index_or keys k 0 = get_or_default_zero keys k d within in
    ne_eqb row (slice_index_or keys k d) (λ same. other k within (sym here ∙ sym same)))

abbrev Searched : List ℕ → ℕ → Result ℕ ℕ → Type 0
Searched keys row found =
    MatchResult found (λ i. (i < length keys) × (slice_index_or keys i 0 ≡ row))
    (λ i. (i ≤ length keys) × ((k : ℕ) → k < i → slice_index_or keys k 0 < row) × ((k : ℕ) → i ≤ k → k < length keys → row < slice_index_or keys k 0))

was_searched :
    (keys : List ℕ) (row : ℕ) (found : Result ℕ ℕ)
    → IsStrictlyIncreasing keys → IsBinarySearchResult (λ y. nat_cmp y row) keys found → Searched keys row found
was_searched keys row found ascends result =
    searched keys row found result (λ i j below within. rises keys ascends i j 0 below within)

there : (keys : List ℕ) (row at : ℕ) → Searched keys row (Ok at) → has_key row keys ≡ true
there keys row at here = list_any_at (nat_eq row) keys at 0 here.0 (eq-eqb row (slice_index_or keys at 0) (sym here.1))

by_cases : (keys : List ℕ) (row : ℕ) (found : Result ℕ ℕ) → Searched keys row found → is_ok found ≡ has_key row keys
by_cases keys row (Ok i) here = sym (there keys row i here)
by_cases keys row (Err i) apart = sym (other_keys keys row (λ k within same.
    elim (cases_lt k i) [
      | inl before ↦ let low : slice_index_or keys k 0 < row = apart.1 k before in omega arith
      | inr behind ↦ let high : row < slice_index_or keys k 0 = apart.2 k behind within in omega arith
    ]))

pub is_found :
    (keys : List ℕ) (row : ℕ) (found : Result ℕ ℕ)
    → IsStrictlyIncreasing keys → IsBinarySearchResult (λ y. nat_cmp y row) keys found → is_ok found ≡ has_key row keys
is_found keys row found ascends result = by_cases keys row found (was_searched keys row found ascends result)

pub is_place :
    (keys : List ℕ) (row at : ℕ) (found : Result ℕ ℕ)
    → IsStrictlyIncreasing keys → IsBinarySearchResult (λ y. nat_cmp y row) keys found → found ≡ Err at → IsPlace keys row at
is_place keys row at found ascends result is =
    let apart : Searched keys row (Err at) = rw is at (was_searched keys row found ascends result) in
    record { within = apart.0; lower = apart.1; higher = apart.2 }
