-- Ascending rows, and one row more.
use Rattle.std.proofs.Common.{◌≡◌, ℕ, ◌+◌, ◌<◌, ◌≤◌, ◌∷◌, List, length, nat_eq, false, slice_index_or, insert, sym, arith, IsPermutation}
use Rattle.std.specs.List.Sorted.{IsStrictlyIncreasing}
use Rattle.std.proofs.lemmas.Grind.{get_or_default_zero}
use Rattle.std.proofs.lemmas.List.Sorted.{length_permutation, list_any-IsPermutation, IsPermutation-insert, IsNonDecreasingBy-insert}
use Rattle.std.proofs.lemmas.Map.Keys.{IsStrictlyIncreasing-from_distinct}
use Rattle.rv_keylist.specs.Keys.{has_key, Once, IsPlace}
use Rattle.rv_keylist.proofs.Onces.{Once-ascending, Once-cons, Once-IsPermutation}
use Rattle.rv_keylist.proofs.Searches.{rises}
use Rattle.rv_keylist.specs.Rows.{AddsRow, IsBuffer}

-- the place of a row, at any default
lower : (rows : List ℕ) (row at : ℕ) → IsPlace rows row at → (k d : ℕ) → k < at → slice_index_or rows k d ≤ row
lower rows row at place k d before =
    let below : slice_index_or rows k 0 < row = place.lower k before in
    let within : k < length rows = let most = place.within in omega arith in
    let same : slice_index_or rows k d ≡ slice_index_or rows k 0 = get_or_default_zero rows k d within in
    omega arith

higher : (rows : List ℕ) (row at : ℕ) → IsPlace rows row at → (k d : ℕ) → at ≤ k → k < length rows → row ≤ slice_index_or rows k d
higher rows row at place k d behind within =
    let above : row < slice_index_or rows k 0 = place.higher k behind within in
    let same : slice_index_or rows k d ≡ slice_index_or rows k 0 = get_or_default_zero rows k d within in
    omega arith

inserted : (rows : List ℕ) (row at : ℕ) → IsStrictlyIncreasing rows → has_key row rows ≡ false → IsPlace rows row at
    → IsStrictlyIncreasing (insert rows at row)
inserted rows row at ascends fresh place =
    let moved : IsPermutation (row ∷ rows) (insert rows at row) = IsPermutation-insert rows at row in
    let once : Once (insert rows at row)
    = Once-IsPermutation (row ∷ rows) (insert rows at row) moved (Once-cons row rows fresh (Once-ascending rows ascends)) in
    IsStrictlyIncreasing-from_distinct (insert rows at row)
    (IsNonDecreasingBy-insert (λ n. n) rows at row (rises rows ascends) place.within
    (λ k d before. lower rows row at place k d before) (λ k d behind within. higher rows row at place k d behind within))
    once

pub adds : (rows : List ℕ) (row at : ℕ) → AddsRow rows (insert rows at row) row
adds rows row at =
    let moved : IsPermutation (row ∷ rows) (insert rows at row) = IsPermutation-insert rows at row in record {
      rows = λ other. sym (list_any-IsPermutation (nat_eq other) (row ∷ rows) (insert rows at row) moved);
      count = let more = length_permutation (row ∷ rows) (insert rows at row) moved in omega arith;
    }

pub stays_buffer :
    (rows new : List ℕ) (row at capacity capacity' : ℕ)
    → IsBuffer rows capacity → length rows < 1024 → has_key row rows ≡ false → IsPlace rows row at
    → new ≡ insert rows at row → capacity ≤ capacity' → IsBuffer new capacity'
stays_buffer rows new row at capacity capacity' buffer room fresh place is grows =
    let more : length (insert rows at row) ≡ length rows + 1 = (adds rows row at).count in
    let places : 1024 ≤ capacity = buffer.places in
    rw is (record {
      ascends = inserted rows row at buffer.ascends fresh place;
      places = omega arith;
      count = omega arith;
    })

pub added : (rows old new : List ℕ) (row at : ℕ) → rows ≡ old → new ≡ insert rows at row → AddsRow old new row
added rows old new row at same is = rw (← same, is) (adds rows row at)
