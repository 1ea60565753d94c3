-- Numbers of rows in any order are, sorted, those of the rows as the table has them.
use Rattle.std.proofs.Common.{◌≡◌, ℕ, ◌+◌, ◌<◌, ◌≤◌, ◌==◌, List, [], ◌∷◌, true, false, cond, refl, ap, sym, ◌∙◌, inl, inr, arith, suc, length}
use Rattle.std.specs.List.{AllByRecursion, list_all, slice_index_or}
use Rattle.std.specs.List.Sorted.{IsNonDecreasingBy, IsPermutation}
use Rattle.std.proofs.lemmas.Bool.{cases_Bool, and_parts}
use Rattle.std.proofs.lemmas.Bool.Decides.{nat_tests}
use Rattle.std.proofs.lemmas.List.Recursion.{is_sum_by}
use Rattle.std.proofs.lemmas.List.Sorted.{sum_by-IsPermutation}
use Rattle.rv_value.specs.declared.record.Record.{Record}
use Rattle.rv_value.specs.declared.record.RowNo.{RowNo}
use Rattle.rv_rows.specs.Rows.{Ascend, comes_below}
use Rattle.rv_search.specs.Searching.{numbers}

-- How often a number stands in a list.

abbrev one_if : ℕ → RowNo → ℕ
one_if n x = cond (x.0 == n) 1 0

abbrev count : ℕ → List RowNo → ℕ
count n [] = 0
count n (x ∷ xs) = one_if n x + count n xs

counted : (n : ℕ) (xs ys : List RowNo) → IsPermutation xs ys → count n xs ≡ count n ys
counted n xs ys moved =
    is_sum_by (count n) (one_if n) refl (λ x rest. refl) xs ∙ sym (sum_by-IsPermutation (one_if n) xs ys moved) ∙ sym (is_sum_by (count n) (one_if n) refl (λ x rest. refl) ys)

hit : (n : ℕ) (x : RowNo) → x.0 == n ≡ true → one_if n x ≡ 1
hit n x h = rw h refl

missed : (n : ℕ) (x : RowNo) → x.0 == n ≡ false → one_if n x ≡ 0
missed n x h = rw h refl

itself : (x : RowNo) → one_if x.0 x ≡ 1
itself x = hit x.0 x (grind (arith, nat_tests))

-- Lists in which no number is below an earlier one.

abbrev Climbs : List RowNo → Type 0
Climbs [] = Unit {0}
Climbs (x ∷ xs) = AllByRecursion (λ (y : RowNo). x.0 ≤ y.0) xs × Climbs xs

-- a number that stands there is not below a bound of all
not_below : (n low : ℕ) (xs : List RowNo) → AllByRecursion (λ (x : RowNo). low ≤ x.0) xs → 0 < count n xs → low ≤ n
not_below n low [] all some = absurd (omega (arith, some))
not_below n low (x ∷ xs) all some = elim (cases_Bool (x.0 == n)) [
  | inl is ↦
      let same : x.0 ≡ n = grind (arith, nat_tests) in
      let least = all.0 in
      omega (arith, same, least)
  | inr other ↦
      let none = missed n x other in
      let more : 0 < count n xs = omega (arith, none, some) in
      not_below n low xs all.1 more
]

-- the first number of one list is not below that of another in which it stands
first_low : (x y : RowNo) (ys : List RowNo) → Climbs (y ∷ ys) → 0 < count x.0 (y ∷ ys) → y.0 ≤ x.0
first_low x y ys up some = not_below x.0 y.0 (y ∷ ys) (omega arith, up.0) some

abbrev numbered : ℕ → RowNo
numbered n = record { 0 = n }

climbs_once : (xs ys : List RowNo) → Climbs xs → Climbs ys → ((n : ℕ) → count n xs ≡ count n ys) → xs ≡ ys
climbs_once [] [] up also same = refl
climbs_once [] (y ∷ ys) up also same =
    let h = same y.0 in
    let one = itself y in
    absurd (omega (arith, h, one))
climbs_once (x ∷ xs) [] up also same =
    let h = same x.0 in
    let one = itself x in
    absurd (omega (arith, h, one))
climbs_once (x ∷ xs) (y ∷ ys) up also same =
    let at_x = same x.0 in
    let at_y = same y.0 in
    let one_x = itself x in
    let one_y = itself y in
    let some_x : 0 < count x.0 (y ∷ ys) = omega (arith, at_x, one_x) in
    let some_y : 0 < count y.0 (x ∷ xs) = omega (arith, at_y, one_y) in
    let low = first_low x y ys also some_x in
    let high = first_low y x xs up some_y in
    let equal : x.0 ≡ y.0 = omega (arith, low, high) in
    let first : x ≡ y = ap numbered equal in
    let rest = climbs_once xs ys up.1 also.1 (λ n.
    let h = same n in
    let e = ap (one_if n) first in
    omega (arith, h, e)) in
    λ i. first i ∷ rest i

-- What a sort gives climbs.

above : (low : ℕ) (xs : List RowNo) → ((j : ℕ) (d : RowNo) → j < length xs → low ≤ (slice_index_or xs j d).0) → AllByRecursion (λ (x : RowNo). low ≤ x.0) xs
above low [] all = tt
above low (x ∷ xs) all = (all 0 x (omega arith), above low xs (λ j d h. all (suc j) d (omega (arith, h))))

climbs : (xs : List RowNo) → IsNonDecreasingBy (λ (x : RowNo). x.0) xs → Climbs xs
climbs [] up = tt
climbs (x ∷ xs) up = (
  above x.0 xs (λ j d h. up 0 (suc j) d (omega arith) (omega (arith, h))),
  climbs xs (λ i j d low high. up (suc i) (suc j) d (omega (arith, low)) (omega (arith, high))),
)

-- The numbers of the rows of a table climb.

above_row : (r : Record) (rows : List Record) → list_all (comes_below r) rows ≡ true → AllByRecursion (λ (x : RowNo). r.row.0 ≤ x.0) (numbers rows)
above_row r [] all = tt
above_row r (x ∷ rows) all =
    let parts = and_parts (comes_below r x) (list_all (comes_below r) rows) all in
    let first = parts.0 in
    let low : r.row.0 ≤ x.row.0 = grind (arith, nat_tests) in
    (low, above_row r rows parts.1)

rows_climb : (rows : List Record) → Ascend rows → Climbs (numbers rows)
rows_climb [] ascend = tt
rows_climb (r ∷ rows) ascend = (above_row r rows ascend.0, rows_climb rows ascend.1)

-- numbers of rows that were found in any order, sorted
pub sorted_numbers : (rows : List Record) (found : List RowNo) → Ascend rows → IsPermutation (numbers rows) found → IsNonDecreasingBy (λ (x : RowNo). x.0) found → found ≡ numbers rows
sorted_numbers rows found ascend moved up = sym (climbs_once (numbers rows) found (rows_climb rows ascend) (climbs found up) (λ n. counted n (numbers rows) found moved))
