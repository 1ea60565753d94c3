-- Words that are 0, and the bits of such words.
use Rattle.std.proofs.Common.{◌≡◌, ℕ, ◌+◌, ◌<◌, ◌≤◌, ◌%◌, ◌/◌, ◌==◌, List, length, length-set, nat_lt, true, false, slice_index_or, slice_set, inl, inr, ap, ◌∙◌, arith}
use Rattle.std.specs.Int.{bit_at}
use Rattle.std.proofs.Math.ListN.{get_or-eq_default}
use Rattle.std.proofs.lemmas.Bool.{cases_Bool, cases_eq}
use Rattle.std.proofs.lemmas.Bool.Decides.{nat_tests}
use Rattle.std.proofs.lemmas.List.{get_or-set_same, get_or-set_other}
use Rattle.std.proofs.lemmas.Nat.Bits.{bit_at-zero}
use Rattle.rv_keylist.specs.Bits.{is_set}

pub one_more_zero : (words : List ℕ) (i : ℕ) → ((at : ℕ) → at < i → slice_index_or words at 0 ≡ 0) → (at : ℕ) → at < i + 1 → slice_index_or (slice_set words i 0) at 0 ≡ 0
one_more_zero words i zero at below = elim (cases_eq at i) [
  | inl here ↦ by here
  | inr other ↦ get_or-set_other words i at 0 0 other ∙ zero at (omega arith)
]
  where
    less : nat_lt i (length words) ≡ true → i < length words
    less h = grind (arith, nat_tests)

    long : nat_lt i (length words) ≡ false → length (slice_set words i 0) ≤ i
    long h = let same = length-set words i 0 in grind (arith, nat_tests)

    set_zero : slice_index_or (slice_set words i 0) i 0 ≡ 0
    set_zero = elim (cases_Bool (nat_lt i (length words))) [
      | inl within ↦ get_or-set_same words i 0 0 (less within)
      | inr outside ↦ get_or-eq_default (slice_set words i 0) 0 {n = i} (long outside)
    ]

    by : at ≡ i → slice_index_or (slice_set words i 0) at 0 ≡ 0
    by e = ap (λ (k : ℕ). slice_index_or (slice_set words i 0) k 0) e ∙ set_zero

pub all_zero : (words : List ℕ) (i : ℕ) → ((at : ℕ) → at < i → slice_index_or words at 0 ≡ 0) → length words ≤ i → (at : ℕ) → slice_index_or words at 0 ≡ 0
all_zero words i zero long at = elim (cases_Bool (nat_lt at i)) [
  | inl below ↦ zero at (less below)
  | inr behind ↦ get_or-eq_default words 0 {n = at} (above behind)
]
  where
    less : nat_lt at i ≡ true → at < i
    less h = grind (arith, nat_tests)

    above : nat_lt at i ≡ false → length words ≤ at
    above h = grind (arith, nat_tests)

-- no bit of such words is set
pub unset : (words : List ℕ) → ((at : ℕ) → slice_index_or words at 0 ≡ 0) → (b : ℕ) → is_set words b ≡ false
unset words zero b = ap (λ (w : ℕ). bit_at w (b % 64) == 1) (zero (b / 64)) ∙ ap (λ (w : ℕ). w == 1) (bit_at-zero (b % 64)) ∙ none
  where
    none : (0 == 1) ≡ false
    none = grind (arith, nat_tests)
