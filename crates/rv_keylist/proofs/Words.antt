-- A word with one more bit, and words with one more bit.
use Rattle.std.proofs.Common.{◌≡◌, ◌≢◌, ℕ, ◌*◌, ◌/◌, ◌%◌, ◌^◌, ◌<◌, ◌==◌, ◌||◌, List, length, Bool, true, slice_index_or, slice_set, bit_or, inl, inr, refl, sym, ap, subst, ◌∙◌, arith}
use Rattle.std.specs.Int.{bit_at, w64}
use Rattle.std.proofs.lemmas.Bool.{cases_eq, or_left, or_right, eq-eqb}
use Rattle.std.proofs.lemmas.Bool.Decides.{nat_tests}
use Rattle.std.proofs.lemmas.List.{get_or-set_same, get_or-set_other}
use Rattle.std.proofs.lemmas.Grind.{get_or_default_zero}
use Rattle.std.proofs.lemmas.Nat.Bits.{bit_at_set_same, bit_at_set_other}
use Rattle.rv_keylist.specs.Bits.{bit_of, is_set, holds, SetsBit}

abbrev with_bit : ℕ → ℕ → ℕ
with_bit word k = bit_or word (1 * 2 ^ k % 2 ^ 64)

one_word : (word k b : ℕ) → k < 64 → (bit_at (with_bit word k) b == 1) ≡ ((bit_at word b == 1) || (b == k))
one_word word k b within = elim (cases_eq b k) [
  | inl same ↦
      let set : bit_at (with_bit word k) b ≡ 1 = rw same (bit_at_set_same w64 word k within) in
      grind (arith, nat_tests)
  | inr other ↦
      let kept : bit_at (with_bit word k) b ≡ bit_at word b = bit_at_set_other w64 word k within b other in
      grind (arith, nat_tests)
]

same_word : (x : Bool) (b k : ℕ) → b / 64 ≡ k / 64 → (x || (b % 64 == k % 64)) ≡ (x || (b == k))
same_word x b k same = grind (arith, nat_tests)

other_word : (x : Bool) (b k : ℕ) → b / 64 ≢ k / 64 → x ≡ (x || (b == k))
other_word x b k other = grind (arith, nat_tests)

in_word : (words : List ℕ) (k b v : ℕ) → b / 64 ≡ k / 64 → k / 64 < length words →
    is_set (slice_set words (k / 64) v) b ≡ (bit_at v (b % 64) == 1)
in_word words k b v same within =
    let here : slice_index_or (slice_set words (k / 64) v) (b / 64) 0 ≡ v
    = rw same (get_or-set_same words (k / 64) v 0 within)
    in ap (λ (w : ℕ). bit_at w (b % 64) == 1) here

out_of_word : (words : List ℕ) (k b v : ℕ) → b / 64 ≢ k / 64 → is_set (slice_set words (k / 64) v) b ≡ is_set words b
out_of_word words k b v other =
    ap (λ (w : ℕ). bit_at w (b % 64) == 1) (get_or-set_other words (k / 64) (b / 64) v 0 other)

pub sets_bit :
    (words : List ℕ) (k : ℕ) → length words ≡ 1024 → k < 65536
    → SetsBit words (slice_set words (k / 64) (with_bit (slice_index_or words (k / 64) 0) (k % 64))) k
sets_bit words k count fits = record {
  bits = λ b. elim (cases_eq (b / 64) (k / 64)) [
    | inl same ↦
        let word : ℕ = slice_index_or words (k / 64) 0 in
        in_word words k b (with_bit word (k % 64)) same (omega arith)
        ∙ one_word word (k % 64) (b % 64) (omega arith)
        ∙ same_word (bit_at word (b % 64) == 1) b k same
        ∙ ap (λ (at : ℕ). (bit_at (slice_index_or words at 0) (b % 64) == 1) || (b == k)) (sym same)
    | inr other ↦
        out_of_word words k b (with_bit (slice_index_or words (k / 64) 0) (k % 64)) other
        ∙ other_word (is_set words b) b k other
  ];
}

pub kept_bit : (words new : List ℕ) (k key : ℕ) → SetsBit words new k → holds words key ≡ true → holds new key ≡ true
kept_bit words new k key sets held = sets.bits (bit_of key) ∙ or_left _ _ held

pub held_bit : (words new : List ℕ) (key : ℕ) → SetsBit words new (bit_of key) → holds new key ≡ true
held_bit words new key sets = sets.bits (bit_of key) ∙ or_right _ _ (eq-eqb (bit_of key) (bit_of key) refl)

-- one step of the code: the word is read with any default
pub added :
    (words old : List ℕ) (bit word key : ℕ)
    → words ≡ old → length words ≡ 1024 → bit ≡ bit_of key → bit < 65536
    → word ≡ slice_index_or words (bit / 64) word
    → SetsBit old (slice_set words (bit / 64) (bit_or word (1 * 2 ^ (bit % 64) % 2 ^ 64))) (bit_of key)
added words old bit word key same count is_bit fits read =
    let at_zero : slice_index_or words (bit / 64) 0 ≡ word
    = sym (read ∙ get_or_default_zero words (bit / 64) word (omega arith))
    in subst (λ (b : ℕ). SetsBit old (slice_set words (bit / 64) (with_bit word (bit % 64))) b) is_bit
    (subst (λ (l : List ℕ). SetsBit l (slice_set words (bit / 64) (with_bit word (bit % 64))) bit) same
    (subst (λ (w : ℕ). SetsBit words (slice_set words (bit / 64) (with_bit w (bit % 64))) bit) at_zero
    (sets_bit words bit count fits)))
