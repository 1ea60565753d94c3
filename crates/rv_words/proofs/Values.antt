-- A value that is read is a value of the option, and every such value is read.
use Rattle.std.proofs.Common.{◌≡◌, ℕ, ◌+◌, ◌-◌, ◌*◌, ◌≤◌, List, [], ◌∷◌, refl, sym, ◌∙◌, arith, true, ◌&&◌, Option, Some, None, inl, inr, nat_le, length}
use Rattle.std.specs.List.{list_all}
use Rattle.std.proofs.lemmas.Bool.{cases_Bool, and_parts, le-leb, leb-true}
use Rattle.std.specs.Char.{is_ascii_digit}
use Rattle.rv_words.specs.declared.choices.Choice.{Choice}
use Rattle.rv_words.specs.Words.{IsValue, greatest, number_behind}
use Rattle.rv_words.specs.Reading.{held_to, number_from, value}

-- a number with one digit more is no less
grows : (n : ℕ) (ds : List ℕ) → n ≤ number_behind n ds
grows n [] = omega arith
grows n (d ∷ ds) = let more = grows (n * 10 + (d - 48)) ds in omega (arith, more)

-- what was read: digits, and their number
record Reads (n m : ℕ) (ds : List ℕ) : Type 0 where
  decimal : list_all is_ascii_digit ds ≡ true
  number : m ≡ number_behind n ds

reads : (n m : ℕ) (ds : List ℕ) → number_from n ds ≡ Some m → Reads n m ds
reads n m [] e = record { decimal = refl; number = let same : n ≡ m = cc in sym same }
reads n m (d ∷ ds) e = elim (cases_Bool (is_ascii_digit d && nat_le (n * 10 + (d - 48)) 4294967295)) [
  | inl t ↦
      let digit = and_parts (is_ascii_digit d) (nat_le (n * 10 + (d - 48)) 4294967295) t in
      let rest = rw t at e in
      let more = reads (n * 10 + (d - 48)) m ds rest in
      record { decimal = rw digit.0 more.decimal; number = more.number }
  | inr f ↦ let wrong = rw f at e in cc
]

is_read : (n : ℕ) (ds : List ℕ) → list_all is_ascii_digit ds ≡ true → number_behind n ds ≤ 4294967295 → number_from n ds ≡ Some (number_behind n ds)
is_read n [] all small = refl
is_read n (d ∷ ds) all small =
    let parts = and_parts (is_ascii_digit d) (list_all is_ascii_digit ds) all in
    let more = grows (n * 10 + (d - 48)) ds in
    let within : nat_le (n * 10 + (d - 48)) 4294967295 ≡ true = le-leb (n * 10 + (d - 48)) 4294967295 (omega (arith, more, small)) in
    rw (parts.0, within) (is_read (n * 10 + (d - 48)) ds parts.1 small)

-- a value that was read, and its number
pub record HasValue (option : Choice) (digits : List ℕ) (n : ℕ) : Type 0 where
  pub is : IsValue option digits
  pub number : n ≡ number_behind 0 digits

held_value : (option : Choice) (digits : List ℕ) (n : ℕ) (o : Option ℕ) → 1 ≤ length digits → length digits ≤ 10 → number_from 0 digits ≡ o → held_to (greatest option) o ≡ Some n → HasValue option digits n
held_value option digits n None some few r e = cc
held_value option digits n (Some m) some few r e = elim (cases_Bool (nat_le m (greatest option))) [
  | inl t ↦
      let held = rw t at e in
      let same : m ≡ n = cc in
      let parts = reads 0 m digits r in
      let within : m ≤ greatest option = leb-true m (greatest option) t in
      record { is = record { some = some; few = few; decimal = parts.decimal; within = rw (← parts.number) within }; number = sym same ∙ parts.number }
  | inr f ↦ let wrong = rw f at e in cc
]

pub has_value : (option : Choice) (digits : List ℕ) (n : ℕ) → value option digits ≡ Some n → HasValue option digits n
has_value option digits n e = elim (cases_Bool (nat_le 1 (length digits) && nat_le (length digits) 10)) [
  | inl t ↦
      let size = and_parts (nat_le 1 (length digits)) (nat_le (length digits) 10) t in
      let held = rw t at e in
      held_value option digits n (number_from 0 digits) (leb-true 1 (length digits) size.0) (leb-true (length digits) 10 size.1) refl held
  | inr f ↦ let wrong = rw f at e in cc
]

small_of : (option : Choice) → greatest option ≤ 4294967295
small_of Choice.Threads = omega arith
small_of Choice.Workers = omega arith
small_of Choice.Judge = omega arith
small_of Choice.Steps = omega arith
small_of Choice.Gen = omega arith
small_of Choice.Race = omega arith

pub is_value : (option : Choice) (digits : List ℕ) → IsValue option digits → value option digits ≡ Some (number_behind 0 digits)
is_value option digits v =
    let most = small_of option in
    let read : number_from 0 digits ≡ Some (number_behind 0 digits) = is_read 0 digits v.decimal (let w = v.within in omega (arith, most, w)) in
    rw (le-leb 1 (length digits) v.some, le-leb (length digits) 10 v.few, read, le-leb (number_behind 0 digits) (greatest option) v.within) refl
