-- No bound of a range is longer than the index.
use Rattle.std.proofs.Common.{ℕ, List, [], ◌∷◌, ◌++◌, length, arith, ◌≤◌, ◌+◌, length-append, Option, Some, None}
use Rattle.rv_value.specs.declared.value.Value.{Value}
use Rattle.rv_value.specs.declared.value.Value.TheVariants.{Str}
use Rattle.rv_restrict.specs.declared.atom.Atom.{Atom}
use Rattle.rv_restrict.specs.Ranges.{End, Limit, closed_bound, equal_range, starting_range, high_bound, bounded_range, if_some, last_range, range_from, range_for, IsShort, AreShort, limits_on, first_equal, first_start, greatest_low, least_high}

short_prefix : (n : ℕ) (prefix : List Value) → length prefix ≤ n → IsShort n (closed_bound prefix)
short_prefix n [] h = tt
short_prefix n (v ∷ vs) h = h

short_next : (n : ℕ) (prefix : List Value) (v : Value) → length prefix + 1 ≤ n → length (prefix ++ v ∷ []) ≤ n
short_next n prefix v h = omega (arith, length-append prefix (v ∷ []))

short_high : (n : ℕ) (prefix : List Value) (high : Option End) → length prefix + 1 ≤ n → IsShort n (high_bound prefix high)
short_high n prefix None h = short_prefix n prefix (omega arith)
short_high n prefix (Some e) h = short_next n prefix e.value h

short_equal : (n : ℕ) (prefix : List Value) → length prefix ≤ n → AreShort n (equal_range prefix)
short_equal n prefix h = record { low_end = short_prefix n prefix h; high_end = short_prefix n prefix h }

short_last : (n : ℕ) (prefix : List Value) (ls : List Limit) → length prefix + 1 ≤ n → AreShort n (last_range prefix ls)
short_last n prefix ls h = elim (first_start ls) as (λ s. AreShort n (if_some s (starting_range prefix) (if_some (greatest_low ls) (λ low. bounded_range prefix low (least_high ls)) (equal_range prefix)))) [
  | Some t ↦ record { low_end = short_next n prefix (Str t) h; high_end = tt }
  | None ↦ elim (greatest_low ls) as (λ s. AreShort n (if_some s (λ low. bounded_range prefix low (least_high ls)) (equal_range prefix))) [
    | Some low ↦ record { low_end = short_next n prefix low.value h; high_end = short_high n prefix (least_high ls) h }
    | None ↦ short_equal n prefix (omega arith)
  ]
]

short_from : (n : ℕ) (only : List (List Atom)) (prefix : List Value) (columns : List ℕ) → length prefix + length columns ≤ n → AreShort n (range_from only prefix columns)
short_from n only prefix [] h = short_equal n prefix (omega arith)
short_from n only prefix (c ∷ more) h = elim (first_equal (limits_on c only)) as (λ s. AreShort n (if_some s (λ v. range_from only (prefix ++ v ∷ []) more) (last_range prefix (limits_on c only)))) [
  | Some v ↦ short_from n only (prefix ++ v ∷ []) more (omega (arith, length-append prefix (v ∷ [])))
  | None ↦ short_last n prefix (limits_on c only) (omega arith)
]

pub range_short : (only : List (List Atom)) (columns : List ℕ) → AreShort (length columns) (range_for only columns)
range_short only columns = short_from (length columns) only [] columns (omega arith)
