-- Which rows may be among the keys, and the bits that keys set in a filter.
use Rattle.std.specs.Prelude.{◌≡◌, ℕ, List, Bool, ◌==◌, nat_le, if◌then◌else◌, length}
use Rattle.std.specs.List.{list_any}
use Rattle.rv_keylist.specs.Bits.{bit_of, is_set}
use Rattle.rv_keylist.specs.Keys.{has_key}

-- whether some key has this bit of the filter
abbrev pub has_bit : ℕ → List ℕ → Bool
has_bit bit keys = list_any (λ k. bit == bit_of k) keys

-- what may be in a list: up to 1,024 keys are known each, and of more keys the bits
abbrev pub may_key : ℕ → List ℕ → Bool
may_key row keys = if nat_le (length keys) 1024 then has_key row keys else has_bit (bit_of row) keys

-- a filter's words have the bits of these keys and no other
pub record Marks (words : List ℕ) (keys : List ℕ) : Type 0 where
  pub bits : (b : ℕ) → is_set words b ≡ has_bit b keys
