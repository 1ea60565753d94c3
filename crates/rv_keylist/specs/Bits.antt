-- The bits of a filter of 65,536 bits, kept in 1,024 words.
use Rattle.std.specs.Prelude.{◌≡◌, ℕ, ◌*◌, ◌/◌, ◌%◌, ◌^◌, ◌==◌, List, Bool, ◌||◌, slice_index_or}
use Rattle.std.specs.Int.{bit_at}

-- the bit of a key: the top 16 bits of the key times the golden ratio's fraction, modulo 2 ^ 64
abbrev pub bit_of : ℕ → ℕ
bit_of key = key * 0x9E3779B97F4A7C15 % 2 ^ 64 / 2 ^ 48

-- bit b is bit b mod 64 of word b / 64
abbrev pub is_set : List ℕ → ℕ → Bool
is_set words b = bit_at (slice_index_or words (b / 64) 0) (b % 64) == 1

-- whether the bit of a key is set
abbrev pub holds : List ℕ → ℕ → Bool
holds words key = is_set words (bit_of key)

-- new has the bits of old, and this one
pub record SetsBit (old new : List ℕ) (bit : ℕ) : Type 0 where
  pub bits : (b : ℕ) → is_set new b ≡ (is_set old b || (b == bit))
