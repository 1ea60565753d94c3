-- Lists of row numbers as keys.
use Rattle.std.specs.Prelude.{ℕ, ◌<◌, ◌≤◌, List, Bool, nat_eq, length, slice_index_or}
use Rattle.std.specs.List.{list_any, IsDistinct}

-- whether a row is among the keys
abbrev pub has_key : ℕ → List ℕ → Bool
has_key row keys = list_any (nat_eq row) keys

-- each key stands once
abbrev pub Once : List ℕ → Type 0
Once keys = IsDistinct nat_eq keys

-- where a row stands among ascending keys: those before the place are lower, and those from it on higher
pub record IsPlace (keys : List ℕ) (row at : ℕ) : Type 0 where
  pub within : at ≤ length keys
  pub lower : (k : ℕ) → k < at → slice_index_or keys k 0 < row
  pub higher : (k : ℕ) → at ≤ k → k < length keys → row < slice_index_or keys k 0
