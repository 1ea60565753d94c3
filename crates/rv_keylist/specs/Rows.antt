-- Rows that were delivered, as a set: their numbers, ascending.
use Rattle.std.specs.Prelude.{◌≡◌, ℕ, ◌+◌, ◌≤◌, List, ◌||◌, nat_eq, length}
use Rattle.std.specs.List.Sorted.{IsStrictlyIncreasing}
use Rattle.rv_keylist.specs.Keys.{has_key}

-- the set with one row more
pub record AddsRow (old new : List ℕ) (row : ℕ) : Type 0 where
  pub rows : (other : ℕ) → has_key other new ≡ (nat_eq other row || has_key other old)
  pub count : length new ≡ length old + 1

-- what the buffer keeps
pub record IsBuffer (rows : List ℕ) (capacity : ℕ) : Type 0 where
  pub ascends : IsStrictlyIncreasing rows
  pub places : 1024 ≤ capacity
  pub count : length rows ≤ 1024
