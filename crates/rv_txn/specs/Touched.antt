-- A commit is written at a row.
use Rattle.std.specs.Prelude.{ℕ, List, slice_set}
use Rattle.rv_model.specs.Transactions.{touched_in}

abbrev pub touch_at : ℕ → ℕ → ℕ → List (List ℕ) → List (List ℕ)
touch_at commit table row touched = slice_set touched table (slice_set (touched_in touched table) row commit)
