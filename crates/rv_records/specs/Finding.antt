-- Rows around a number.
use Rattle.std.specs.Prelude.{ℕ, List, [], ◌∷◌, Bool, Option, Some, None, nat_lt, ◌==◌, if◌then◌else◌}
use Rattle.rv_value.specs.declared.record.Record.{Record}

abbrev pub below : ℕ → Record → Bool
below number r = nat_lt r.row.0 number

-- the first row, where it has the number
abbrev pub row_from : ℕ → List Record → Option Record
row_from number [] = None
row_from number (r ∷ rows) = if r.row.0 == number then Some r else None
