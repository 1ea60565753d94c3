-- Bounds and ranges of one number.
use Rattle.std.specs.Prelude.{ℤ, [], ◌∷◌, true, false, Some}
use Rattle.rv_value.specs.declared.range.Bound.{Bound}
use Rattle.rv_value.specs.declared.range.Range.{Range}
use Rattle.rv_value.specs.declared.value.Value.TheVariants.{Int}

-- a closed bound that is one number
abbrev pub closed_at : ℤ → Bound
closed_at number = record { key = Int number ∷ []; closed = true }

-- the range of the keys between two numbers
abbrev pub between : ℤ → ℤ → Range
between low high = record { low = Some (closed_at low); high = Some (closed_at high); starts = false }
