-- The children of a node that may hold keys of a range.
use Rattle.std.specs.Prelude.{ℕ, ◌+◌, List, [], ◌∷◌, take, drop, Bool, if◌then◌else◌}
use Rattle.rv_value.specs.declared.record.IndexEntry.{IndexEntry}
use Rattle.rv_value.specs.declared.range.Range.{Range}
use Rattle.rv_reader.specs.Halves.{is_before, is_not_after}

-- the place of the last entry that passes a test, counted from a place on; another one where none passes
abbrev pub last_place : {E : Type 0} → (E → Bool) → ℕ → ℕ → List E → ℕ
last_place passes at best [] = best
last_place passes at best (e ∷ es) = last_place passes (at + 1) (if passes e then at else best) es

-- the last child is the first one, or the last whose low entry is not after the range
abbrev pub last_child : Range → List IndexEntry → ℕ
last_child range lows = last_place (is_not_after range) 1 0 (drop 1 lows)

-- the first child is the first one, or the last up to the last child whose low entry is before the range
abbrev pub first_child : Range → List IndexEntry → ℕ
first_child range lows = last_place (is_before range) 1 0 (take (last_child range lows) (drop 1 lows))
