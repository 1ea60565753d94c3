-- How many entries of a tree are in a range, about, by the node at which the range first spreads over children.
use Rattle.std.specs.Prelude.{ℕ, zero, suc, ◌-◌, ◌*◌, ◌^◌, min, List, [], ◌∷◌, map, length, true, false, if◌then◌else◌, ◌==◌}
use Rattle.rv_value.specs.declared.record.IndexEntry.{IndexEntry}
use Rattle.rv_value.specs.declared.range.Range.{Range}
use Rattle.rv_value.specs.Ranges.{is_empty}
use Rattle.rv_reader.specs.declared.reader.Estimate.{Estimate}
use Rattle.rv_reader.specs.Entries.{run}
use Rattle.rv_node.specs.Children.{first_child, last_child}
use Rattle.rv_node.specs.Trees.{Tree, Whole}

abbrev pub exactly : ℕ → Estimate
exactly count = record { value = count; exact = true }

-- at the split node: (k - 1) * 16 ^ level for k children, held at the greatest number
abbrev pub guess : ℕ → ℕ → ℕ → Estimate
guess level first last = record { value = min (2 ^ 64 - 1) ((last - first) * 16 ^ level); exact = false }

-- what a child gives, by its place
abbrev pub in_child : {E T X : Type 0} → (T → X) → X → ℕ → List (E × T) → X
in_child f none at [] = none
in_child f none zero (kid ∷ kids) = f kid.1
in_child f none (suc at) (kid ∷ kids) = in_child f none at kids

-- one child goes on, more are split
abbrev pub estimate_by : {T : Type 0} → (T → Estimate) → ℕ → Range → List IndexEntry → List (IndexEntry × T) → Estimate
estimate_by f level range lows kids =
    if first_child range lows == last_child range lows then in_child f (exactly 0) (first_child range lows) kids
    else guess level (first_child range lows) (last_child range lows)

-- the descent to the split node; a leaf is counted
abbrev pub estimate_in : (level : ℕ) → Range → Tree IndexEntry level → Estimate
estimate_in zero range t = exactly (length (run t range))
estimate_in (suc level) range t = estimate_by (estimate_in level range) (suc level) range (map (λ kid. kid.0) t) t

-- an empty range has no entry
abbrev pub estimate : Whole IndexEntry → Range → Estimate
estimate w range = if is_empty range then exactly 0 else estimate_in w.0 range w.1
