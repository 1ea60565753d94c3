-- A descent from a node to a leaf: it goes on past each low entry that passes a test, and stops at the first that does
-- not, at which the following child begins.
use Rattle.std.specs.Prelude.{ℕ, zero, suc, List, [], ◌∷◌, Bool, Option, Some, if◌then◌else◌}
use Rattle.rv_node.specs.Trees.{Tree}

abbrev pub descend_from : {E T X : Type 0} → (E → Bool) → (T → Option E → X) → T → List (E × T) → Option E → X
descend_from goes f t [] next = f t next
descend_from goes f t (kid ∷ kids) next = if goes kid.0 then descend_from goes f kid.1 kids next else f t (Some kid.0)

abbrev pub descend : {E T X : Type 0} → (E → Bool) → (T → Option E → X) → X → List (E × T) → Option E → X
descend goes f none [] next = none
descend goes f none (kid ∷ kids) next = descend_from goes f kid.1 kids next

-- the leaf, and the cut that follows it
abbrev pub leaf_in : {E : Type 0} (level : ℕ) → (E → Bool) → Tree E level → Option E → List E × Option E
leaf_in zero goes t next = (t, next)
leaf_in (suc level) goes t next = descend goes (leaf_in level goes) ([], next) t next

-- the same step over low entries and ids
abbrev pub child_from : {E : Type 0} → (E → Bool) → ℕ → List E → List ℕ → Option E → ℕ × Option E
child_from goes id [] ids next = (id, next)
child_from goes id (low ∷ lows) [] next = (id, next)
child_from goes id (low ∷ lows) (kid ∷ kids) next =
    if goes low then child_from goes kid lows kids next else (id, Some low)

abbrev pub child_in : {E : Type 0} → (E → Bool) → List E → List ℕ → Option E → ℕ × Option E
child_in goes [] ids next = (0, next)
child_in goes (low ∷ lows) [] next = (0, next)
child_in goes (low ∷ lows) (id ∷ ids) next = child_from goes id lows ids next
