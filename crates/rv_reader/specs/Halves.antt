-- What a search by halves among ascending entries tells.
use Rattle.std.specs.Prelude.{◌≡◌, Bool, not, true, false, ℕ, zero, suc, List, [], ◌∷◌}
use Rattle.rv_value.specs.declared.record.IndexEntry.{IndexEntry}
use Rattle.rv_value.specs.declared.range.Range.{Range}
use Rattle.rv_value.specs.Ranges.{place}
use Rattle.rv_reader.specs.Leaves.{before_side, after_side}

-- the first so many items pass a test, and no other one does
abbrev pub PassesTo : {X : Type 0} → (X → Bool) → ℕ → List X → Type 0
PassesTo p n [] = Unit {0}
PassesTo p zero (x ∷ xs) = (p x ≡ false) × PassesTo p zero xs
PassesTo p (suc n) (x ∷ xs) = (p x ≡ true) × PassesTo p n xs

abbrev pub is_before : Range → IndexEntry → Bool
is_before range e = before_side (place range e.key)

abbrev pub is_not_after : Range → IndexEntry → Bool
is_not_after range e = not (after_side (place range e.key))
