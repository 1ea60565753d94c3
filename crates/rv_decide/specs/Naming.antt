-- Indexes whose names are all different.
use Rattle.std.specs.Prelude.{◌≡◌, ℕ, List, [], ◌∷◌, Bool, false, bytes_eq}
use Rattle.std.specs.List.{list_any}
use Rattle.rv_catalog.specs.declared.def.IndexDef.{IndexDef}

-- one of these indexes has the name
abbrev pub is_named : List ℕ → List IndexDef → Bool
is_named name = list_any (λ (d : IndexDef). bytes_eq name d.name)

abbrev pub AreNamedApart : List IndexDef → Type 0
AreNamedApart [] = Unit {0}
AreNamedApart (d ∷ ds) = (is_named d.name ds ≡ false) × AreNamedApart ds
