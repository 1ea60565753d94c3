-- What crosses threads.
use base.Fml.{Lft}
use base.Shift.{Keyless}
use base.Before.{chain}
use mathlib.Core.List.{List, [], ◌∷◌, ◌++◌}

-- That one lifetime ends before another means the same in every thread.
pub chain_keyless : (νs : List Lft) (κ α : Lft) → Keyless (chain νs κ α)
chain_keyless [] κ α = λ _. tt
chain_keyless (ν ∷ νs) κ α = ((λ q. tt), chain_keyless νs (ν ++ κ) α)
