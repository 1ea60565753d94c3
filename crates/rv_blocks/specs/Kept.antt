-- What a list in blocks keeps.
use Rattle.std.specs.Prelude.{◌≡◌, ℕ, List, length, Bool}
use Rattle.rv_blocks.specs.Flat.{AreSized, flat}
use Rattle.rv_rows.specs.Rising.{Rising}

pub record Kept {X : Type 0} (before : X → X → Bool) (count : ℕ) (blocks : List (List X)) : Type 0 where
  pub sized : AreSized blocks
  pub counted : count ≡ length (flat blocks)
  pub rises : Rising before (flat blocks)
