-- What the fakes in memory show.
use Rattle.std.specs.Prelude.{ℕ, List}

-- the bytes left, the calls that fail, the calls made, and how many of them failed
pub record Reading : Type 0 where
  pub left : List ℕ
  pub fails : List ℕ
  pub calls : ℕ
  pub faults : ℕ

-- the bytes written, the room left, the calls that fail, the calls made, and how many of them failed
pub record Writing : Type 0 where
  pub written : List ℕ
  pub room : ℕ
  pub fails : List ℕ
  pub calls : ℕ
  pub faults : ℕ
