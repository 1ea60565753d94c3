-- The room for the rows that a retrieval remembers.
use Rattle.std.specs.Prelude.{◌≡◌, ℕ, Bool, true, false, List, [], Option, Some, None, is_some}
use Rattle.rv_judge.specs.declared.events.Strategy.{Strategy}
use Rattle.rv_judge.specs.declared.events.Strategy.TheVariants.{Table, BackgroundOnly, FastFirst, Sorted, IndexOnly, Union}

-- whether rows are remembered: those that a foreground gives while a background runs, where what is left is told by
-- what was given
abbrev pub must_remember : Strategy → Bool
must_remember Table = false
must_remember BackgroundOnly = false
must_remember FastFirst = true
must_remember Sorted = false
must_remember IndexOnly = true
must_remember Union = false

-- the rows remembered; none where there is no room for any
abbrev pub rows_given : Option (List ℕ) → List ℕ
rows_given None = []
rows_given (Some rows) = rows

-- there is room exactly where rows are remembered
pub record HasRoom (strategy : Strategy) (delivered : Option (List ℕ)) : Type 0 where
  pub room : is_some delivered ≡ must_remember strategy
