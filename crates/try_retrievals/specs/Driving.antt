-- What driving an access leaves, and what it gives.
use Rattle.std.specs.Prelude.{◌≡◌, ℕ, List, ◌++◌, map, IsPermutation}
use Rattle.rv_value.specs.declared.record.Record.{Record}
use Rattle.rv_reader.specs.Shown.{Shown}
use Rattle.rv_access.specs.declared.access.Access.{Access}
use Rattle.rv_access.specs.Accesses.{AccessFits, query_of, rest}

-- the access fits what a reader shows, with the same rest for the same query
pub record Stays (shown : Shown) (old new : Access) : Type 0 where
  pub fits : AccessFits new shown
  pub rest : rest new shown ≡ rest old shown
  pub query : query_of new ≡ query_of old

-- the numbers of rows
abbrev pub numbers_of : List Record → List ℕ
numbers_of rows = map (λ (r : Record). r.row.0) rows

-- the access fits, and the rows given so far and those of the rest are, each once, those that were to be given
pub record Gives (shown : Shown) (due given : List Record) (now : Access) : Type 0 where
  pub fits : AccessFits now shown
  pub once : IsPermutation (numbers_of due) (numbers_of (given ++ rest now shown))
