-- Believed (law): what holds of the database after every history.
use Rattle.std.specs.Prelude.{◌≡◌, ◌≢◌, ◌<◌, List, [], ◌∷◌, length}
use Rattle.std.specs.List.{AllByRecursion}
use Rattle.rv_model.specs.declared.entry.Entry.{Entry}
use Rattle.rv_model.specs.declared.state.State.{State}
use Rattle.rv_model.specs.declared.state.Cursor.{Cursor}
use Rattle.rv_model.specs.declared.transactions.Transaction.{Transaction}
use Rattle.rv_model.specs.History.{after}

-- so of each two, the one in front first
abbrev pub EachTwo : {X : Type 0} → (X → X → Type 0) → List X → Type 0
EachTwo R [] = Unit {0}
EachTwo R (x ∷ xs) = AllByRecursion (R x) xs × EachTwo R xs

-- of two sessions, and the one that began first has the lower number
pub record BeginsBefore (t u : Transaction) : Type 0 where
  pub session : t.session ≢ u.session
  pub number : t.number < u.number

-- not of the same session and name
abbrev pub IsOther : Cursor → Cursor → Type 0
IsOther c d = c.session ≡ d.session → c.name ≢ d.name

-- A session has at most one transaction; they are numbered in the order in which they began, below
-- the next number; each has the rows of its base beside it; and a session's cursors differ by name.
pub record IsOrderly (s : State) : Type 0 where
  pub active : EachTwo BeginsBefore s.transactions.active
  pub below : AllByRecursion (λ (t : Transaction). t.number < s.transactions.next)
      s.transactions.active
  pub bases : length s.bases ≡ length s.transactions.active
  pub cursors : EachTwo IsOther s.cursors

-- LAW: be the replies as they may
abbrev pub StaysOrderly : Type 0
StaysOrderly = (history : List Entry) → IsOrderly (after history)
