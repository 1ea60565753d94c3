-- Believed (law): after every history each row has a number that its table gave.
use Rattle.std.specs.Prelude.{ℕ, ◌<◌, List}
use Rattle.std.specs.List.{AllByRecursion}
use Rattle.rv_value.specs.declared.record.Record.{Record}
use Rattle.rv_rows.specs.declared.changes.Change.{Change}
use Rattle.rv_model.specs.declared.entry.Entry.{Entry}
use Rattle.rv_model.specs.declared.state.State.{State}
use Rattle.rv_model.specs.declared.transactions.Transaction.{Transaction}
use Rattle.rv_model.specs.Database.{rows_at}
use Rattle.rv_model.specs.History.{after}
use Rattle.rv_model.specs.Transactions.{next_row}

-- the numbers of rows are below this one
abbrev pub AreTaken : ℕ → List Record → Type 0
AreTaken next = AllByRecursion (λ (r : Record). r.row.0 < next)

-- so of each table, by its next row number
abbrev pub TablesTaken : (ℕ → ℕ) → List (List Record) → Type 0
TablesTaken next tables = (table : ℕ) → AreTaken (next table) (rows_at tables table)

-- changes are of rows whose numbers were given
abbrev pub ChangesTaken : (ℕ → ℕ) → List Change → Type 0
ChangesTaken next = AllByRecursion (λ (c : Change). c.row.0 < next c.table)

-- The rows of the last commit, those of each base, and those that transactions have changed: each
-- has a number below its table's next.
pub record HasTaken (s : State) : Type 0 where
  pub rows : TablesTaken (next_row s.transactions.touched) s.rows
  pub bases : AllByRecursion (TablesTaken (next_row s.transactions.touched)) s.bases
  pub changes : AllByRecursion (λ (t : Transaction).
      ChangesTaken (next_row s.transactions.touched) t.changes) s.transactions.active

-- LAW: be the replies as they may
abbrev pub StaysTaken : Type 0
StaysTaken = (history : List Entry) → HasTaken (after history)
