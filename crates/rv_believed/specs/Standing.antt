-- Believed (law): the database for which a working state stands.
use Rattle.std.specs.Prelude.{◌≡◌, ◌≤◌, List, [], ◌∷◌, Ok, Err, length}
use Rattle.rv_value.specs.declared.record.Record.{Record}
use Rattle.rv_model.specs.declared.entry.Entry.{Entry}
use Rattle.rv_model.specs.declared.state.State.{State}
use Rattle.rv_model.specs.declared.transactions.Transaction.{Transaction as Working}
use Rattle.rv_model.specs.Database.{rows_at}
use Rattle.rv_model.specs.History.{after}
use Rattle.rv_model.specs.Step as step
use Rattle.rv_model.specs.Transactions.{next_row, touched_by}
use Rattle.rv_believed.specs.Database.{Database, Transaction}
use Rattle.rv_believed.specs.Orderly.{IsOrderly}
use Rattle.rv_believed.specs.Taken.{HasTaken}
use Rattle.rv_believed.specs.Transactions.{Outcome}

-- a transaction with the rows of its base
abbrev pub transaction_with : Working → List (List Record) → Transaction
transaction_with w base = record {
  number = w.number;
  session = w.session;
  read_only = w.read_only;
  base = w.base;
  rows = rows_at base;
  changes = w.changes;
}

-- the first base
abbrev pub first : List (List (List Record)) → List (List Record)
first [] = []
first (b ∷ bs) = b

-- the bases behind the first one
abbrev pub rest : List (List (List Record)) → List (List (List Record))
rest [] = []
rest (b ∷ bs) = bs

-- each transaction with the rows of its base, which stand beside it
abbrev pub with_bases : List Working → List (List (List Record)) → List Transaction
with_bases [] bs = []
with_bases (w ∷ ws) bs = transaction_with w (first bs) ∷ with_bases ws (rest bs)

-- THE DATABASE of a state: lists by number are read as functions
abbrev pub database : State → Database
database s = record {
  tables = s.schema.tables;
  indexes = s.schema.indexes;
  rows = rows_at s.rows;
  next_row = next_row s.transactions.touched;
  written_by = touched_by s.transactions.touched;
  last = s.last;
  next = s.transactions.next;
  active = with_bases s.transactions.active s.bases;
  cursors = s.cursors;
}

-- an outcome, as that of the database
abbrev pub outcome_of : step.Outcome → Outcome
outcome_of (Ok done) = Ok (done.0, database done.1)
outcome_of (Err refusal) = Err refusal

-- each table has a list of rows, and of no more than the tables row numbers were taken
pub record IsOfTables (s : State) : Type 0 where
  pub rows : length s.rows ≡ length s.schema.tables
  pub touched : length s.transactions.touched ≤ length s.schema.tables

-- what a state keeps from its first on
pub record IsSound (s : State) : Type 0 where
  pub orderly : IsOrderly s
  pub taken : HasTaken s
  pub tables : IsOfTables s

-- LAW: be the replies as they may
abbrev pub StaysSound : Type 0
StaysSound = (history : List Entry) → IsSound (after history)
