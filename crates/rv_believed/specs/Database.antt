-- Believed: what a database is, and what its transactions see.
use Rattle.std.specs.Prelude.{ℕ, List, [], Bool, Option, not, ◌==◌, filter, find, map, if◌then◌else◌}
use Rattle.rv_value.specs.declared.record.Record.{Record}
use Rattle.rv_rows.specs.declared.changes.Change.{Change}
use Rattle.rv_rows.specs.Changes.{rows_with_changes}
use Rattle.rv_catalog.specs.declared.def.IndexDef.{IndexDef}
use Rattle.rv_catalog.specs.declared.def.TableDef.{TableDef}
use Rattle.rv_model.specs.declared.state.Cursor.{Cursor}

-- An active transaction: the commit on which it began and the rows of each table then, and its own
-- changes, ascending by table and row, at most one for each row.
pub record Transaction : Type 0 where
  pub number : ℕ
  pub session : ℕ
  pub read_only : Bool
  pub base : ℕ
  pub rows : ℕ → List Record
  pub changes : List Change

-- THE DATABASE. Tables and indexes stand in the order of their creation, and their numbers are
-- their places. Of each table: the rows at the last commit, ascending by number; the number of the
-- next row; and of each row the commit that last wrote it, 0 where none did. Active transactions
-- stand in the order in which they began.
pub record Database : Type 0 where
  pub tables : List TableDef
  pub indexes : List IndexDef
  pub rows : ℕ → List Record
  pub next_row : ℕ → ℕ
  pub written_by : ℕ → ℕ → ℕ
  pub last : ℕ
  pub next : ℕ
  pub active : List Transaction
  pub cursors : List Cursor

-- no table; the last commit is 0, and the next transaction is 1
abbrev pub empty : Database
empty = record {
  tables = [];
  indexes = [];
  rows = λ table. [];
  next_row = λ table. 0;
  written_by = λ table row. 0;
  last = 0;
  next = 1;
  active = [];
  cursors = [];
}

-- WHAT A TRANSACTION SEES of a table: the rows on which it began, with its own changes
abbrev pub view : Transaction → ℕ → List Record
view t table = rows_with_changes table t.changes (t.rows table)

-- the session's transaction
abbrev pub transaction_of : Database → ℕ → Option Transaction
transaction_of d session = find (λ (t : Transaction). t.session == session) d.active

-- the transactions of the other sessions
abbrev pub others : Database → ℕ → List Transaction
others d session = filter (λ (t : Transaction). not (t.session == session)) d.active

-- with other changes of the session's transaction
abbrev pub with_changed : Database → ℕ → List Change → Database
with_changed d session cs =
    let one = λ (t : Transaction). if t.session == session then record t { changes = cs } else t in
    record d { active = map one d.active }

-- without the transaction and the cursors of a session
abbrev pub without_session : Database → ℕ → Database
without_session d session =
    let cursors = filter (λ (c : Cursor). not (c.session == session)) d.cursors in
    record d { active = others d session; cursors = cursors }
