-- How things are found in the state of the database.
use Rattle.std.specs.Prelude.{ℕ, List, [], Option, false, ◌==◌, ◌&&◌, position, bytes_eq}
use Rattle.std.specs.List.{slice_index_or}
use Rattle.rv_value.specs.declared.record.Record.{Record}
use Rattle.rv_catalog.specs.declared.def.IndexDef.{IndexDef}
use Rattle.rv_model.specs.declared.state.State.{State}
use Rattle.rv_model.specs.declared.state.Cursor.{Cursor}
use Rattle.rv_model.specs.Transactions.{no_transactions}

-- the place of the session's cursor of this name
abbrev pub cursor_named : List Cursor → ℕ → List ℕ → Option ℕ
cursor_named cursors session name =
    position (λ (c : Cursor). (c.session == session) && bytes_eq c.name name) cursors

-- no table, last commit 0, next transaction 1
abbrev pub empty : State
empty =
    record {
      schema = record { tables = []; indexes = [] };
      rows = [];
      last = 0;
      transactions = no_transactions;
      bases = [];
      cursors = [];
    }

-- what stands behind the last cursor
abbrev pub no_cursor : Cursor
no_cursor = record { session = 0; name = []; table = 0; offers = [] }

-- the cursor in a place, or one of no session
abbrev pub cursor_at : List Cursor → ℕ → Cursor
cursor_at cursors place =
    slice_index_or cursors place (record { session = 0; name = []; table = 0; offers = [] })

-- the rows of a table, where each table has its rows
abbrev pub rows_at : List (List Record) → ℕ → List Record
rows_at tables number = slice_index_or tables number []

-- the rows of a table at the base of the transaction in a place
abbrev pub base_rows : State → ℕ → ℕ → List Record
base_rows s own table = rows_at (slice_index_or s.bases own []) table

-- what stands behind the last index
abbrev pub no_index : IndexDef
no_index = record { name = []; table = 0; columns = []; unique = false }

-- an index's number is its position
abbrev pub index_at : List IndexDef → ℕ → IndexDef
index_at indexes number = slice_index_or indexes number no_index
