-- The database for which a store, a catalog and transactions stand.
use Rattle.std.specs.Prelude.{◌∷◌, ◌+◌, Some, None, ◌≡◌, ℕ, ◌<◌, ◌≤◌, ◌==◌, ◌&&◌, List, [], Option, map, filter, length, position, bytes_eq, IfSome}
use Rattle.std.specs.List.{AllByRecursion, range_with_len, slice_index_or}
use Rattle.rv_value.specs.declared.record.Record.{Record}
use Rattle.rv_rows.specs.declared.changes.Change.{Change}
use Rattle.rv_rows.specs.Changes.{rows_with_changes}
use Rattle.rv_view.specs.Making.{Keeps}
use Rattle.rv_overlay.specs.declared.frozen.Frozen.{Frozen}
use Rattle.rv_own.specs.Views.{AreViews, base_in}
use Rattle.rv_own.specs.declared.views.OwnView.{OwnView}
use Rattle.rv_catalog.specs.declared.def.IndexDef.{IndexDef}
use Rattle.rv_catalog.specs.Kept.{indexes_over}
use Rattle.rv_catalog.specs.Schema.{Schema, width}
use Rattle.rv_reader.specs.Shown.{Shown, IsSnapshot, CanRead}
use Rattle.rv_model.specs.declared.state.State.{State}
use Rattle.rv_model.specs.declared.state.Cursor.{Cursor}
use Rattle.rv_model.specs.declared.transactions.Transaction.{Transaction}
use Rattle.rv_model.specs.declared.transactions.Transactions.{Transactions}
use Rattle.rv_model.specs.Database.{no_index}
use Rattle.rv_model.specs.Transactions.{next_row}
use Rattle.rv_join.specs.Asking.{indexes_from, item_at}
use Rattle.rv_cursor.specs.declared.cursor.Open.{Open}
use Rattle.rv_cursor.specs.Left.{CursorFits, left}

-- the rows of each table at a snapshot
abbrev pub image : Shown → ℕ → ℕ → List (List Record)
image shown tables snap = map (λ table. shown.rows table snap) (range_with_len 0 tables)

-- of each active transaction the rows of each table at its base
abbrev pub bases_of : Shown → ℕ → List Transaction → List (List (List Record))
bases_of shown tables active = map (λ (t : Transaction). image shown tables t.base) active

-- the committed rows are those of the store at its newest commit
abbrev pub db_of : Shown → Schema → Transactions → List Cursor → State
db_of shown schema transactions cursors = record {
  schema = schema;
  rows = image shown (length schema.tables) shown.newest;
  last = shown.newest;
  transactions = transactions;
  bases = bases_of shown (length schema.tables) transactions.active;
  cursors = cursors;
}

-- an open cursor as the definitions have it
abbrev pub seen_of : Shown → Open → Cursor
seen_of shown c =
    record { session = c.session; name = c.name; table = (item_at c.plan.asked 0).table; offers = left shown c }

abbrev pub seen : Shown → List Open → List Cursor
seen shown cursors = map (seen_of shown) cursors

-- the place of the session's open cursor of a name, and the cursors of the session
abbrev pub open_named : List Open → ℕ → List ℕ → Option ℕ
open_named cursors session name = position (λ (c : Open). (c.session == session) && bytes_eq c.name name) cursors

abbrev pub own_opens : List Open → ℕ → List Open
own_opens cursors session = filter (λ (c : Open). c.session == session) cursors

-- a database, and the horizon of its store
pub record Stand : Type 0 where
  pub db : State
  pub horizon : ℕ

abbrev pub stand_of : Shown → Schema → Transactions → List Cursor → Stand
stand_of shown schema transactions cursors =
    record { db = db_of shown schema transactions cursors; horizon = shown.horizon }

-- the same with its store, the open cursors, in the order in which they were opened, and the number of the next
pub record Whole (S : Type 0) : Type 0 where
  pub store : S
  pub stand : Stand
  pub opens : List Open
  pub opened : ℕ

abbrev pub whole_of : {S : Type 0} → S → Shown → Schema → Transactions → List Open → ℕ → Whole S
whole_of store shown schema transactions opens opened = record {
  store = store;
  stand = stand_of shown schema transactions (seen shown opens);
  opens = opens;
  opened = opened;
}

-- the base of the session's transaction, where it has one
abbrev pub base_of : List Transaction → ℕ → Option ℕ
base_of = base_in

-- a change that the store takes, of a row whose number was taken
pub record IsOwn (shown : Shown) (touched : List (List ℕ)) (c : Change) : Type 0 where
  pub there : c.table < shown.tables
  pub taken : c.row.0 < next_row touched c.table
  pub width : IfSome c.values (λ values. length values ≡ shown.columns c.table)

-- a transaction whose base is a snapshot of the store
pub record IsActive (shown : Shown) (touched : List (List ℕ)) (t : Transaction) : Type 0 where
  pub base : IsSnapshot shown t.base
  pub changes : AllByRecursion (IsOwn shown touched) t.changes

-- row numbers below the next one of a table
abbrev pub AreTaken : List (List ℕ) → ℕ → List Record → Type 0
AreTaken touched table rows = AllByRecursion (λ (r : Record). r.row.0 < next_row touched table) rows

-- the store has the index of a number as the schema has it
pub record HasIndex (shown : Shown) (indexes : List IndexDef) (index : ℕ) : Type 0 where
  pub over : shown.over index ≡ (slice_index_or indexes index no_index).table
  pub keys : shown.keys index ≡ (slice_index_or indexes index no_index).columns

-- The store has the tables and the indexes of the schema, indexes are over these tables, each row has a number that
-- was taken, at most 1,000,000 were taken of a table, and each base is a snapshot.
pub record IsTied (shown : Shown) (schema : Schema) (transactions : Transactions) : Type 0 where
  pub count : shown.tables ≡ length schema.tables
  pub columns : (table : ℕ) → table < length schema.tables → shown.columns table ≡ width schema.tables table
  pub indexes : (table : ℕ) → length schema.tables ≤ table → indexes_over table schema.indexes ≡ 0
  pub indexed : shown.indexes ≡ length schema.indexes
  pub each : (index : ℕ) → index < length schema.indexes → HasIndex shown schema.indexes index
  pub over : (table : ℕ) → indexes_over table schema.indexes ≤ 8
  pub standing : shown.horizon ≤ shown.newest
  pub given : (table snap : ℕ) → CanRead shown table snap → AreTaken transactions.touched table (shown.rows table snap)
  pub few : (table : ℕ) → next_row transactions.touched table ≤ 1000000
  pub active : AllByRecursion (IsActive shown transactions.touched) transactions.active

-- the rows of a table at a snapshot, with what a transaction froze applied where it has changes
abbrev pub view_at : Shown → ℕ → Option Frozen → ℕ → List Record
view_at shown snap None table = shown.rows table snap
view_at shown snap (Some f) table = rows_with_changes table f.changes (shown.rows table snap)

-- what was frozen of a transaction on a snapshot is what changes make that it may make
pub record IsViewed (shown : Shown) (touched : List (List ℕ)) (snap : ℕ) (f : Frozen) : Type 0 where
  pub base : f.base ≡ snap
  pub rows_written : List Change
  pub keeps : Keeps shown f rows_written
  pub changes : AllByRecursion (IsOwn shown touched) f.changes

-- An open cursor stands at the base of its session's transaction, and its plan knows the indexes of the schema.
pub record IsOpen (shown : Shown) (schema : Schema) (active : List Transaction) (c : Open) : Type 0 where
  pub base : base_of active c.session ≡ Some c.snap
  pub fits : CursorFits shown c
  pub over : (item_at c.plan.asked 0).indexes ≡ indexes_from (item_at c.plan.asked 0).table 0 schema.indexes

-- cursors have ascending numbers, from a first one on and below another
abbrev pub AreNumbered : ℕ → ℕ → List Open → Type 0
AreNumbered low high [] = low ≤ high
AreNumbered low high (c ∷ cs) = (low ≤ c.number) × AreNumbered (c.number + 1) high cs

-- The open cursors stand in the order of their numbers, which lie below the next, and no session has more than 16 of
-- them.
pub record AreListed (next : ℕ) (cursors : List Open) : Type 0 where
  pub numbers : AreNumbered 1 next cursors
  pub few : (session : ℕ) → length (own_opens cursors session) ≤ 16
  pub sessions : AllByRecursion (λ (c : Open). c.session < 256) cursors

-- what a database keeps
pub record IsStanding (shown : Shown) (schema : Schema) (transactions : Transactions) (cursors : List Open)
    (opened : ℕ) : Type 0 where
  pub tied : IsTied shown schema transactions
  pub opens : AllByRecursion (IsOpen shown schema transactions.active) cursors
  pub listed : AreListed opened cursors

-- the same, and what is kept of its transactions' views is what their changes make
pub record IsWhole (shown : Shown) (schema : Schema) (transactions : Transactions) (views : List OwnView)
    (cursors : List Open) (opened : ℕ) : Type 0 where
  pub standing : IsStanding shown schema transactions cursors opened
  pub views_kept : AreViews shown transactions.active views
