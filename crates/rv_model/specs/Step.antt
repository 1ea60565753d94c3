-- What each statement does: the replies that are allowed, and the next state.
use Rattle.std.specs.Prelude.{◌≡◌, ◌≤◌, ℕ, ◌+◌, List, [], ◌∷◌, ◌++◌, Option, Some, None, Result, Ok, Err, Bool, true, false, ◌==◌, IsSome, length, slice_set, filter, map, nat_lt, is_some, remove, not}
use Rattle.std.specs.List.{slice_index_or, range_with_len}
use Rattle.rv_value.specs.declared.value.Value.{Value}
use Rattle.rv_value.specs.declared.record.Record.{Record}
use Rattle.rv_value.specs.declared.record.RowNo.{RowNo}
use Rattle.rv_rows.specs.declared.changes.Change.{Change}
use Rattle.rv_rows.specs.Changes.{rows_with_changes, with_changes}
use Rattle.rv_lang.specs.declared.statement.Statement.{Statement}
use Rattle.rv_lang.specs.declared.reply.Which.TheVariants.{Tables, Indexes, Cursors}
use Rattle.rv_lang.specs.declared.reply.Refusal.{Refusal}
use Rattle.rv_lang.specs.declared.reply.Refusal.TheVariants.{Syntax, NoTransaction, Busy, NoCursor, CursorOpen, Limit, Duplicate}
use Rattle.rv_lang.specs.declared.reply.Rival.TheVariants.{View}
use Rattle.rv_lang.specs.declared.reply.Reply.{Reply}
use Rattle.rv_lang.specs.declared.reply.Reply.TheVariants.{Created, Began, Inserted, Touched, Committed, RolledBack, Opened, Row, End, Closed, Stepped, Trace, Refused}
use Rattle.rv_restrict.specs.declared.atom.Atom.{Atom}
use Rattle.rv_catalog.specs.declared.def.TableDef.{TableDef}
use Rattle.rv_catalog.specs.declared.def.IndexDef.{IndexDef}
use Rattle.rv_catalog.specs.declared.def.Select.{Select}
use Rattle.rv_catalog.specs.declared.def.Resolved.{Resolved}
use Rattle.rv_catalog.specs.declared.def.Resolved.TheVariants as asks
use Rattle.rv_catalog.specs.Kept.{indexes_over}
use Rattle.rv_catalog.specs.Answers.{◌>>=◌, ok_or, refuse_if}
use Rattle.rv_catalog.specs.Resolve.{resolved}
use Rattle.rv_catalog.specs.Schema.{Schema}
use Rattle.rv_model.specs.declared.state.State.{State}
use Rattle.rv_model.specs.declared.state.Cursor.{Cursor}
use Rattle.rv_model.specs.declared.state.Offer.{Offer}
use Rattle.rv_model.specs.declared.transactions.Transaction.{Transaction}
use Rattle.rv_model.specs.declared.transactions.Transactions.{Transactions}
use Rattle.rv_model.specs.Transactions as transactions
use Rattle.rv_model.specs.Transactions.{change_of, met, refuse_at, touched_by, transaction_of, transaction_at}
use Rattle.rv_model.specs.Database.{cursor_named, cursor_at, rows_at, base_rows}
use Rattle.rv_model.specs.Offers.{offers_in_order, place_of, without}
use Rattle.rv_model.specs.Offering.{offers_over}
use Rattle.rv_model.specs.Rivals.{Neighbour, all_alone, first_equal, neighbours, rows_written, unique_over}
use Rattle.rv_model.specs.Showing.{ShowsTrace}

-- the reply and the state after it, or why the statement is refused
abbrev pub Outcome : Type 0
Outcome = Result (Reply × State) Refusal

-- what a text's statement asks, its names looked up in a schema, or the first refusal up to there
abbrev pub understood : Schema → Option Statement → Result Resolved Refusal
understood schema statement = do
  derived ← ok_or statement Syntax
  resolved schema derived

-- CREATE TABLE: not while a transaction is active, and at most 64 tables.
abbrev pub created : State → TableDef → Outcome
created s def = do
  idle ← refuse_at (transactions.lowest s.transactions.active) Busy
  room ← refuse_if (nat_lt 63 (length s.schema.tables)) (Limit Tables 64)
  Ok (Created, record s { schema = record s.schema { tables = s.schema.tables ++ def ∷ [] }; rows = s.rows ++ [] ∷ [] })

-- a unique index is not made over two rows that are equal in it: the lowest that equals a lower one is shown
abbrev pub rows_differ : State → IndexDef → Result (Unit {0}) Refusal
rows_differ s def = refuse_at (first_equal def (rows_at s.rows def.table)) (λ (r : Record). Duplicate r.row View)

-- CREATE INDEX: not while a transaction is active, at most 8 indexes over a table, and a unique one not where two rows
-- are equal in it.
abbrev pub indexed : State → IndexDef → Outcome
indexed s def = do
  idle ← refuse_at (transactions.lowest s.transactions.active) Busy
  room ← refuse_if (nat_lt 7 (indexes_over def.table s.schema.indexes)) (Limit Indexes 8)
  differ ← rows_differ s def
  Ok (Created, record s { schema = record s.schema { indexes = s.schema.indexes ++ def ∷ [] } })

-- BEGIN: a transaction on the last commit and its tables.
abbrev pub began : State → ℕ → Bool → Outcome
began s session read_only = do
  begun ← transactions.began s.transactions session read_only s.last
  Ok (Began begun.0, record s { transactions = begun.1; bases = s.bases ++ s.rows ∷ [] })

-- the other sessions' transactions, with their numbers and changes
abbrev pub others : List Transaction → ℕ → List (ℕ × List Change)
others active session =
    map (λ (t : Transaction). (t.number, t.changes)) (filter (λ (t : Transaction). not (t.session == session)) active)

-- where rivals of rows of the transaction in a place are looked for, with further changes of it
abbrev pub neighbours_of : State → ℕ → ℕ → ℕ → List Change → List Neighbour
neighbours_of s session own table new =
    neighbours table (with_changes new (transaction_at s.transactions.active own).changes)
    (base_rows s own table) (rows_at s.rows table) (touched_by s.transactions.touched table)
    (others s.transactions.active session)

-- no row that further changes of it write has a rival
abbrev pub no_rivals : State → ℕ → ℕ → ℕ → List Change → Result (Unit {0}) Refusal
no_rivals s session own table new =
    all_alone (unique_over table s.schema.indexes) (neighbours_of s session own table new) (rows_written table new)

-- the same of the session's transaction, where it has one
abbrev pub no_rivals_of : State → ℕ → Option ℕ → ℕ → (ℕ → List Change) → Result (Unit {0}) Refusal
no_rivals_of s session None table new = Ok tt
no_rivals_of s session (Some own) table new = no_rivals s session own table (new own)

-- the change that adds a row
abbrev pub new_change : ℕ → RowNo → List Value → Change
new_change table row values = record { table = table; row = row; values = Some values }

-- the row that the session's transaction adds has no rival
abbrev pub row_alone : State → ℕ → ℕ → List Value → RowNo → Result (Unit {0}) Refusal
row_alone s session table values row =
    no_rivals_of s session (transaction_of s.transactions.active session) table
    (λ own. new_change table row values ∷ [])

-- INSERT: a row that has no rival
abbrev pub inserted : State → ℕ → ℕ → List Value → Outcome
inserted s session table values = do
  more ← transactions.inserted s.transactions session table values
  alone ← row_alone s session table values more.0
  Ok (Inserted more.0, record s { transactions = more.1 })

-- the rows of a table at the base of the transaction in a place, where there is one
abbrev pub rows_seen : State → Option ℕ → ℕ → List Record
rows_seen s None table = []
rows_seen s (Some own) table = base_rows s own table

-- THE VIEW of the transaction in a place: the rows at its base with its own changes
abbrev pub view_rows : State → ℕ → ℕ → List Record
view_rows s own table =
    transactions.seen (transaction_at s.transactions.active own) table (λ base. base_rows s own table)

abbrev pub rows_viewed : State → Option ℕ → ℕ → List Record
rows_viewed s None table = []
rows_viewed s (Some own) table = view_rows s own table

-- the changes of the rows that the transaction in a place meets
abbrev pub changes_met : State → ℕ → Option (List (ℕ × Value)) → List (List Atom) → ℕ → List Change
changes_met s table sets only own =
    map (change_of table sets) (met (transaction_at s.transactions.active own) table only
    (λ base. base_rows s own table))

-- the rows that the session's transaction changes have no rivals then
abbrev pub rows_alone : State → ℕ → ℕ → Option (List (ℕ × Value)) → List (List Atom) → Result (Unit {0}) Refusal
rows_alone s session table sets only =
    no_rivals_of s session (transaction_of s.transactions.active session) table (changes_met s table sets only)

-- UPDATE, which sets columns, and DELETE, which sets none: no row is written that has a rival
abbrev pub changed : State → ℕ → ℕ → Option (List (ℕ × Value)) → List (List Atom) → Outcome
changed s session table sets only = do
  done ← transactions.changed s.transactions session table only sets
      (λ base. rows_seen s (transaction_of s.transactions.active session) table)
  alone ← rows_alone s session table sets only
  Ok (Touched done.0, record s { transactions = done.1 })

-- each table's rows with the changes of them applied
abbrev pub tables_changed : List Change → List (List Record) → List (List Record)
tables_changed changes rows =
    map (λ table. rows_with_changes table changes (rows_at rows table)) (range_with_len 0 (length rows))

-- the cursors of the other sessions
abbrev pub other_cursors : List Cursor → ℕ → List Cursor
other_cursors cursors session = filter (λ (c : Cursor). not (c.session == session)) cursors

-- without the transaction in a place and the cursors of its session
abbrev pub ended : State → ℕ → ℕ → Transactions → State
ended s own session left =
    record s { transactions = left; bases = remove s.bases own; cursors = other_cursors s.cursors session }

-- with its changes applied as the next commit; without a change there is no commit, and the base is answered
abbrev pub committed_with : List Change → State → ℕ → ℕ → Reply × State
committed_with [] s session own =
    let base = (transaction_at s.transactions.active own).base in
    (Committed base, ended s own session (transactions.done s.transactions own base))
committed_with (c ∷ cs) s session own = (
  Committed (s.last + 1),
  record (ended s own session (transactions.done s.transactions own (s.last + 1))) {
    rows = tables_changed (c ∷ cs) s.rows;
    last = s.last + 1;
  },
)

-- COMMIT
abbrev pub committed : State → ℕ → Outcome
committed s session = do
  own ← ok_or (transaction_of s.transactions.active session) NoTransaction
  Ok (committed_with (transaction_at s.transactions.active own).changes s session own)

-- ROLLBACK
abbrev pub rolled_back : State → ℕ → Outcome
rolled_back s session = do
  own ← ok_or (transaction_of s.transactions.active session) NoTransaction
  Ok (RolledBack, ended s own session (transactions.without s.transactions own))

abbrev pub own_cursors : List Cursor → ℕ → List Cursor
own_cursors cursors session = filter (λ (c : Cursor). c.session == session) cursors

-- the table of the first FROM item
abbrev pub table_of : Select → ℕ
table_of select = slice_index_or select.tables 0 0

-- the place of the session's transaction, where it may open a cursor of a name: not a name that is open in the
-- session, and at most 16 cursors
abbrev pub opening : List Transaction → List Cursor → ℕ → List ℕ → Result ℕ Refusal
opening active cursors session name = do
  own ← ok_or (transaction_of active session) NoTransaction
  free ← refuse_if (is_some (cursor_named cursors session name)) (CursorOpen name)
  room ← refuse_if (nat_lt 15 (length (own_cursors cursors session))) (Limit Cursors 16)
  Ok own

-- OPEN: a cursor over the transaction's view as it stands, with an offer for each choice of one row per FROM item whose
-- restriction is True.
abbrev pub opened : State → ℕ → List ℕ → Select → Outcome
opened s session cursor select = do
  own ← opening s.transactions.active s.cursors session cursor
  Ok (
    Opened,
    record s {
      cursors = s.cursors ++ record {
        session = session;
        name = cursor;
        table = table_of select;
        offers = offers_in_order (offers_over select (view_rows s own));
      } ∷ [];
    },
  )

-- A reply that a cursor with these offers may give: the values of some offer whose order values equal the first
-- offer's, and End exactly where there is no offer.
abbrev pub Offers : List Offer → Reply → Type 0
Offers offers (Row values) = IsSome (place_of offers values)
Offers offers End = offers ≡ []
Offers offers reply = ⊥

-- the offers after a reply: the first such offer is taken out
abbrev pub offers_after : List Offer → Reply → List Offer
offers_after offers (Row values) = without (place_of offers values) offers
offers_after offers reply = offers

-- FETCH
abbrev pub AllowsFetch : Option ℕ → State → List ℕ → Reply → Type 0
AllowsFetch None s name reply = reply ≡ Refused (NoCursor name)
AllowsFetch (Some place) s name reply = Offers (cursor_at s.cursors place).offers reply

abbrev pub fetched : Option ℕ → State → Reply → State
fetched None s reply = s
fetched (Some place) s reply =
    let cursor = cursor_at s.cursors place in
    record s { cursors = slice_set s.cursors place (record cursor { offers = offers_after cursor.offers reply }) }

-- STEP: so many background steps were done, at most as many as are asked.
abbrev pub Stepping : ℕ → Reply → Type 0
Stepping n (Stepped m) = m ≤ n
Stepping n reply = ⊥

abbrev pub AllowsStep : Option ℕ → List ℕ → ℕ → Reply → Type 0
AllowsStep None name n reply = reply ≡ Refused (NoCursor name)
AllowsStep (Some place) name n reply = Stepping n reply

-- SHOW: a trace that the course allows for the indexes over the table of the cursor's first FROM item.
abbrev pub Showing : List IndexDef → ℕ → Reply → Type 0
Showing indexes table (Trace shown) = ShowsTrace indexes table shown
Showing indexes table reply = ⊥

abbrev pub AllowsShow : Option ℕ → State → List ℕ → Reply → Type 0
AllowsShow None s name reply = reply ≡ Refused (NoCursor name)
AllowsShow (Some place) s name reply = Showing s.schema.indexes (cursor_at s.cursors place).table reply

-- CLOSE
abbrev pub closed : State → ℕ → List ℕ → Outcome
closed s session cursor = do
  place ← ok_or (cursor_named s.cursors session cursor) (NoCursor cursor)
  Ok (Closed, record s { cursors = remove s.cursors place })

-- what a statement other than FETCH, STEP and SHOW does; these three are never asked here
abbrev pub performed : State → ℕ → Resolved → Outcome
performed s session (asks.CreateTable def) = created s def
performed s session (asks.CreateIndex def) = indexed s def
performed s session (asks.Begin read_only) = began s session read_only
performed s session (asks.Insert table values) = inserted s session table values
performed s session (asks.Update table sets only) = changed s session table (Some sets) only
performed s session (asks.Delete table only) = changed s session table None only
performed s session asks.Commit = committed s session
performed s session asks.Rollback = rolled_back s session
performed s session (asks.Open cursor select) = opened s session cursor select
performed s session (asks.Close cursor) = closed s session cursor
performed s session other = Err Syntax

abbrev pub reply_of : Outcome → Reply
reply_of (Ok done) = done.0
reply_of (Err refusal) = Refused refusal

abbrev pub state_of : Outcome → State → State
state_of (Ok done) s = done.1
state_of (Err refusal) s = s

abbrev pub AllowsAsked : Result Resolved Refusal → State → ℕ → Reply → Type 0
AllowsAsked (Err refusal) s session reply = reply ≡ Refused refusal
AllowsAsked (Ok (asks.Fetch name)) s session reply = AllowsFetch (cursor_named s.cursors session name) s name reply
AllowsAsked (Ok (asks.Step name n)) s session reply = AllowsStep (cursor_named s.cursors session name) name n reply
AllowsAsked (Ok (asks.Show name)) s session reply = AllowsShow (cursor_named s.cursors session name) s name reply
AllowsAsked (Ok other) s session reply = reply ≡ reply_of (performed s session other)

abbrev pub next_asked : Result Resolved Refusal → State → ℕ → Reply → State
next_asked (Err refusal) s session reply = s
next_asked (Ok (asks.Fetch name)) s session reply = fetched (cursor_named s.cursors session name) s reply
next_asked (Ok (asks.Step name n)) s session reply = s
next_asked (Ok (asks.Show name)) s session reply = s
next_asked (Ok other) s session reply = state_of (performed s session other) s

-- The reply may be given to the statement of a text, where there is one.
abbrev pub Allows : State → ℕ → Option Statement → Reply → Type 0
Allows s session statement reply = AllowsAsked (understood s.schema statement) s session reply

-- the state after it
abbrev pub next : State → ℕ → Option Statement → Reply → State
next s session statement reply = next_asked (understood s.schema statement) s session reply
