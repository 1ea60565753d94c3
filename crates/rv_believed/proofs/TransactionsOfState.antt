-- CREATE, BEGIN, COMMIT and ROLLBACK in believed words over the working state.
use Rattle.std.specs.Prelude.{ℕ, ◌+◌, List, [], ◌∷◌, ◌++◌, Ok, Bool, not, ◌==◌, nat_lt, length, filter, map, remove, slice_get}
use Rattle.std.specs.List.{range_with_len, slice_index_or}
use Rattle.rv_value.specs.declared.record.Record.{Record}
use Rattle.rv_rows.specs.declared.changes.Change.{Change}
use Rattle.rv_rows.specs.Changes.{rows_with_changes}
use Rattle.rv_lang.specs.declared.reply.Refusal.TheVariants.{Active, Busy, Duplicate, Limit, NoTransaction}
use Rattle.rv_lang.specs.declared.reply.Rival.TheVariants.{View}
use Rattle.rv_lang.specs.declared.reply.Which.TheVariants.{Indexes, Tables}
use Rattle.rv_lang.specs.declared.reply.Reply.{Reply}
use Rattle.rv_lang.specs.declared.reply.Reply.TheVariants.{Began, Committed, Created, RolledBack}
use Rattle.rv_catalog.specs.declared.def.IndexDef.{IndexDef}
use Rattle.rv_catalog.specs.declared.def.TableDef.{TableDef}
use Rattle.rv_catalog.specs.Answers.{◌>>=◌, ok_or, refuse_if}
use Rattle.rv_model.specs.declared.state.State.{State}
use Rattle.rv_model.specs.declared.state.Cursor.{Cursor}
use Rattle.rv_model.specs.Rivals.{first_equal}
use Rattle.rv_model.specs.Step.{Outcome}
use Rattle.rv_model.specs.declared.transactions.Transaction.{Transaction}
use Rattle.rv_model.specs.Transactions.{refuse_at, touch_all, transaction_at, transaction_of}

-- CREATE TABLE: not while a transaction is active (the first is shown), and at most 64 tables
abbrev pub create_table : State → TableDef → Outcome
create_table s def = do
  idle ← refuse_at (slice_get s.transactions.active 0) (λ (t : Transaction). Busy t.number)
  room ← refuse_if (nat_lt 63 (length s.schema.tables)) (Limit Tables 64)
  let tables = s.schema.tables ++ def ∷ []
  Ok (Created, record s { schema = record s.schema { tables = tables }; rows = s.rows ++ [] ∷ [] })

-- CREATE INDEX: not while a transaction is active, at most 8 indexes over a table, and a unique one
-- not where two rows are equal in it
abbrev pub create_index : State → IndexDef → Outcome
create_index s def = do
  idle ← refuse_at (slice_get s.transactions.active 0) (λ (t : Transaction). Busy t.number)
  let others = filter (λ (i : IndexDef). i.table == def.table) s.schema.indexes
  room ← refuse_if (nat_lt 7 (length others)) (Limit Indexes 8)
  let rows = slice_index_or s.rows def.table []
  differ ← refuse_at (first_equal def rows) (λ (r : Record). Duplicate r.row View)
  Ok (Created, record s { schema = record s.schema { indexes = s.schema.indexes ++ def ∷ [] } })

-- BEGIN: not while the session has a transaction; one of the next number, on the last commit
abbrev pub begin : State → ℕ → Bool → Outcome
begin s session reads = do
  let old = s.transactions.active
  free ← refuse_at (transaction_of old session) (λ own. Active (transaction_at old own).number)
  let n = s.transactions.next
  let new : Transaction =
      record { number = n; session = session; read_only = reads; base = s.last; changes = [] }
  let now = record s.transactions { active = old ++ new ∷ []; next = n + 1 }
  Ok (Began n, record s { transactions = now; bases = s.bases ++ s.rows ∷ [] })

-- without the transaction in a place and the cursors of its session
abbrev pub without : State → ℕ → ℕ → State
without s own session =
    let left = record s.transactions { active = remove s.transactions.active own } in
    let cursors = filter (λ (c : Cursor). not (c.session == session)) s.cursors in
    record s { transactions = left; bases = remove s.bases own; cursors = cursors }

-- with changes as the next commit: of each table the rows, and of rows who last wrote them
abbrev pub with_commit : State → List Change → State
with_commit s changes =
    let rows_of = λ (table : ℕ). rows_with_changes table changes (slice_index_or s.rows table []) in
    let rows = map rows_of (range_with_len 0 (length s.rows)) in
    let by = touch_all (s.last + 1) changes s.transactions.touched in
    let now = record s.transactions { touched = by } in
    record s { last = s.last + 1; rows = rows; transactions = now }

-- without a change there is no commit, and the base is answered
abbrev pub commit_of : State → ℕ → ℕ → List Change → Reply × State
commit_of s own session [] =
    (Committed (transaction_at s.transactions.active own).base, without s own session)
commit_of s own session (c ∷ cs) =
    (Committed (s.last + 1), without (with_commit s (c ∷ cs)) own session)

-- COMMIT
abbrev pub commit : State → ℕ → Outcome
commit s session = do
  own ← ok_or (transaction_of s.transactions.active session) NoTransaction
  Ok (commit_of s own session (transaction_at s.transactions.active own).changes)

-- ROLLBACK
abbrev pub rollback : State → ℕ → Outcome
rollback s session = do
  own ← ok_or (transaction_of s.transactions.active session) NoTransaction
  Ok (RolledBack, without s own session)
