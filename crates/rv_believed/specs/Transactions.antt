-- Believed: CREATE, BEGIN, COMMIT and ROLLBACK.
use Rattle.std.specs.Prelude.{ℕ, ◌+◌, List, [], ◌∷◌, ◌++◌, Result, Ok, Bool, ◌==◌, nat_lt, length, filter, slice_get, if◌then◌else◌}
use Rattle.rv_value.specs.declared.record.Record.{Record}
use Rattle.rv_rows.specs.declared.changes.Change.{Change}
use Rattle.rv_rows.specs.Changes.{has_change, rows_with_changes}
use Rattle.rv_lang.specs.declared.reply.Refusal.{Refusal}
use Rattle.rv_lang.specs.declared.reply.Refusal.TheVariants.{Active, Busy, Duplicate, Limit, NoTransaction}
use Rattle.rv_lang.specs.declared.reply.Rival.TheVariants.{View}
use Rattle.rv_lang.specs.declared.reply.Which.TheVariants.{Indexes, Tables}
use Rattle.rv_lang.specs.declared.reply.Reply.{Reply}
use Rattle.rv_lang.specs.declared.reply.Reply.TheVariants.{Began, Committed, Created, RolledBack}
use Rattle.rv_catalog.specs.declared.def.IndexDef.{IndexDef}
use Rattle.rv_catalog.specs.declared.def.TableDef.{TableDef}
use Rattle.rv_catalog.specs.Answers.{◌>>=◌, ok_or, refuse_if}
use Rattle.rv_model.specs.Rivals.{first_equal}
use Rattle.rv_model.specs.Transactions.{refuse_at}
use Rattle.rv_believed.specs.Database.{Database, Transaction, transaction_of, without_session}

-- the reply and the database after it, or why the statement is refused
abbrev pub Outcome : Type 0
Outcome = Result (Reply × Database) Refusal

-- CREATE TABLE: not while a transaction is active (the first is shown), and at most 64 tables
abbrev pub create_table : Database → TableDef → Outcome
create_table d def = do
  idle ← refuse_at (slice_get d.active 0) (λ (t : Transaction). Busy t.number)
  room ← refuse_if (nat_lt 63 (length d.tables)) (Limit Tables 64)
  Ok (Created, record d { tables = d.tables ++ def ∷ [] })

-- CREATE INDEX: not while a transaction is active, at most 8 indexes over a table, and a unique one
-- not where two rows are equal in it
abbrev pub create_index : Database → IndexDef → Outcome
create_index d def = do
  idle ← refuse_at (slice_get d.active 0) (λ (t : Transaction). Busy t.number)
  let over = filter (λ (i : IndexDef). i.table == def.table) d.indexes
  room ← refuse_if (nat_lt 7 (length over)) (Limit Indexes 8)
  let rows = d.rows def.table
  differ ← refuse_at (first_equal def rows) (λ (r : Record). Duplicate r.row View)
  Ok (Created, record d { indexes = d.indexes ++ def ∷ [] })

-- a transaction of the next number, on the last commit and its rows
abbrev pub new_transaction : Database → ℕ → Bool → Transaction
new_transaction d session read_only = record {
  number = d.next;
  session = session;
  read_only = read_only;
  base = d.last;
  rows = d.rows;
  changes = [];
}

-- BEGIN: not while the session has a transaction
abbrev pub begin : Database → ℕ → Bool → Outcome
begin d session read_only = do
  free ← refuse_at (transaction_of d session) (λ (t : Transaction). Active t.number)
  let active = d.active ++ new_transaction d session read_only ∷ []
  Ok (Began d.next, record d { next = d.next + 1; active = active })

-- with changes as the next commit
abbrev pub with_commit : Database → List Change → Database
with_commit d changes =
    let n = d.last + 1 in
    let by = λ (t r : ℕ). if has_change t r changes then n else d.written_by t r in
    record d { last = n; rows = λ t. rows_with_changes t changes (d.rows t); written_by = by }

-- without a change there is no commit, and the base is answered
abbrev pub commit_of : Database → ℕ → ℕ → List Change → Reply × Database
commit_of d session base [] = (Committed base, without_session d session)
commit_of d session base (c ∷ cs) =
    (Committed (d.last + 1), without_session (with_commit d (c ∷ cs)) session)

-- COMMIT
abbrev pub commit : Database → ℕ → Outcome
commit d session = do
  t ← ok_or (transaction_of d session) NoTransaction
  Ok (commit_of d session t.base t.changes)

-- ROLLBACK
abbrev pub rollback : Database → ℕ → Outcome
rollback d session = do
  t ← ok_or (transaction_of d session) NoTransaction
  Ok (RolledBack, without_session d session)
