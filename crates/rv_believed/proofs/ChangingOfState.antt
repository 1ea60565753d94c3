-- INSERT, UPDATE and DELETE in believed words over the working state: a transaction is named by its place.
use Rattle.std.specs.Prelude.{ℕ, List, [], ◌∷◌, Option, Some, Ok, not, ◌==◌, nat_lt, length, filter, map, slice_set}
use Rattle.std.specs.List.{slice_index_or}
use Rattle.rv_value.specs.declared.value.Value.{Value}
use Rattle.rv_value.specs.declared.record.Record.{Record}
use Rattle.rv_restrict.specs.declared.atom.Atom.{Atom}
use Rattle.rv_restrict.specs.Truth.{row_reads}
use Rattle.rv_rows.specs.declared.changes.Change.{Change}
use Rattle.rv_rows.specs.Changes.{has_change, rows_with_changes, with_change, with_changes}
use Rattle.rv_lang.specs.declared.reply.Refusal.TheVariants.{Changed, Held, Limit}
use Rattle.rv_lang.specs.declared.reply.Which.TheVariants.{Rows, Pending}
use Rattle.rv_lang.specs.declared.reply.Reply.TheVariants.{Inserted, Touched}
use Rattle.rv_catalog.specs.Answers.{◌>>=◌, all_pass, refuse_if}
use Rattle.rv_model.specs.declared.state.State.{State}
use Rattle.rv_model.specs.declared.transactions.Transaction.{Transaction}
use Rattle.rv_model.specs.Step.{Outcome, no_rivals}
use Rattle.rv_model.specs.Transactions.{next_row, touched_by, transaction_at, with_number, writer}
use Rattle.rv_believed.specs.Answers.{Test}
use Rattle.rv_believed.specs.Changing.{change_of, few_changes}
use Rattle.rv_believed.specs.Truth.{keeps}

-- with other changes of the transaction in a place, and other commits that last wrote rows
abbrev pub with_changed : State → ℕ → List Change → List (List ℕ) → State
with_changed s own changes touched =
    let t = record (transaction_at s.transactions.active own) { changes = changes } in
    let active = slice_set s.transactions.active own t in
    record s { transactions = record s.transactions { active = active; touched = touched } }

-- INSERT: a row of the table's next number, at most the 1,000,000th; a transaction has at most
-- 100,000 changes
abbrev pub insert : State → ℕ → ℕ → List Value → Outcome
insert s session table vs = do
  let now = s.transactions
  own ← writer now.active session
  let old = (transaction_at now.active own).changes
  let row = next_row now.touched table
  numbers ← refuse_if (nat_lt 999999 row) (Limit Rows 1000000)
  few ← refuse_if (nat_lt 99999 (length old)) (Limit Pending 100000)
  let c : Change = record { table = table; row = record { 0 = row }; values = Some vs }
  alone ← no_rivals s session own table (c ∷ [])
  let new = with_change c old
  Ok (Inserted (record { 0 = row }), with_changed s own new (with_number now.touched table))

-- the rows of a table at the base of the transaction in a place
abbrev pub base_rows : State → ℕ → ℕ → List Record
base_rows s own table = slice_index_or (slice_index_or s.bases own []) table []

-- WHAT A TRANSACTION SEES of a table: the rows at its base, with its own changes
abbrev pub view : State → ℕ → ℕ → List Record
view s own table =
    rows_with_changes table (transaction_at s.transactions.active own).changes (base_rows s own table)

-- the changes of the rows in a transaction's view that WHERE keeps
abbrev pub changes_by : State → ℕ → ℕ → Option (List (ℕ × Value)) → List (List Atom) → List Change
changes_by s own table sets only = map (change_of table sets)
    (filter (λ (r : Record). keeps (row_reads r.values) only) (view s own table))

-- First updater wins: no later commit than the transaction's base has written the row.
abbrev pub no_later_commit : State → ℕ → Change → Test
no_later_commit s base c =
    let commit = touched_by s.transactions.touched c.table c.row.0 in
    refuse_if (nat_lt base commit) (Changed c.row commit)

-- No transaction of another session has changed the row.
abbrev pub no_holder : State → ℕ → Change → Test
no_holder s session c =
    all_pass (λ (t : Transaction).
    refuse_if (has_change c.table c.row.0 t.changes) (Held c.row t.number))
    (filter (λ (t : Transaction). not (t.session == session)) s.transactions.active)

-- UPDATE and DELETE
abbrev pub change : State → ℕ → ℕ → Option (List (ℕ × Value)) → List (List Atom) → Outcome
change s session table sets only = do
  own ← writer s.transactions.active session
  let t = transaction_at s.transactions.active own
  let new = changes_by s own table sets only
  few ← few_changes t.changes new
  unchanged ← all_pass (no_later_commit s t.base) new
  free ← all_pass (no_holder s session) new
  alone ← no_rivals s session own table new
  Ok (Touched (length new), with_changed s own (with_changes new t.changes) s.transactions.touched)
