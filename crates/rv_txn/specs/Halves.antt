-- INSERT, UPDATE AND DELETE IN TWO HALVES: what is due, which changes nothing; and what is put, which wants memory
-- alone. Between the two whoever holds the transaction's view brings it up to date.
use Rattle.std.specs.Prelude.{ℕ, List, Option, Some, None, Result, Ok, nat_lt, length, map}
use Rattle.rv_value.specs.declared.value.Value.{Value}
use Rattle.rv_value.specs.declared.record.Record.{Record}
use Rattle.rv_value.specs.declared.record.RowNo.{RowNo}
use Rattle.rv_rows.specs.declared.changes.Change.{Change}
use Rattle.rv_rows.specs.Changes.{with_change, with_changes}
use Rattle.rv_lang.specs.declared.reply.Which.TheVariants.{Rows, Pending}
use Rattle.rv_lang.specs.declared.reply.Refusal.{Refusal}
use Rattle.rv_lang.specs.declared.reply.Refusal.TheVariants.{Limit}
use Rattle.rv_restrict.specs.declared.atom.Atom.{Atom}
use Rattle.rv_catalog.specs.Answers.{◌>>=◌, refuse_if}
use Rattle.rv_model.specs.declared.transactions.Transactions.{Transactions}
use Rattle.rv_model.specs.Transactions.{change_of, changed_with, met, next_row, transaction_at, unharmed, with_number, with_own, writer}

-- the number of the row that an INSERT would add
abbrev pub inserting : Transactions → ℕ → ℕ → Result RowNo Refusal
inserting t session table = do
  own ← writer t.active session
  numbers ← refuse_if (nat_lt 999999 (next_row t.touched table)) (Limit Rows 1000000)
  space ← refuse_if (nat_lt 99999 (length (transaction_at t.active own).changes)) (Limit Pending 100000)
  Ok (record { 0 = next_row t.touched table })

-- the changes that an UPDATE or DELETE of the rows that it meets would make
abbrev pub changing_rows : Transactions → ℕ → ℕ → ℕ → Option (List (ℕ × Value)) → List Record
    → Result (List Change) Refusal
changing_rows t session own table sets rows = do
  space ← refuse_if (nat_lt 100000 (changed_with (transaction_at t.active own).changes table rows))
      (Limit Pending 100000)
  free ← unharmed t session (transaction_at t.active own).base table rows
  Ok (map (change_of table sets) rows)

-- the same of rows that were found
abbrev pub changing_found : Transactions → ℕ → ℕ → Option (List (ℕ × Value)) → List Record
    → Result (List Change) Refusal
changing_found t session table sets rows = do
  own ← writer t.active session
  changing_rows t session own table sets rows

-- and of those for which a restriction is True, over the rows that the table has at each commit
abbrev pub changing : Transactions → ℕ → ℕ → List (List Atom) → Option (List (ℕ × Value)) → (ℕ → List Record)
    → Result (List Change) Refusal
changing t session table only sets rows = do
  own ← writer t.active session
  changing_rows t session own table sets (met (transaction_at t.active own) table only rows)

-- with the row that the session's transaction adds, where it has one: its number is then taken
abbrev pub with_new : Transactions → Option ℕ → Change → Transactions
with_new t None c = t
with_new t (Some own) c = record t {
  active = with_own t.active own (with_change c (transaction_at t.active own).changes);
  touched = with_number t.touched c.table;
}

-- with further changes of the session's transaction, where it has one
abbrev pub with_these : Transactions → Option ℕ → List Change → Transactions
with_these t None new = t
with_these t (Some own) new =
    record t { active = with_own t.active own (with_changes new (transaction_at t.active own).changes) }
