-- What each call makes of the transactions.
use Rattle.std.specs.Prelude.{◌≡◌, ℕ, zero, suc, ◌+◌, ◌-◌, List, [], ◌∷◌, ◌++◌, Option, Some, None, Result, Ok, Err, Bool, true, false, not, ◌==◌, ◌&&◌, nat_lt, length, position, slice_set, is_some, if◌then◌else◌, remove, filter, map, min}
use Rattle.std.specs.List.{slice_index_or, list_any}
use Rattle.rv_value.specs.declared.value.Value.{Value}
use Rattle.rv_value.specs.declared.record.Record.{Record}
use Rattle.rv_value.specs.declared.record.RowNo.{RowNo}
use Rattle.rv_rows.specs.declared.changes.Change.{Change}
use Rattle.rv_rows.specs.Changes.{has_change, rows_with_changes, with_change, with_changes}
use Rattle.rv_lang.specs.declared.reply.Which.TheVariants.{Rows, Pending}
use Rattle.rv_lang.specs.declared.reply.Refusal.{Refusal}
use Rattle.rv_lang.specs.declared.reply.Refusal.TheVariants.{Active, NoTransaction, ReadOnly, Changed, Held, Limit}
use Rattle.rv_restrict.specs.declared.atom.Atom.{Atom}
use Rattle.rv_restrict.specs.Truth.{qualifies}
use Rattle.rv_catalog.specs.Answers.{◌>>=◌, ok_or, refuse_if}
use Rattle.rv_model.specs.declared.transactions.Transaction.{Transaction}
use Rattle.rv_model.specs.declared.transactions.Transactions.{Transactions}

-- no transaction, the next one 1, and no row number taken
abbrev pub no_transactions : Transactions
no_transactions = record { active = []; next = 1; touched = [] }

abbrev pub no_transaction : Transaction
no_transaction = record { number = 0; session = 0; read_only = false; base = 0; changes = [] }

-- the place of the session's transaction
abbrev pub transaction_of : List Transaction → ℕ → Option ℕ
transaction_of active session = position (λ (t : Transaction). t.session == session) active

abbrev pub transaction_at : List Transaction → ℕ → Transaction
transaction_at active place = slice_index_or active place no_transaction

-- the refusal of what is there, if any
abbrev pub refuse_at : {A : Type 0} → Option A → (A → Refusal) → Result (Unit {0}) Refusal
refuse_at None refusal = Ok tt
refuse_at (Some a) refusal = Err (refusal a)

-- BEGIN: a transaction of the next number, on a commit.
abbrev pub began : Transactions → ℕ → Bool → ℕ → Result (ℕ × Transactions) Refusal
began t session read_only base = do
  free ← refuse_at (transaction_of t.active session) (λ own. Active (transaction_at t.active own).number)
  Ok (
    t.next,
    record t {
      next = t.next + 1;
      active = t.active ++ record {
        number = t.next;
        session = session;
        read_only = read_only;
        base = base;
        changes = [];
      } ∷ [];
    },
  )

-- the commits that last wrote the rows of a table, by row number
abbrev pub touched_in : List (List ℕ) → ℕ → List ℕ
touched_in touched table = slice_index_or touched table []

abbrev pub next_row : List (List ℕ) → ℕ → ℕ
next_row touched table = length (touched_in touched table)

-- the commit that last wrote a row, 0 where none did
abbrev pub touched_by : List (List ℕ) → ℕ → ℕ → ℕ
touched_by touched table row = slice_index_or (touched_in touched table) row 0

-- so many tables of which no row number was taken
abbrev pub empty_lists : ℕ → List (List ℕ)
empty_lists zero = []
empty_lists (suc n) = [] ∷ empty_lists n

-- the next row number of a table is taken
abbrev pub with_number : List (List ℕ) → ℕ → List (List ℕ)
with_number touched table =
    if nat_lt table (length touched)
    then slice_set touched table (touched_in touched table ++ 0 ∷ [])
    else touched ++ empty_lists (table - length touched) ++ (0 ∷ []) ∷ []

-- with other changes of the transaction in a place
abbrev pub with_own : List Transaction → ℕ → List Change → List Transaction
with_own active own changes = slice_set active own (record (transaction_at active own) { changes = changes })

-- the place of the session's transaction, which has to be one that may write
abbrev pub writer : List Transaction → ℕ → Result ℕ Refusal
writer active session = do
  own ← ok_or (transaction_of active session) NoTransaction
  writes ← refuse_if (transaction_at active own).read_only ReadOnly
  Ok own

-- with a row of the next number, which the transaction in a place adds
abbrev pub with_row : Transactions → ℕ → ℕ → List Value → RowNo → Transactions
with_row t own table values row = record t {
  active =
      with_own t.active own (with_change (record { table = table; row = row; values = Some values })
      (transaction_at t.active own).changes);
  touched = with_number t.touched table;
}

-- INSERT: a row of the table's next number, at most the 1,000,000th; a transaction has at most 100,000 changes.
abbrev pub inserted : Transactions → ℕ → ℕ → List Value → Result (RowNo × Transactions) Refusal
inserted t session table values = do
  own ← writer t.active session
  numbers ← refuse_if (nat_lt 999999 (next_row t.touched table)) (Limit Rows 1000000)
  space ← refuse_if (nat_lt 99999 (length (transaction_at t.active own).changes)) (Limit Pending 100000)
  Ok (record { 0 = next_row t.touched table }, with_row t own table values (record { 0 = next_row t.touched table }))

-- the rows of a table that a transaction sees: those at its base with its own changes
abbrev pub seen : Transaction → ℕ → (ℕ → List Record) → List Record
seen t table rows = rows_with_changes table t.changes (rows t.base)

-- those of them for which a restriction is True
abbrev pub met : Transaction → ℕ → List (List Atom) → (ℕ → List Record) → List Record
met t table only rows = filter (λ (r : Record). qualifies only r.values) (seen t table rows)

-- values with some columns set
abbrev pub with_sets : List (ℕ × Value) → List Value → List Value
with_sets [] values = values
with_sets (s ∷ sets) values = with_sets sets (slice_set values s.0 s.1)

-- UPDATE sets columns, DELETE sets none and leaves no values
abbrev pub new_values : Option (List (ℕ × Value)) → List Value → Option (List Value)
new_values None values = None
new_values (Some sets) values = Some (with_sets sets values)

abbrev pub change_of : ℕ → Option (List (ℕ × Value)) → Record → Change
change_of table sets r = record { table = table; row = r.row; values = new_values sets r.values }

-- how many rows are changed, with further rows of a table
abbrev pub changed_with : List Change → ℕ → List Record → ℕ
changed_with changes table rows =
    length changes + length (filter (λ (r : Record). not (has_change table r.row.0 changes)) rows)

abbrev pub no_record : Record
no_record = record { row = record { 0 = 0 }; values = [] }

abbrev pub row_in : List Record → ℕ → RowNo
row_in rows place = (slice_index_or rows place no_record).row

-- the place of the first row that a later commit than the base has written
abbrev pub first_changed : List (List ℕ) → ℕ → ℕ → List Record → Option ℕ
first_changed touched table base rows = position (λ (r : Record). nat_lt base (touched_by touched table r.row.0)) rows

-- the place of another session's transaction that has changed a row
abbrev pub holder : List Transaction → ℕ → ℕ → ℕ → Option ℕ
holder active session table row =
    position (λ (t : Transaction). not (t.session == session) && has_change table row t.changes) active

-- the place of the first row that another session's transaction has changed
abbrev pub first_held : List Transaction → ℕ → ℕ → List Record → Option ℕ
first_held active session table rows = position (λ (r : Record). is_some (holder active session table r.row.0)) rows

abbrev pub changed_refusal : List (List ℕ) → ℕ → RowNo → Refusal
changed_refusal touched table row = Changed row (touched_by touched table row.0)

abbrev pub held_by : List Transaction → RowNo → Option ℕ → Refusal
held_by active row None = NoTransaction
held_by active row (Some place) = Held row (transaction_at active place).number

-- the refusal of a row that another session's transaction has changed
abbrev pub held_refusal : List Transaction → ℕ → ℕ → RowNo → Refusal
held_refusal active session table row = held_by active row (holder active session table row.0)

-- Rows may be changed that no later commit than the base has written, and that no other transaction has changed.
abbrev pub unharmed : Transactions → ℕ → ℕ → ℕ → List Record → Result (Unit {0}) Refusal
unharmed t session base table rows = do
  unchanged ← refuse_at (first_changed t.touched table base rows)
      (λ place. changed_refusal t.touched table (row_in rows place))
  refuse_at (first_held t.active session table rows) (λ place. held_refusal t.active session table (row_in rows place))

-- UPDATE and DELETE of these rows by the transaction in a place
abbrev pub changed_rows : Transactions → ℕ → ℕ → ℕ → Option (List (ℕ × Value)) → List Record
    → Result (ℕ × Transactions) Refusal
changed_rows t session own table sets rows = do
  space ← refuse_if (nat_lt 100000 (changed_with (transaction_at t.active own).changes table rows))
      (Limit Pending 100000)
  free ← unharmed t session (transaction_at t.active own).base table rows
  Ok (
    length rows,
    record t {
      active =
          with_own t.active own (with_changes (map (change_of table sets) rows) (transaction_at t.active own).changes);
    },
  )

-- UPDATE and DELETE, over the rows that the table has at each commit
abbrev pub changed : Transactions → ℕ → ℕ → List (List Atom) → Option (List (ℕ × Value)) → (ℕ → List Record)
    → Result (ℕ × Transactions) Refusal
changed t session table only sets rows = do
  own ← writer t.active session
  changed_rows t session own table sets (met (transaction_at t.active own) table only rows)

-- a commit is written at each changed row
abbrev pub touch : ℕ → Change → List (List ℕ) → List (List ℕ)
touch commit c touched = slice_set touched c.table (slice_set (touched_in touched c.table) c.row.0 commit)

abbrev pub touch_all : ℕ → List Change → List (List ℕ) → List (List ℕ)
touch_all commit [] touched = touched
touch_all commit (c ∷ cs) touched = touch_all commit cs (touch commit c touched)

-- without the transaction in a place, which ends without a commit
abbrev pub without : Transactions → ℕ → Transactions
without t own = record t { active = remove t.active own }

-- without the transaction in a place, whose changes are those of a commit
abbrev pub done : Transactions → ℕ → ℕ → Transactions
done t own commit =
    record (without t own) { touched = touch_all commit (transaction_at t.active own).changes t.touched }

abbrev pub lower_of : ℕ → Option ℕ → ℕ
lower_of n None = n
lower_of n (Some m) = min n m

-- the lowest number of an active transaction
abbrev pub lowest : List Transaction → Option ℕ
lowest [] = None
lowest (t ∷ ts) = Some (lower_of t.number (lowest ts))

-- the lowest base of an active transaction, or the last commit
abbrev pub horizon : List Transaction → ℕ → ℕ
horizon [] last = last
horizon (t ∷ ts) last = min t.base (horizon ts last)
