-- Believed: INSERT, UPDATE and DELETE.
use Rattle.std.specs.Prelude.{ℕ, ◌+◌, List, [], ◌∷◌, Option, Some, Result, Ok, not, ◌==◌, nat_lt, length, filter, map, if◌then◌else◌}
use Rattle.std.specs.Option.{option_map}
use Rattle.rv_value.specs.declared.value.Value.{Value}
use Rattle.rv_value.specs.declared.record.Record.{Record}
use Rattle.rv_restrict.specs.declared.atom.Atom.{Atom}
use Rattle.rv_restrict.specs.Truth.{row_reads}
use Rattle.rv_rows.specs.declared.changes.Change.{Change}
use Rattle.rv_rows.specs.Changes.{has_change, with_change, with_changes}
use Rattle.rv_lang.specs.declared.reply.Refusal.{Refusal}
use Rattle.rv_lang.specs.declared.reply.Refusal.TheVariants.{Changed, Held, Limit, NoTransaction, ReadOnly}
use Rattle.rv_lang.specs.declared.reply.Which.TheVariants.{Rows, Pending}
use Rattle.rv_lang.specs.declared.reply.Reply.TheVariants.{Inserted, Touched}
use Rattle.rv_catalog.specs.Answers.{◌>>=◌, all_pass, ok_or, refuse_if}
use Rattle.rv_model.specs.Rivals.{Neighbour, all_alone, neighbours, rows_written, unique_over}
use Rattle.rv_model.specs.Transactions.{with_sets}
use Rattle.rv_believed.specs.Answers.{Test}
use Rattle.rv_believed.specs.Database.{Database, Transaction, others, transaction_of, view, with_changed}
use Rattle.rv_believed.specs.Transactions.{Outcome}
use Rattle.rv_believed.specs.Truth.{keeps}

-- the session's transaction, which has to be one that may write
abbrev pub writer : Database → ℕ → Result Transaction Refusal
writer d session = do
  t ← ok_or (transaction_of d session) NoTransaction
  writes ← refuse_if t.read_only ReadOnly
  Ok t

-- where rivals of a transaction's rows are looked for, with further changes of it
abbrev pub neighbours_of : Database → Transaction → ℕ → List Change → List Neighbour
neighbours_of d t table new =
    let theirs = map (λ (u : Transaction). (u.number, u.changes)) (others d t.session) in
    neighbours table (with_changes new t.changes) (t.rows table) (d.rows table)
    (d.written_by table) theirs

-- no row that further changes of a transaction write has a rival in a unique index
abbrev pub no_rivals : Database → Transaction → ℕ → List Change → Test
no_rivals d t table new =
    all_alone (unique_over table d.indexes) (neighbours_of d t table new) (rows_written table new)

-- INSERT: a row of the table's next number, at most the 1,000,000th, that has no rival; a
-- transaction has at most 100,000 changes
abbrev pub insert : Database → ℕ → ℕ → List Value → Outcome
insert d session table vs = do
  let n = d.next_row table
  t ← writer d session
  numbers ← refuse_if (nat_lt 999999 n) (Limit Rows 1000000)
  few ← refuse_if (nat_lt 99999 (length t.changes)) (Limit Pending 100000)
  let new : Change = record { table = table; row = record { 0 = n }; values = Some vs }
  alone ← no_rivals d t table (new ∷ [])
  let next = λ (other : ℕ). if other == table then n + 1 else d.next_row other
  let after = with_changed d session (with_change new t.changes)
  Ok (Inserted (record { 0 = n }), record after { next_row = next })

-- UPDATE sets columns; DELETE, which has none to set, leaves no values
abbrev pub change_of : ℕ → Option (List (ℕ × Value)) → Record → Change
change_of table sets r =
    let values = option_map (λ s. with_sets s r.values) sets in
    record { table = table; row = r.row; values = values }

-- the changes of the rows in a transaction's view that WHERE keeps
abbrev pub changes_by : Transaction → ℕ → Option (List (ℕ × Value)) → List (List Atom) → List Change
changes_by t table sets only = map (change_of table sets)
    (filter (λ (r : Record). keeps (row_reads r.values) only) (view t table))

-- a transaction has at most 100,000 changes: those before, and the new ones of other rows
abbrev pub few_changes : List Change → List Change → Test
few_changes old new =
    let more = filter (λ (c : Change). not (has_change c.table c.row.0 old)) new in
    refuse_if (nat_lt 100000 (length old + length more)) (Limit Pending 100000)

-- First updater wins: no later commit than the transaction's base has written the row.
abbrev pub no_later_commit : Database → ℕ → Change → Test
no_later_commit d base c =
    let commit = d.written_by c.table c.row.0 in
    refuse_if (nat_lt base commit) (Changed c.row commit)

-- No transaction of another session has changed the row.
abbrev pub no_holder : Database → ℕ → Change → Test
no_holder d session c =
    all_pass (λ (t : Transaction).
    refuse_if (has_change c.table c.row.0 t.changes) (Held c.row t.number)) (others d session)

-- UPDATE and DELETE: no row is written that has a rival
abbrev pub change : Database → ℕ → ℕ → Option (List (ℕ × Value)) → List (List Atom) → Outcome
change d session table sets only = do
  t ← writer d session
  let new = changes_by t table sets only
  few ← few_changes t.changes new
  unchanged ← all_pass (no_later_commit d t.base) new
  free ← all_pass (no_holder d session) new
  alone ← no_rivals d t table new
  Ok (Touched (length new), with_changed d session (with_changes new t.changes))
