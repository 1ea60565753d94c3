-- What the core asks of its store.
use Rattle.std.specs.Prelude.{◌≡◌, ℕ, List, [], ◌∷◌, Option, Result, Ok}
use Rattle.rv_value.specs.declared.value.Value.{Value}
use Rattle.rv_restrict.specs.declared.atom.Atom.{Atom}
use Rattle.rv_value.specs.declared.record.RowNo.{RowNo}
use Rattle.rv_lang.specs.declared.reply.Refusal.{Refusal}
use Rattle.rv_catalog.specs.Answers.{◌>>=◌}
use Rattle.rv_catalog.specs.Schema.{Schema}
use Rattle.rv_rows.specs.declared.changes.Change.{Change}
use Rattle.rv_reader.specs.Shown.{Shown}
use Rattle.rv_reader.specs.Storing.{Committed}
use Rattle.rv_model.specs.declared.transactions.Transactions.{Transactions}
use Rattle.rv_model.specs.Transactions.{changed, inserted, transaction_of}
use Rattle.rv_model.specs.Step.{no_rivals_of, row_alone, rows_alone, rows_seen}
use Rattle.rv_txn.specs.Calls.{finished}
use Rattle.rv_core.specs.Db.{db_of}

-- what a commit of these changes, or of none, comes to
abbrev pub CommitsTo : Shown → Shown → ℕ → List Change → ℕ → Type 0
CommitsTo old new base [] c = (new ≡ old) × (c ≡ base)
CommitsTo old new base (x ∷ xs) c = Committed old new (x ∷ xs) × (c ≡ new.newest)

-- what a commit of the session's transaction comes to
pub record Commits (txns : Transactions) (session : ℕ) (old new : Shown) (c : ℕ) : Type 0 where
  pub txn : ℕ
  pub base : ℕ
  pub changes : List Change
  pub did : finished txns session ≡ Ok (txn, base, changes)
  pub told : CommitsTo old new base changes c

-- UPDATE and DELETE over the rows that the database has at the base of the session's transaction
abbrev pub changed_over : Shown → Schema → Transactions → ℕ → ℕ → Option (List (ℕ × Value)) → List (List Atom)
    → Result (ℕ × Transactions) Refusal
changed_over shown schema txns session table sets only =
    changed txns session table only sets
    (λ base. rows_seen (db_of shown schema txns []) (transaction_of txns.active session) table)

-- no row that further changes of the session's transaction write has a rival in the database
abbrev pub lone_over : Shown → Schema → Transactions → ℕ → ℕ → List Change → Result (Unit {0}) Refusal
lone_over shown schema txns session table new =
    no_rivals_of (db_of shown schema txns []) session (transaction_of txns.active session) table (λ own. new)

-- INSERT of a row that has no rival
abbrev pub inserted_alone : Shown → Schema → Transactions → ℕ → ℕ → List Value → Result (RowNo × Transactions) Refusal
inserted_alone shown schema txns session table values = do
  more ← inserted txns session table values
  alone ← row_alone (db_of shown schema txns []) session table values more.0
  Ok more

-- UPDATE and DELETE after which no row that is written has a rival
abbrev pub changed_alone : Shown → Schema → Transactions → ℕ → ℕ → Option (List (ℕ × Value)) → List (List Atom)
    → Result (ℕ × Transactions) Refusal
changed_alone shown schema txns session table sets only = do
  done ← changed_over shown schema txns session table sets only
  alone ← rows_alone (db_of shown schema txns []) session table sets only
  Ok done
