-- Bridge: CREATE, BEGIN, COMMIT and ROLLBACK come to what the working definitions say.
use Rattle.std.proofs.Common.{◌≡◌, ℕ, ◌+◌, ◌<◌, List, [], ◌∷◌, ◌++◌, Option, Some, None, Result, Ok, Err, Bool, refl, sym, ap, arith, length, min, nat_lt, slice_get}
use Rattle.std.specs.List.{AllByRecursion}
use Rattle.rv_value.specs.declared.record.Record.{Record}
use Rattle.rv_rows.specs.declared.changes.Change.{Change}
use Rattle.rv_lang.specs.declared.reply.Refusal.TheVariants.{Active, Busy, Duplicate, Limit, NoTransaction}
use Rattle.rv_lang.specs.declared.reply.Rival.TheVariants.{View}
use Rattle.rv_lang.specs.declared.reply.Refusal.{Refusal}
use Rattle.rv_lang.specs.declared.reply.Which.TheVariants as which
use Rattle.rv_lang.specs.declared.reply.Reply.{Reply}
use Rattle.rv_lang.specs.declared.reply.Reply.TheVariants.{Began, Committed, Created}
use Rattle.rv_catalog.specs.declared.def.IndexDef.{IndexDef}
use Rattle.rv_catalog.specs.declared.def.TableDef.{TableDef}
use Rattle.rv_catalog.specs.Answers.{◌>>=◌, ok_or, refuse_if}
use Rattle.rv_catalog.specs.Kept.{indexes_over}
use Rattle.rv_model.specs.declared.state.State.{State}
use Rattle.rv_model.specs.declared.transactions.Transaction.{Transaction}
use Rattle.rv_model.specs.Database.{rows_at}
use Rattle.rv_model.specs.Rivals.{first_equal}
use Rattle.rv_model.specs.Step.{Outcome, began, committed, committed_with, created, ended, indexed, rolled_back, tables_changed}
use Rattle.rv_model.specs.Transactions as working
use Rattle.rv_model.specs.Transactions.{lower_of, lowest, refuse_at, touch_all, transaction_at, transaction_of}
use Rattle.rv_model.specs.declared.transactions.Transactions.{Transactions}
use Rattle.rv_believed.specs.Answers.{Test}
use Rattle.rv_believed.specs.Orderly.{BeginsBefore, EachTwo, IsOrderly}
use Rattle.rv_believed.proofs.TransactionsOfState.{begin, commit, commit_of, create_index, create_table, rollback}

below_min : (n a b : ℕ) → n < a → n < b → n < min a b
below_min n a b p q = omega (arith, p, q)

least_of : (n m : ℕ) → n < m → min n m ≡ n
least_of n m p = omega (arith, p)

-- ---- the first transaction has the lowest number

-- a number below those of all is not above the lowest of them
below_lowest : (n m : ℕ) (ts : List Transaction) → n < m → AllByRecursion (λ (t : Transaction). n < t.number) ts → n < lower_of m (lowest ts)
below_lowest n m [] lt a = lt
below_lowest n m (t ∷ ts) lt a = below_min n m (lower_of t.number (lowest ts)) lt (below_lowest n t.number ts a.0 a.1)

first_lowest : (n : ℕ) (ts : List Transaction) → AllByRecursion (λ (t : Transaction). n < t.number) ts → lower_of n (lowest ts) ≡ n
first_lowest n [] a = refl
first_lowest n (t ∷ ts) a = least_of n (lower_of t.number (lowest ts)) (below_lowest n t.number ts a.0 a.1)

numbers_above : (t : Transaction) (ts : List Transaction) → AllByRecursion (BeginsBefore t) ts → AllByRecursion (λ (u : Transaction). t.number < u.number) ts
numbers_above t [] a = tt
numbers_above t (u ∷ ts) a = (a.0.number, numbers_above t ts a.1)

idle_same : (ts : List Transaction) → EachTwo BeginsBefore ts → refuse_at (slice_get ts 0) (λ (t : Transaction). Busy t.number) ≡ refuse_at (lowest ts) Busy
idle_same [] h = refl
idle_same (t ∷ ts) h = ap (λ n. Err (Busy n)) (sym (first_lowest t.number ts (numbers_above t ts h.0)))

pub table_same : (s : State) (def : TableDef) → IsOrderly s → create_table s def ≡ created s def
table_same s def h = λ k. idle_same s.transactions.active h.active k >>= (λ u. refuse_if (nat_lt 63 (length s.schema.tables)) (Limit which.Tables 64)
    >>= (λ v. Ok (Created, record s { rows = s.rows ++ [] ∷ []; schema = record s.schema { tables = s.schema.tables ++ def ∷ [] } })))

pub index_same : (s : State) (def : IndexDef) → IsOrderly s → create_index s def ≡ indexed s def
index_same s def h = λ k. idle_same s.transactions.active h.active k >>= (λ u. refuse_if (nat_lt 7 (indexes_over def.table s.schema.indexes)) (Limit which.Indexes 8)
    >>= (λ v. refuse_at (first_equal def (rows_at s.rows def.table)) (λ (r : Record). Duplicate r.row View)
    >>= (λ w. Ok (Created, record s { schema = record s.schema { indexes = s.schema.indexes ++ def ∷ [] } }))))

-- one test, and what follows it
abbrev begun_by : State → ℕ × Transactions → Outcome
begun_by s begun = Ok (Began begun.0, record s { transactions = begun.1; bases = s.bases ++ s.rows ∷ [] })

abbrev begun_to : ℕ → Transactions → Result (ℕ × Transactions) Refusal
begun_to n t = Ok (n, t)

begin_by : (s : State) (a : Test) (n : ℕ) (t : Transactions)
    → (a >>= (λ u. begun_by s (n, t))) ≡ ((a >>= (λ u. begun_to n t)) >>= begun_by s)
begin_by s (Ok u) n t = refl
begin_by s (Err e) n t = refl

pub begin_same : (s : State) (session : ℕ) (read_only : Bool) → begin s session read_only ≡ began s session read_only
begin_same s session read_only = begin_by s
    (refuse_at (transaction_of s.transactions.active session) (λ own. Active (transaction_at s.transactions.active own).number))
    s.transactions.next
    (record s.transactions {
      active = s.transactions.active ++ record { number = s.transactions.next; session = session; read_only = read_only; base = s.last; changes = [] } ∷ [];
      next = s.transactions.next + 1;
    })

pub rollback_same : (s : State) (session : ℕ) → rollback s session ≡ rolled_back s session
rollback_same s session = refl

-- the end of a transaction, of whose changes a commit is written
abbrev ended_by : State → ℕ → ℕ → ℕ → List Change → State
ended_by s own session by changes =
    ended s own session (record (working.without s.transactions own) { touched = touch_all by changes s.transactions.touched })

commit_by : (s : State) (own session : ℕ) (changes : List Change) → (transaction_at s.transactions.active own).changes ≡ changes
    → commit_of s own session changes ≡ committed_with changes s session own
commit_by s own session [] e = ap (λ (cs : List Change). (
  Committed (transaction_at s.transactions.active own).base,
  ended_by s own session (transaction_at s.transactions.active own).base cs,
)) (sym e)
commit_by s own session (c ∷ cs) e = ap (λ (ds : List Change). (
  Committed (s.last + 1),
  record (ended_by s own session (s.last + 1) ds) { rows = tables_changed (c ∷ cs) s.rows; last = s.last + 1 },
)) (sym e)

commit_at : (s : State) (session : ℕ) (o : Option ℕ)
    → (ok_or o NoTransaction >>= (λ own. Ok (commit_of s own session (transaction_at s.transactions.active own).changes)))
    ≡ (ok_or o NoTransaction >>= (λ own. Ok (committed_with (transaction_at s.transactions.active own).changes s session own)))
commit_at s session None = refl
commit_at s session (Some own) = ap (λ (done : Reply × State). Ok done) (commit_by s own session (transaction_at s.transactions.active own).changes refl)

pub commit_same : (s : State) (session : ℕ) → commit s session ≡ committed s session
commit_same s session = commit_at s session (transaction_of s.transactions.active session)
