-- What the calls on transactions answer, beside what they make of them.
use Rattle.std.specs.Prelude.{◌≡◌, ℕ, List, Option, Some, None, Result, Ok, Err}
use Rattle.rv_rows.specs.declared.changes.Change.{Change}
use Rattle.rv_lang.specs.declared.reply.Refusal.{Refusal}
use Rattle.rv_lang.specs.declared.reply.Refusal.TheVariants.{NoTransaction}
use Rattle.rv_catalog.specs.Answers.{◌>>=◌, ok_or}
use Rattle.rv_model.specs.declared.transactions.Transaction.{Transaction}
use Rattle.rv_model.specs.declared.transactions.Transactions.{Transactions}
use Rattle.rv_model.specs.Transactions.{transaction_of, transaction_at, without, writer}
use Rattle.rv_txn.specs.declared.txns.TxnFault.{TxnFault}
use Rattle.rv_txn.specs.declared.txns.TxnFault.TheVariants.{Refused, NoMemory}
use Rattle.rv_txn.specs.declared.txns.Standing.{Standing}

-- A fault is the refusal that is due. Want of memory is free.
abbrev pub IsFault : {A : Type 0} → Result A Refusal → TxnFault → Type 0
IsFault due (Refused refusal) = due ≡ Err refusal
IsFault due NoMemory = Unit {0}

-- the session's transaction, which has to be one that may write
abbrev pub writing : List Transaction → ℕ → Result Transaction Refusal
writing active session = do
  own ← writer active session
  Ok (transaction_at active own)

-- what a commit needs of the session's transaction: its number, its base and its changes
abbrev pub finished : Transactions → ℕ → Result (ℕ × ℕ × List Change) Refusal
finished t session = do
  own ← ok_or (transaction_of t.active session) NoTransaction
  Ok ((transaction_at t.active own).number, (transaction_at t.active own).base, (transaction_at t.active own).changes)

-- ROLLBACK
abbrev pub rolled_back : Transactions → ℕ → Result Transactions Refusal
rolled_back t session = do
  own ← ok_or (transaction_of t.active session) NoTransaction
  Ok (without t own)

abbrev pub standing_at : List Transaction → ℕ → Standing
standing_at active own =
    record {
      txn = (transaction_at active own).number;
      read_only = (transaction_at active own).read_only;
      base = (transaction_at active own).base;
    }

-- the standing of the transaction in a place, if any
abbrev pub standing : List Transaction → Option ℕ → Option Standing
standing active None = None
standing active (Some own) = Some (standing_at active own)
