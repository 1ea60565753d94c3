-- A transaction more raises the next number by one.
use Rattle.std.proofs.Common.{◌≡◌, ℕ, ◌+◌, Bool, Result, Ok, Err, Option, Some, None, refl, ap, sym}
use Rattle.rv_lang.specs.declared.reply.Refusal.{Refusal}
use Rattle.rv_model.specs.declared.transactions.Transactions.{Transactions}
use Rattle.rv_model.specs.Transactions.{began, transaction_of}

abbrev next_in : Result (ℕ × Transactions) Refusal → ℕ
next_in (Ok begun) = begun.1.next
next_in (Err refusal) = 0

pub began_next : (t new : Transactions) (session base n : ℕ) (read_only : Bool) → began t session read_only base ≡ Ok (n, new) → new.next ≡ t.next + 1
began_next t new session base n read_only told = by_place (transaction_of t.active session) refl told
  where
    by_place : (o : Option ℕ) → transaction_of t.active session ≡ o → began t session read_only base ≡ Ok (n, new) → new.next ≡ t.next + 1
    by_place None e h = let told = rw e at h in sym (ap next_in told)
    by_place (Some own) e h = let told = rw e at h in cc
