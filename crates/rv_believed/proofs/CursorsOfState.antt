-- OPEN and CLOSE in believed words over the working state.
use Rattle.std.specs.Prelude.{ℕ, List, [], ◌∷◌, ◌++◌, Ok, ◌==◌, nat_lt, is_some, length, filter, remove}
use Rattle.std.specs.List.{slice_index_or}
use Rattle.rv_lang.specs.declared.reply.Refusal.TheVariants.{NoTransaction, NoCursor, CursorOpen, Limit}
use Rattle.rv_lang.specs.declared.reply.Which.TheVariants as limits
use Rattle.rv_lang.specs.declared.reply.Reply.TheVariants.{Closed, Opened}
use Rattle.rv_catalog.specs.declared.def.Select.{Select}
use Rattle.rv_catalog.specs.Answers.{◌>>=◌, ok_or, refuse_if}
use Rattle.rv_model.specs.declared.state.State.{State}
use Rattle.rv_model.specs.declared.state.Cursor.{Cursor}
use Rattle.rv_model.specs.Database.{cursor_named}
use Rattle.rv_model.specs.Offers.{offers_in_order}
use Rattle.rv_model.specs.Step.{Outcome}
use Rattle.rv_model.specs.Transactions.{transaction_of}
use Rattle.rv_believed.proofs.ChangingOfState.{view}
use Rattle.rv_believed.specs.Offers.{offers_of}

-- a cursor over what the transaction in a place sees, with its offers in their order
abbrev pub new_cursor : State → ℕ → ℕ → List ℕ → Select → Cursor
new_cursor s own session name q =
    let offers = offers_in_order (offers_of q (view s own)) in
    record { session = session; name = name; table = slice_index_or q.tables 0 0; offers = offers }

-- OPEN: not a name that is open in the session, and at most 16 cursors in a session
abbrev pub open_cursor : State → ℕ → List ℕ → Select → Outcome
open_cursor s session name q = do
  own ← ok_or (transaction_of s.transactions.active session) NoTransaction
  free ← refuse_if (is_some (cursor_named s.cursors session name)) (CursorOpen name)
  room ← refuse_if (nat_lt 15 (length (filter (λ (c : Cursor). c.session == session) s.cursors)))
      (Limit limits.Cursors 16)
  Ok (Opened, record s { cursors = s.cursors ++ new_cursor s own session name q ∷ [] })

-- CLOSE
abbrev pub close_cursor : State → ℕ → List ℕ → Outcome
close_cursor s session name = do
  place ← ok_or (cursor_named s.cursors session name) (NoCursor name)
  Ok (Closed, record s { cursors = remove s.cursors place })
