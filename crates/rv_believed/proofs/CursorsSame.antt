-- Bridge: OPEN and CLOSE come to what the working definitions say.
use Rattle.std.proofs.Common.{◌≡◌, ℕ, List, [], ◌∷◌, ◌++◌, Option, Some, None, Ok, Err, refl, ◌∙◌, ◌==◌, filter, length, nat_lt, is_some}
use Rattle.std.specs.List.{slice_index_or}
use Rattle.rv_lang.specs.declared.reply.Refusal.TheVariants.{NoTransaction, CursorOpen, Limit}
use Rattle.rv_lang.specs.declared.reply.Which.TheVariants as limits
use Rattle.rv_lang.specs.declared.reply.Reply.TheVariants.{Opened}
use Rattle.rv_catalog.specs.declared.def.Select.{Select}
use Rattle.rv_catalog.specs.Answers.{◌>>=◌, ok_or, refuse_if}
use Rattle.rv_model.specs.declared.state.State.{State}
use Rattle.rv_model.specs.declared.state.Cursor.{Cursor}
use Rattle.rv_model.specs.declared.state.Offer.{Offer}
use Rattle.rv_model.specs.Database.{cursor_named}
use Rattle.rv_model.specs.Offering.{offers_over}
use Rattle.rv_model.specs.Offers.{offers_in_order}
use Rattle.rv_model.specs.Step.{Outcome, closed, opened}
use Rattle.rv_model.specs.Transactions.{transaction_of}
use Rattle.rv_believed.specs.Answers.{Test}
use Rattle.rv_believed.proofs.ChangingOfState.{view}
use Rattle.rv_believed.proofs.CursorsOfState.{close_cursor, open_cursor}
use Rattle.rv_believed.specs.Offers.{offers_of}
use Rattle.rv_believed.proofs.OffersSame.{offers_same}

-- two tests, and what follows them
two_then : (a b : Test) (own : ℕ) (f : ℕ → Outcome) → (a >>= (λ u. b >>= (λ v. f own))) ≡ ((a >>= (λ u. b >>= (λ v. Ok own))) >>= f)
two_then (Ok u) (Ok v) own f = refl
two_then (Ok u) (Err e) own f = refl
two_then (Err e) b own f = refl

-- with a cursor that has these offers
abbrev opened_with : State → ℕ → List ℕ → Select → List Offer → Outcome
opened_with s session name q offers = Ok (
  Opened,
  record s {
    cursors = s.cursors ++ record { session = session; name = name; table = slice_index_or q.tables 0 0; offers = offers_in_order offers } ∷ [];
  },
)

abbrev free_test : State → ℕ → List ℕ → Test
free_test s session name = refuse_if (is_some (cursor_named s.cursors session name)) (CursorOpen name)

abbrev room_test : State → ℕ → Test
room_test s session = refuse_if (nat_lt 15 (length (filter (λ (c : Cursor). c.session == session) s.cursors))) (Limit limits.Cursors 16)

open_by : (s : State) (session : ℕ) (name : List ℕ) (q : Select) (o : Option ℕ)
    → (ok_or o NoTransaction >>= (λ own. free_test s session name >>= (λ u. room_test s session
    >>= (λ w. opened_with s session name q (offers_of q (view s own))))))
    ≡ ((ok_or o NoTransaction >>= (λ own. free_test s session name >>= (λ u. room_test s session >>= (λ w. Ok own))))
    >>= (λ own. opened_with s session name q (offers_over q (view s own))))
open_by s session name q None = refl
open_by s session name q (Some own) =
    (λ k. free_test s session name >>= (λ u. room_test s session
    >>= (λ w. opened_with s session name q (offers_same q (view s own) k))))
    ∙ two_then (free_test s session name) (room_test s session) own
    (λ own. opened_with s session name q (offers_over q (view s own)))

pub open_same : (s : State) (session : ℕ) (name : List ℕ) (q : Select) → open_cursor s session name q ≡ opened s session name q
open_same s session name q = open_by s session name q (transaction_of s.transactions.active session)

pub close_same : (s : State) (session : ℕ) (name : List ℕ) → close_cursor s session name ≡ closed s session name
close_same s session name = refl
