-- OPEN, FETCH and CLOSE over cursors that are lists of offers.
use Rattle.std.proofs.Common.{◌≡◌, ◌↔◌, ℕ, List, [], ◌∷◌, ◌++◌, refl, sym, ap, Bool, true, false, IsTrue, Option, Some, None, Ok, Err, slice_get, slice_set}
use Rattle.std.proofs.lemmas.Option.{get_or_from_slice_get}
use Rattle.rv_lang.specs.declared.reply.Reply.{Reply}
use Rattle.rv_lang.specs.declared.reply.Reply.TheVariants.{Opened, Refused}
use Rattle.rv_lang.specs.declared.reply.Refusal.{Refusal}
use Rattle.rv_lang.specs.declared.reply.Refusal.TheVariants.{NoCursor}
use Rattle.rv_catalog.specs.declared.def.Select.{Select}
use Rattle.rv_model.specs.declared.state.Cursor.{Cursor}
use Rattle.rv_model.specs.declared.state.Offer.{Offer}
use Rattle.rv_model.specs.declared.state.State.{State}
use Rattle.rv_model.specs.Database.{cursor_at, no_cursor}
use Rattle.rv_model.specs.Offering.{offers_over}
use Rattle.rv_model.specs.Offers.{offers_in_order}
use Rattle.rv_model.specs.Step.{Offers, offers_after, opened, rows_viewed, table_of, view_rows}
use Rattle.rv_model.specs.Transactions.{transaction_of}
use Rattle.rv_core.specs.Doing.{opening_base}
use Rattle.rv_core.proofs.Calling.{opening_is, opens_err}
use Rattle.rv_replay.specs.Judging.{Done, Judges, JudgesAt, JudgesFetch, JudgesOffers, with_cursors}

-- ---- OPEN

pub opens : (s : State) (c more : List Cursor) (session base : ℕ) (name : List ℕ) (select : Select) (offers : List Offer) → opening_base s.transactions.active c session name ≡ Ok base → offers ≡ offers_in_order (offers_over select (rows_viewed s (transaction_of s.transactions.active session))) → more ≡ c ++ record { session = session; name = name; table = table_of select; offers = offers } ∷ []
    → Done (opened (with_cursors s c) session name select) (with_cursors s c) Opened (with_cursors s more)
opens s c more session base name select offers h listed pushed =
    let o = opening_is s.transactions.active c session base name h in
    let offers_are : offers ≡ offers_in_order (offers_over select (view_rows s o.0)) = rw (o.2) at listed in
    rw (o.1, pushed, offers_are) (refl, refl)

pub opens_not : (s : State) (c : List Cursor) (session : ℕ) (name : List ℕ) (select : Select) (refusal : Refusal) → opening_base s.transactions.active c session name ≡ Err refusal
    → Done (opened (with_cursors s c) session name select) (with_cursors s c) (Refused refusal) (with_cursors s c)
opens_not s c session name select refusal h = rw (opens_err (with_cursors s c) session name select refusal h) (refl, refl)

-- ---- FETCH

pub fetch_none : (b : Bool) (s : State) (place : Option ℕ) (name : List ℕ) (given : Reply) → place ≡ None → IsTrue b ↔ (Refused (NoCursor name) ≡ given) → JudgesFetch b place s name given s
fetch_none true s place name given e same = rw e (sym (same.0 refl), refl)
fetch_none false s place name given e same = rw e (λ told. let wrong : false ≡ true = same.1 (sym told) in cc)

-- a cursor, whose offers are judged
pub judges_cursor : (b : Bool) (c : Cursor) (given : Reply) (offers : List Offer) → JudgesOffers b c.offers given offers → Judges b (Offers c.offers given) (◌≡◌ {A = Cursor} (record c { offers = offers }) (record c { offers = offers_after c.offers given }))
judges_cursor true c given offers judges = (judges.0, ap (λ (os : List Offer). record c { offers = os }) judges.1)
judges_cursor false c given offers judges = judges

-- the cursor in a place
pub judges_at : (b : Bool) (cs : List Cursor) (place : ℕ) (c new : Cursor) (given : Reply) → slice_get cs place ≡ Some c → Judges b (Offers c.offers given) (new ≡ record c { offers = offers_after c.offers given }) → JudgesAt b place cs given (slice_set cs place new)
judges_at true cs place c new given there judges =
    let here : cursor_at cs place ≡ c = get_or_from_slice_get cs place c no_cursor there in
    rw here (judges.0, ap (slice_set cs place) judges.1)
judges_at false cs place c new given there judges =
    let here : cursor_at cs place ≡ c = get_or_from_slice_get cs place c no_cursor there in
    rw here judges

pub fetch_some : (b : Bool) (s : State) (c new : List Cursor) (place : Option ℕ) (at : ℕ) (name : List ℕ) (given : Reply) → place ≡ Some at → JudgesAt b at c given new → JudgesFetch b place (with_cursors s c) name given (with_cursors s new)
fetch_some true s c new place at name given e judges = rw e (judges.0, ap (with_cursors s) judges.1)
fetch_some false s c new place at name given e judges = rw e judges
