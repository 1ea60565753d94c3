-- An answered call keeps a core sound.
use Rattle.std.proofs.Common.{◌≡◌, ℕ, List, [], ◌∷◌, ◌++◌, ◌+◌, ◌≤◌, refl, sym, ◌∙◌, ap, subst, arith, length-append}
use Rattle.rv_model.specs.declared.entry.Entry.{Entry}
use Rattle.rv_lang.specs.declared.reply.Reply.{Reply}
use Rattle.rv_model.specs.declared.state.State.{State}
use Rattle.rv_model.specs.Database.{empty}
use Rattle.rv_model.specs.History.{IsNext, IsLegal, stepped, after, phase_after}
use Rattle.rv_model.proofs.Histories.{after_from-push, IsLegalFrom-push, phase_after-push}
use Rattle.rv_parse.specs.Reading.{statement_of}
use Rattle.rv_core.specs.Core.{Shown, IsSound, Answers, Unanswered, entry, horizon_of, plans_in, shown_of}
use Rattle.rv_core.proofs.Handling.{leaves_text}
use Rattle.rv_core.specs.Db.{Stand, Whole}
use Rattle.rv_core.specs.Doing.{Executes}
use Rattle.rv_core.specs.Obeying.{HandlesText, LeavesText, Under, plans_of}

pub IsSound-Answers : {S : Type 0} (u : Under) (judge ruled : ℕ) (old new : Shown S) (session : ℕ) (text : List ℕ) (reply : Reply) → IsSound old → Answers u judge ruled old new session text reply → IsSound new
IsSound-Answers u judge ruled old new session text reply sound a =
    let e : Entry = entry session old.phase text reply in
    let after_is : after (old.history ++ e ∷ []) ≡ stepped (after old.history) e = after_from-push empty old.history e in
    let Follows : State → Type 0 = λ s. IsNext s old.phase e in
    let next : IsNext (after old.history) old.phase e = subst Follows sound.database a.allowed in
    let follows : IsNext (after old.history) (phase_after 0 old.history) e = record { from = next.from; to = next.to; phase = sound.phases; allowed = next.allowed } in
    let legal : IsLegal (old.history ++ e ∷ []) = IsLegalFrom-push empty 0 old.history e sound.legal follows in
    let ends : phase_after 0 (old.history ++ e ∷ []) ≡ old.phase = phase_after-push 0 old.history e in
    record {
      legal = rw a.gained legal;
      database = a.step ∙ ap (λ s. stepped s e) sound.database ∙ sym after_is ∙ ap after (sym a.gained);
      phases = rw (a.gained, a.same_phase, ends) (omega arith);
      kept = a.swept;
      numbers = let n = length-append old.history (e ∷ []) in rw a.gained (omega (arith, n, a.numbers, sound.numbers));
    }

-- a sweep leaves the cursors
pub opens_swept : {S : Type 0} (d e : Whole S) → e ≡ record d { store = e.store; stand = record d.stand { horizon = horizon_of d.stand.db } } → e.opens ≡ d.opens
opens_swept d e swept = rw swept refl

-- what a call owes, from what is done below it
pub answered : {S : Type 0} (u : Under) (judge ruled : ℕ) (w d e : Whole S) (history more : List Entry) (phase session : ℕ) (text copy : List ℕ) (reply kept : Reply) → 1 ≤ session → session ≤ 8 → more ≡ history ++ entry session phase copy kept ∷ [] → copy ≡ text → Executes w.stand session (statement_of text) (reply, kept) d.stand → HandlesText u (statement_of text) w.stand.db session reply (plans_of w judge) (plans_of d ruled) → d.opened ≤ w.opened + 1 → e ≡ record d { store = e.store; stand = record d.stand { horizon = horizon_of d.stand.db } }
    → Answers u judge ruled (shown_of history phase w) (shown_of more phase e) session text reply
answered u judge ruled w d e history more phase session text copy reply kept from to pushed copied did handled grown swept =
    let same : kept ≡ reply = did.0 in
    let own : entry session phase copy kept ≡ entry session phase text reply = rw (copied, same) refl in
    rw swept record {
      gained = pushed ∙ ap (λ (x : Entry). history ++ x ∷ []) own;
      same_phase = refl;
      allowed = record { from = from; to = to; phase = omega arith; allowed = did.1 };
      step = ap (λ (s : Stand). s.db) did.2;
      swept = refl;
      numbers = grown;
      plans = handled;
    }

-- what a call owes for which no memory was found
pub unanswered : {S : Type 0} (u : Under) (judge ruled : ℕ) (w d : Whole S) (history : List Entry) (phase session : ℕ) (text : List ℕ) → d.stand ≡ w.stand → d.opened ≡ w.opened → LeavesText u (statement_of text) w.stand.db session (plans_of w judge) (plans_of d ruled) → Unanswered u judge ruled (shown_of history phase w) (shown_of history phase d) session text
unanswered u judge ruled w d history phase session text stand opened leaves = record { kept = rw (stand, opened) refl; plans = leaves }

pub IsSound-Unanswered : {S : Type 0} (u : Under) (judge ruled : ℕ) (old new : Shown S) (session : ℕ) (text : List ℕ) → IsSound old → Unanswered u judge ruled old new session text → IsSound new
IsSound-Unanswered u judge ruled old new session text sound a = rw a.kept record { legal = sound.legal; database = sound.database; phases = sound.phases; kept = sound.kept; numbers = sound.numbers }

-- nothing was done
pub unanswered_same : {S : Type 0} (u : Under) (judge : ℕ) (shown : Shown S) (session : ℕ) (text : List ℕ) → Unanswered u judge judge shown shown session text
unanswered_same u judge shown session text = record { kept = refl; plans = leaves_text u (statement_of text) shown.db session (plans_in shown judge) }

-- as the database tells it of the same text, where the history has room for an entry more
pub unanswered_at : {S : Type 0} (u : Under) (judge ruled : ℕ) (w d : Whole S) (history more : List Entry) (phase session : ℕ) (text told : List ℕ) → more ≡ history → told ≡ text → d.stand ≡ w.stand → d.opened ≡ w.opened → LeavesText u (statement_of told) w.stand.db session (plans_of w judge) (plans_of d ruled) → Unanswered u judge ruled (shown_of history phase w) (shown_of more phase d) session text
unanswered_at u judge ruled w d history more phase session text told is same stand opened leaves = rw is (unanswered u judge ruled w d history phase session text stand opened (rw same at leaves))

-- no entry was added
pub unanswered_kept : {S : Type 0} (u : Under) (judge : ℕ) (w : Whole S) (history more : List Entry) (phase session : ℕ) (text : List ℕ) → more ≡ history → Unanswered u judge judge (shown_of history phase w) (shown_of more phase w) session text
unanswered_kept u judge w history more phase session text is = rw is (unanswered_same u judge (shown_of history phase w) session text)
