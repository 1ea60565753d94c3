-- What is decided of one entry.
use Rattle.std.specs.Prelude.{◌≡◌, ◌↔◌, ℕ, List, Bool, true, false, IsTrue, ◌&&◌, Option, Result, Ok, Err, if◌then◌else◌, slice_set}
use Rattle.rv_value.specs.declared.duplicate.NoMemory.{NoMemory}
use Rattle.rv_value.specs.declared.value.Value.{Value}
use Rattle.rv_lang.specs.declared.reply.Reply.{Reply}
use Rattle.rv_lang.specs.declared.reply.Reply.TheVariants.{Refused}
use Rattle.rv_lang.specs.declared.reply.Refusal.{Refusal}
use Rattle.rv_lang.specs.declared.statement.Statement.{Statement}
use Rattle.rv_catalog.specs.declared.def.Resolved.{Resolved}
use Rattle.rv_model.specs.declared.entry.Entry.{Entry}
use Rattle.rv_model.specs.declared.state.Cursor.{Cursor}
use Rattle.rv_model.specs.declared.state.Offer.{Offer}
use Rattle.rv_model.specs.declared.state.State.{State}
use Rattle.rv_model.specs.History.{IsNext, stepped}
use Rattle.rv_model.specs.Database.{cursor_at}
use Rattle.rv_model.specs.Offers.{same_values}
use Rattle.rv_model.specs.Step.{Allows, AllowsAsked, AllowsFetch, AllowsShow, AllowsStep, Offers, Outcome, fetched, next, next_asked, offers_after, other_cursors, reply_of, state_of}

-- A statement was done: this is its reply, and the state after it.
abbrev pub Done : Outcome → State → Reply → State → Type 0
Done outcome old reply new = (reply ≡ reply_of outcome) × (new ≡ state_of outcome old)

-- What is decided: it is allowed, and then the step is made; or it is not.
abbrev pub Judges : Bool → Type 0 → Type 0 → Type 0
Judges true allowed made = allowed × made
Judges false allowed made = ¬ allowed

abbrev pub JudgesOffers : Bool → List Offer → Reply → List Offer → Type 0
JudgesOffers b old given new = Judges b (Offers old given) (new ≡ offers_after old given)

-- the same of the cursor in a place
abbrev pub JudgesAt : Bool → ℕ → List Cursor → Reply → List Cursor → Type 0
JudgesAt b place old given new =
    Judges b (Offers (cursor_at old place).offers given)
    (new ≡ slice_set old place
    (record (cursor_at old place) { offers = offers_after (cursor_at old place).offers given }))

abbrev pub JudgesFetch : Bool → Option ℕ → State → List ℕ → Reply → State → Type 0
JudgesFetch b place old name given new = Judges b (AllowsFetch place old name given) (new ≡ fetched place old given)

-- STEP and SHOW leave the state
abbrev pub JudgesStep : Bool → Option ℕ → State → List ℕ → ℕ → Reply → Type 0
JudgesStep b place s name most given = Judges b (AllowsStep place name most given) (s ≡ s)

abbrev pub JudgesShow : Bool → Option ℕ → State → List ℕ → Reply → Type 0
JudgesShow b place s name given = Judges b (AllowsShow place s name given) (s ≡ s)

abbrev pub JudgesAsked : Bool → Result Resolved Refusal → State → ℕ → Reply → State → Type 0
JudgesAsked b asked old session given new =
    Judges b (AllowsAsked asked old session given) (new ≡ next_asked asked old session given)

abbrev pub JudgesStatement : Bool → State → ℕ → Option Statement → Reply → State → Type 0
JudgesStatement b old session statement given new =
    Judges b (Allows old session statement given) (new ≡ next old session statement given)

abbrev pub JudgesEntry : Bool → State → ℕ → Entry → State → Type 0
JudgesEntry b old phase e new = Judges b (IsNext old phase e) (new ≡ stepped old e)

-- whether a reply that was made is the one that is given
abbrev pub Compares : Result Reply NoMemory → Reply → Result Bool NoMemory → Type 0
Compares (Ok reply) given (Ok same) = IsTrue same ↔ (reply ≡ given)
Compares (Ok reply) given (Err e) = Unit {0}
Compares (Err e) given (Ok same) = ⊥
Compares (Err e) given (Err f) = Unit {0}

-- ---- cursors of their own

-- the state with other cursors
abbrev pub with_cursors : State → List Cursor → State
with_cursors s cursors = record s { cursors = cursors }

-- an offer that returns these values with the first offer's order values
abbrev pub fits : Offer → List Value → Offer → Bool
fits first values o = same_values o.order first.order && same_values o.returned values

-- whether a reply is a refusal
abbrev pub is_refused : Reply → Bool
is_refused (Refused refusal) = true
is_refused reply = false

-- the cursors after COMMIT or ROLLBACK, which close the session's unless they are refused
abbrev pub kept_after : Reply → List Cursor → ℕ → List Cursor
kept_after reply cursors session = if is_refused reply then cursors else other_cursors cursors session
