-- What a core shows.
use Rattle.std.specs.Prelude.{◌≡◌, ◌≤◌, ◌+◌, ℕ, List, [], ◌∷◌, ◌++◌, length}
use Rattle.rv_model.specs.declared.state.State.{State}
use Rattle.rv_model.specs.declared.entry.Entry.{Entry}
use Rattle.rv_lang.specs.declared.reply.Reply.{Reply}
use Rattle.rv_model.specs.History.{IsNext, stepped, after, phase_after, IsLegal}
use Rattle.rv_model.specs.Transactions.{horizon}
use Rattle.rv_cursor.specs.declared.cursor.Open.{Open}
use Rattle.rv_parse.specs.Reading.{statement_of}
use Rattle.rv_core.specs.Db.{Whole}
use Rattle.rv_core.specs.declared.engine.PartOf.{PartOf}
use Rattle.rv_core.specs.declared.engine.PartOf.TheVariants.{Answered, Working}
use Rattle.rv_core.specs.Obeying.{HandlesText, LeavesText, Plans, TurnsText, Under, WorksText}

-- its history, phase and store, the database for which it stands, the store's horizon, the open
-- cursors with their plans, in the order of their opening, and the number of the next cursor
pub record Shown (S : Type 0) : Type 0 where
  pub history : List Entry
  pub phase : ℕ
  pub store : S
  pub db : State
  pub horizon : ℕ
  pub opens : List Open
  pub opened : ℕ

abbrev pub shown_of : {S : Type 0} → List Entry → ℕ → Whole S → Shown S
shown_of history phase d = record {
  history = history;
  phase = phase;
  store = d.store;
  db = d.stand.db;
  horizon = d.stand.horizon;
  opens = d.opens;
  opened = d.opened;
}

-- its plans, under a judge that stands there
abbrev pub plans_in : {S : Type 0} → Shown S → ℕ → Plans
plans_in shown judge = record { opens = shown.opens; opened = shown.opened; judge = judge }

-- the lowest base of an active transaction, or the last commit
abbrev pub horizon_of : State → ℕ
horizon_of db = horizon db.transactions.active db.last

-- The history is legal, the phase is that of the last entry or later, and the database is the one after the history.
-- The store keeps what the transactions need, and no older snapshot.
pub record IsSound {S : Type 0} (shown : Shown S) : Type 0 where
  pub legal : IsLegal shown.history
  pub database : shown.db ≡ after shown.history
  pub phases : phase_after 0 shown.history ≤ shown.phase
  pub kept : shown.horizon ≡ horizon_of shown.db
  pub numbers : shown.opened ≤ length shown.history + 1

-- a session's call in a phase, with the reply
abbrev pub entry : ℕ → ℕ → List ℕ → Reply → Entry
entry session phase text reply = record { session = session; phase = phase; text = text; reply = reply }

-- AN ANSWERED CALL, made under a judge that stood and now stands there: the history gains exactly the entry of this
-- call, and the database is the step by it. The store keeps what the transactions need. The plans are handled as the
-- call asks, and a refused call leaves them; a search of an UPDATE or DELETE may have asked the judge.
pub record Answers {S : Type 0} (u : Under) (judge ruled : ℕ) (old new : Shown S) (session : ℕ) (text : List ℕ)
    (reply : Reply) : Type 0 where
  pub gained : new.history ≡ old.history ++ entry session old.phase text reply ∷ []
  pub same_phase : new.phase ≡ old.phase
  pub allowed : IsNext old.db old.phase (entry session old.phase text reply)
  pub step : new.db ≡ stepped old.db (entry session old.phase text reply)
  pub swept : new.horizon ≡ horizon_of new.db
  pub numbers : new.opened ≤ old.opened + 1
  pub plans : HandlesText u (statement_of text) old.db session reply (plans_in old judge) (plans_in new ruled)

-- A CALL FOR WHICH NO MEMORY WAS FOUND: nothing is changed, but that a FETCH or STEP may have moved the plan of its
-- cursor, and that an UPDATE or DELETE may have asked the judge
pub record Unanswered {S : Type 0} (u : Under) (judge ruled : ℕ) (old new : Shown S) (session : ℕ)
    (text : List ℕ) : Type 0 where
  pub kept : new ≡ record old { store = new.store; opens = new.opens }
  pub plans : LeavesText u (statement_of text) old.db session (plans_in old judge) (plans_in new ruled)

-- A CALL THAT WORKS ON: a FETCH has brought its cursor nearer to a row, and nothing else is changed
pub record WorksFor {S : Type 0} (u : Under) (judge ruled : ℕ) (old new : Shown S) (session : ℕ)
    (text : List ℕ) : Type 0 where
  pub kept : new ≡ record old { opens = new.opens }
  pub plans : WorksText u (statement_of text) old.db session (plans_in old judge) (plans_in new ruled)

-- a call that is answered in one turn
pub record AnswersTurn {S : Type 0} (u : Under) (judge ruled : ℕ) (old new : Shown S) (session : ℕ) (text : List ℕ)
    (reply : Reply) : Type 0 where
  pub answers : Answers u judge ruled old new session text reply
  pub turn : TurnsText u (statement_of text) old.db session reply (plans_in old judge) (plans_in new ruled)

-- ONE TURN'S PART OF A CALL
abbrev pub AnswersPart : {S : Type 0} → Under → ℕ → ℕ → Shown S → Shown S → ℕ → List ℕ → PartOf → Type 0
AnswersPart u judge ruled old new session text (Answered reply) = AnswersTurn u judge ruled old new session text reply
AnswersPart u judge ruled old new session text Working = WorksFor u judge ruled old new session text
