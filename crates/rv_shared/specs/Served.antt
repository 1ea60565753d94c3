-- What threads see of a core, and what a call of it does.
use Rattle.std.specs.Prelude.{◌≡◌, ℕ, List, [], ◌∷◌, ◌++◌, Option, Some, None}
use Rattle.rv_lang.specs.declared.reply.Reply.{Reply}
use Rattle.rv_lang.specs.declared.statement.Statement.TheVariants.{Fetch}
use Rattle.rv_parse.specs.Reading.{statement_of}
use Rattle.rv_model.specs.declared.entry.Entry.{Entry}

-- the history of its calls, and the phase of the next
pub record Shown : Type 0 where
  pub history : List Entry
  pub phase : ℕ

-- a session's call in a phase, with the reply
abbrev pub entry : ℕ → ℕ → List ℕ → Reply → Entry
entry session phase text reply = record { session = session; phase = phase; text = text; reply = reply }

-- the history gains exactly the entry of this call
pub record Answers (old new : Shown) (session : ℕ) (text : List ℕ) (reply : Reply) : Type 0 where
  pub gained : new.history ≡ old.history ++ entry session old.phase text reply ∷ []
  pub same_phase : new.phase ≡ old.phase

-- the text is a FETCH
abbrev pub IsFetch : List ℕ → Type 0
IsFetch text = (cursor : List ℕ) × (statement_of text ≡ Some (Fetch cursor))

-- one turn's part of a call: the reply, or none yet, which only a FETCH has
abbrev pub AnswersPart : Shown → Shown → ℕ → List ℕ → Option Reply → Type 0
AnswersPart old new session text (Some reply) = Answers old new session text reply
AnswersPart old new session text None = IsFetch text × (new ≡ old)
