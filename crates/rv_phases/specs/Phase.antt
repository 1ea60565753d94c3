-- What a phase makes of a history: each session's calls, each once, in its order.
use Rattle.std.specs.Prelude.{◌≡◌, ℕ, ◌+◌, ◌<◌, ◌≤◌, ◌==◌, Bool, false, List, ◌++◌, filter, map, length, take}
use Rattle.rv_script.specs.declared.scripts.Line.{Line}
use Rattle.rv_model.specs.declared.entry.Entry.{Entry}
use Rattle.rv_model.specs.History.{IsLegal}
use Rattle.rv_turn.specs.State.{IsPassOf, PassState, TurnState}

-- a call of a session: its phase and its text
pub record Call : Type 0 where
  pub phase : ℕ
  pub text : List ℕ

abbrev pub call : ℕ → List ℕ → Call
call phase text = record { phase = phase; text = text }

-- a session's calls in a history, in order
abbrev pub own : ℕ → List Entry → List Call
own session entries = map (λ (e : Entry). call e.phase e.text) (filter (λ (e : Entry). e.session == session) entries)

-- the calls that lines ask of it in a phase, in order
abbrev pub asked : ℕ → ℕ → List Line → List Call
asked session phase lines = map (λ (l : Line). call phase l.text) (filter (λ (l : Line). l.session == session) lines)

-- The session's calls are those of before and then those that the first of the lines ask; all of them where want of
-- memory stopped nobody.
pub record Made (session phase : ℕ) (lines : List Line) (short : Bool) (old new : List Entry) : Type 0 where
  pub count : ℕ
  pub within : count ≤ length lines
  pub all : short ≡ false → count ≡ length lines
  pub calls : own session new ≡ own session old ++ asked session phase (take count lines)

-- A PHASE: the history goes on and is legal, and each session's calls are its own in their order.
pub record PhaseDone (lines : List Line) (short : Bool) (phase : ℕ) (old new : List Entry) : Type 0 where
  pub legal : IsLegal new
  pub after : List Entry
  pub extends : new ≡ old ++ after
  pub each : (session : ℕ) → 1 ≤ session → session ≤ 8 → Made session phase lines short old new

-- a pass whose part in a phase is done
pub record IsDone {C : Type 0} (phase : ℕ) (turn : TurnState Entry C) (lines : List Line) (short : Bool)
    (p : PassState Entry C) : Type 0 where
  pub pass : IsPassOf turn p
  pub made : p.number < 8 → Made (p.number + 1) phase lines short turn.opening p.seen
