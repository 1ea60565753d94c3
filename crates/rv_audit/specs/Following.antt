-- A history follows a script.
use Rattle.std.specs.Prelude.{◌≡◌, ℕ, zero, suc, ◌<◌, ◌≤◌, ◌==◌, List, [], ◌++◌, None, length, map, filter}
use Rattle.std.specs.List.{slice_index_or}
use Rattle.rv_script.specs.declared.scripts.Line.{Line}
use Rattle.rv_script.specs.declared.scripts.Phase.{Phase}
use Rattle.rv_script.specs.declared.scripts.Script.{Script}
use Rattle.rv_model.specs.declared.entry.Entry.{Entry}
use Rattle.rv_model.specs.History.{calls}
use Rattle.rv_model.specs.Transcript.{AllSameButPhase}
use Rattle.rv_believed.specs.History.{IsLegal}

-- the texts of a session's calls in the phase in a place, in order
abbrev pub texts_of : List Phase → ℕ → ℕ → List (List ℕ)
texts_of phases session place = map (λ (l : Line). l.text)
    (filter (λ (l : Line). l.session == session)
    (slice_index_or phases place (record { judge = None; lines = [] })).lines)

-- those of a phase, of which the first is 1
abbrev pub asked_in : List Phase → ℕ → ℕ → List (List ℕ)
asked_in phases session zero = []
asked_in phases session (suc place) = texts_of phases session place

-- The first list is a front of the second.
pub record IsFront (front whole : List (List ℕ)) : Type 0 where
  pub rest : List (List ℕ)
  pub is : whole ≡ front ++ rest

-- Up to some phase each session, of 1 to 8, has made its calls, in order: all of the phases before, a front of those
-- of this phase, and none of the phases behind.
pub record Follows (phases : List Phase) (history : List Entry) : Type 0 where
  pub at : ℕ
  pub past : (session phase : ℕ) → 1 ≤ session → session ≤ 8 → phase < at
      → calls history session phase ≡ asked_in phases session phase
  pub now : (session : ℕ) → 1 ≤ session → session ≤ 8 → IsFront (calls history session at) (asked_in phases session at)
  pub later : (session phase : ℕ) → 1 ≤ session → session ≤ 8 → at < phase → calls history session phase ≡ []

-- With some phases, which a transcript does not tell, the entries are a legal history that follows the script. That
-- phases never fall is part of `IsLegal`.
pub record IsLegalTo (script : Script) (entries : List Entry) : Type 0 where
  pub history : List Entry
  pub same : AllSameButPhase entries history
  pub legal : IsLegal history
  pub follows : Follows script.phases history

-- Each call of the script has its entry.
abbrev pub HasAll : List Phase → List Entry → Type 0
HasAll phases history =
    (session phase : ℕ) → 1 ≤ session → session ≤ 8 → calls history session phase ≡ asked_in phases session phase

-- The same, and no call of the script is without an entry.
pub record IsWhole (script : Script) (entries : List Entry) : Type 0 where
  pub history : List Entry
  pub same : AllSameButPhase entries history
  pub legal : IsLegal history
  pub all : HasAll script.phases history

-- A call of the session in the phase has no entry; no call of an earlier phase lacks one, and none of a lower session
-- in it.
pub record IsFirstMissing (phases : List Phase) (history : List Entry) (session phase : ℕ) : Type 0 where
  pub from : 1 ≤ session
  pub to : session ≤ 8
  pub missing : length (calls history session phase) < length (asked_in phases session phase)
  pub earlier : (s p : ℕ) → 1 ≤ s → s ≤ 8 → p < phase → calls history s p ≡ asked_in phases s p
  pub lower : (s : ℕ) → 1 ≤ s → s < session → calls history s phase ≡ asked_in phases s phase
