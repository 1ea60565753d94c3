-- What makes calls of a script's lines.
use Rattle.std.specs.Prelude.{◌≡◌, ◌<◌, ℕ, ◌≤◌, List, ◌++◌, Some, All, IfSome, length, None, [], slice_get, slice_set, take}
use Rattle.rv_script.specs.declared.scripts.Line.{Line}
use Rattle.rv_script.specs.declared.scripts.Phase.{Phase}
use Rattle.rv_script.specs.declared.scripts.Script.{Script}
use Rattle.rv_model.specs.declared.entry.Entry.{Entry}
use Rattle.rv_judge.specs.declared.judging.Facts.{Facts}
use Rattle.rv_judge.specs.Verdicts.{Ruling}
use Rattle.rv_script.specs.Script as saying
use Rattle.rv_script.specs.Script.{Saying}
use Rattle.rv_gen.specs.Workload.{HasCalls, IsCall}
use Rattle.rv_run.specs.Ruling.{Judging, judging}
use Rattle.rv_run.specs.Script.{Call, calls_made, calls_in, first_calls, of_session}

-- what a line says can be done: a call may be made, and a judge is one that there is
abbrev pub FitsSaying : Saying → Type 0
FitsSaying saying.Nothing = Unit {0}
FitsSaying (saying.Call line) = IsCall line
FitsSaying (saying.Next judge) = IfSome judge (λ number. number < 3)

-- a phase whose calls can be counted and may be made, and which names a judge that there is, or none
pub record FitsPhase (phase : Phase) : Type 0 where
  pub few : length phase.lines ≤ 200000
  pub calls : HasCalls phase
  pub judge : IfSome phase.judge (λ number. number < 3)

-- what stands behind the last phase
abbrev pub no_phase : Phase
no_phase = record { judge = None; lines = [] }

-- Phases can be counted, and each may be made.
pub record FitsScript (script : Script) : Type 0 where
  pub few : length script.phases ≤ 200001
  pub fits : All FitsPhase script.phases

-- The history gains the calls of the first lines of a phase, and no other entry.
pub record MakesCalls (old new : List Entry) (phase : ℕ) (lines : List Line) : Type 0 where
  pub count : ℕ
  pub within : count ≤ length lines
  pub gained : calls_made new ≡ calls_made old ++ calls_in phase (take count lines)

-- The history's calls are the first ones of all.
pub record MakesFirst (history : List Entry) (all : List Call) : Type 0 where
  pub rest : List Call
  pub whole : all ≡ calls_made history ++ rest

-- The calls of each of the eight sessions are those of so many phases, and of its first lines of the next one.
pub record MadeFirst (history : List Entry) (all : List Phase) : Type 0 where
  pub phases : ℕ
  pub each : (session : ℕ) → 1 ≤ session → session ≤ 8 → (lines : ℕ)
      × (of_session session (calls_made history) ≡ of_session session (first_calls phases lines all))

-- what calls under one judge do, which stood and now stands so: whatever its number is among judges, and whoever the
-- others are
abbrev pub Anywhere : Judging → Judging → (ℕ → List Judging → List Judging → Type 0) → Type 0
Anywhere stood stands Does =
    (number : ℕ) (judges : List Judging) → slice_get judges number ≡ Some stood
    → Does number judges (slice_set judges number stands)

-- the same of a judge that a box hides, by what it would rule and where it stands
abbrev pub MakesUnder : {J : Type 0} → (J → ℕ → Facts → Ruling) → (J → ℕ) → J → J
    → (ℕ → List Judging → List Judging → Type 0) → Type 0
MakesUnder would state old new Does = Anywhere (judging (would old) (state old)) (judging (would old) (state new)) Does

-- a part that stays
abbrev pub Keeps : {J X : Type 0} → (J → X) → J → J → Type 0
Keeps part old new = part new ≡ part old
