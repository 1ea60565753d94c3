-- Under which judges this program runs, and what a run of it writes and tells, by its status.
use Rattle.std.specs.Prelude.{◌⊎◌, ℕ, List, [], ◌∷◌, Option}
use Rattle.std.specs.Io.KnownBytes.{Appends}
use Rattle.rv_io.specs.Pieces.{AppendsFront}
use Rattle.rv_judge.specs.declared.judging.Facts.{Facts}
use Rattle.rv_judge.specs.declared.judging.Verdict.{Verdict}
use Rattle.skew_judges.specs.Guard.{guarded}
use Rattle.skew_judges.specs.Rules.{all_rows, first_rows}
use Rattle.rv_script.specs.declared.scripts.Script.{Script}
use Rattle.rv_model.specs.declared.entry.Entry.{Entry}
use Rattle.rv_model.specs.Transcript.{text}
use Rattle.rv_believed.specs.History.{IsLegal}
use Rattle.rv_core.specs.Core.{Shown}
use Rattle.rv_run.specs.declared.status.Status.{Status}
use Rattle.rv_run.specs.declared.status.Status.TheVariants as statuses
use Rattle.rv_run.specs.Ruling.{Judging, judging}
use Rattle.rv_run.specs.Script.{HasAllCalls, HasFirstCalls, IsInOrder, Runs, Writes}
use Rattle.rv_run.specs.Serving.{EndsSo, Serves, WrittenBy}

-- a judge without a state, which always answers so
abbrev pub always : (Facts → Verdict) → Judging
always answer = judging (λ state facts. record { verdict = answer facts; next = 0 }) 0

-- `Bounded` around `AllRows`
abbrev pub bounded : Judging
bounded = judging (guarded (always all_rows).would) 0

-- THE JUDGES OF THIS PROGRAM, by number: `Bounded` around `AllRows`, `AllRows`, `FirstRows`.
abbrev pub our_judges : List Judging
our_judges = bounded ∷ always all_rows ∷ always first_rows ∷ []

-- WHAT WAS WRITTEN, AND HOW IT CAME: so much of the output of a legal history that has such calls of the script, which
-- were made so in the core that has this history.
pub record WritesFrom {S : Type 0} (seed : Option ℕ) (left : Option (List ℕ)) (Written : List ℕ → Type 0)
    (Has : List Entry → Script → Type 0) (Made : Shown S → Script → Type 0) : Type 0 where
  pub core : Shown S
  pub writes : Writes seed left Written Has core.history
  pub made : Runs seed left (Made core)

-- WHAT A RUN WROTE, by its status: all; of its first calls, or nothing, where memory was wanting; a front of that where
-- a write failed; else nothing.
abbrev pub RunWrites : {S : Type 0} → Option ℕ → Option (List ℕ) → Type 0 → Option (List ℕ) → Option (List ℕ)
    → (Shown S → Script → Type 0) → (Shown S → Script → Type 0) → Status → Type 0
RunWrites seed left Nothing old new All First statuses.Done =
    WritesFrom seed left (Appends old new) HasAllCalls All
RunWrites seed left Nothing old new All First statuses.Memory =
    Nothing ⊎ WritesFrom seed left (Appends old new) HasFirstCalls First
RunWrites seed left Nothing old new All First statuses.WriteFault =
    WritesFrom seed left (AppendsFront old new) HasFirstCalls First
RunWrites seed left Nothing old new All First status = Nothing

-- WHAT A SERVICE WROTE, AND WHY IT ENDED, by its status: the transcript of a legal history, or a front of it where a
-- write failed; its calls are those of the lines that were served, which were made so in the core that has it.
pub record ServesFrom {S : Type 0} (left after : Option (List ℕ)) (reads read writes wrote : ℕ)
    (old new : Option (List ℕ)) (Made : Shown S → Script → Type 0) (status : Status) : Type 0 where
  pub core : Shown S
  pub legal : IsLegal core.history
  pub written : WrittenBy status old new (text core.history)
  pub served : Serves left after (λ script. IsInOrder core.history script × Made core script)
  pub ends : EndsSo left after reads read writes wrote (IsInOrder core.history) status
