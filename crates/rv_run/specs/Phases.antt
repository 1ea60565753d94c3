-- WHICH JUDGE RULES, WITH THREADS: the phases of a run, one after another, each a chain of events under its judge.
use Rattle.std.specs.Prelude.{◌≡◌, ◌+◌, ℕ, List, [], ◌∷◌, ◌++◌, Some, slice_get, slice_set, unwrap_or}
use Rattle.rv_judge.specs.declared.judging.Facts.{Facts}
use Rattle.rv_judge.specs.Verdicts.{Ruling}
use Rattle.rv_reader.specs.Shown.{Shown as StoreShown}
use Rattle.rv_script.specs.declared.scripts.Phase.{Phase}
use Rattle.rv_script.specs.declared.scripts.Script.{Script}
use Rattle.rv_core.specs.declared.settings.Settings.{Settings}
use Rattle.rv_core.specs.Core.{Shown}
use Rattle.rv_shared.specs.Leads.{Leads}
use Rattle.rv_lending.specs.Lending.{CoreEvent, point}
use Rattle.rv_run.specs.Ruling.{Between, Judging, between, fresh, in_phase, judging}

-- some order of events leads from one core to another, each under a judge that a box hides, by what it would rule and
-- where it stands
abbrev pub ChainUnder : {S J : Type 0} → (S → StoreShown) → (J → ℕ → Facts → Ruling) → (J → ℕ) → Settings
    → Shown S → J → Shown S → J → Type 0
ChainUnder shows would state settings old before new after =
    Leads (CoreEvent shows) (point old (would before) (state before) settings)
    (point new (would after) (state after) settings)

-- A PHASE UNDER ITS JUDGE: some order of events (sessions' calls and turns' parts of them, takes, gives, sweeps) leads
-- from the core at its begin to the one at its end, each under the judge of this number and these settings. No other
-- judge moves.
pub record LeadsUnder {S : Type 0} (shows : S → StoreShown) (settings : Settings) (number : ℕ)
    (old new : Between S) : Type 0 where
  pub judge : Judging
  pub seated : slice_get old.judges number ≡ Some judge
  pub stands : ℕ
  pub chain : Leads (CoreEvent shows) (point old.core judge.would judge.state settings)
      (point new.core judge.would stands settings)
  pub others : new.judges ≡ slice_set old.judges number (judging judge.would stands)

-- These phases, numbered from one on, one after another, each under the judge that it names; where it names none,
-- under the one before.
abbrev pub LeadsAll : {S : Type 0} → (S → StoreShown) → Settings → ℕ → ℕ → List Phase → Between S → Between S
    → Type 0
LeadsAll shows settings judge phase [] old new = new ≡ old
LeadsAll {S = S} shows settings judge phase (p ∷ ps) old new =
    (mid : Between S) × LeadsUnder shows settings (unwrap_or p.judge judge) (in_phase phase old) mid
    × LeadsAll shows settings (unwrap_or p.judge judge) (phase + 1) ps mid new

-- The first of these phases: all of them, or those up to one in which memory was wanting.
pub record LeadsFirst {S : Type 0} (shows : S → StoreShown) (settings : Settings) (first : ℕ) (all : List Phase)
    (old new : Between S) : Type 0 where
  pub begun : List Phase
  pub rest : List Phase
  pub whole : all ≡ begun ++ rest
  pub leads : LeadsAll shows settings first 1 begun old new

-- ALL PHASES OF A SCRIPT, from a fresh core over this store on, among these judges, of which the one of this number
-- rules first
pub record PhasesUnder {S : Type 0} (shows : S → StoreShown) (settings : Settings) (store : S)
    (judges : List Judging) (first : ℕ) (core : Shown S) (script : Script) : Type 0 where
  pub stand : List Judging
  pub leads : LeadsAll shows settings first 1 script.phases (between (fresh store) judges) (between core stand)

-- the same of its first phases
pub record FirstPhasesUnder {S : Type 0} (shows : S → StoreShown) (settings : Settings) (store : S)
    (judges : List Judging) (first : ℕ) (core : Shown S) (script : Script) : Type 0 where
  pub stand : List Judging
  pub leads : LeadsFirst shows settings first script.phases (between (fresh store) judges) (between core stand)
