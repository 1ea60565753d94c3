-- Histories.
use Rattle.std.specs.Prelude.{◌≡◌, ℕ, ◌≤◌, List, [], ◌∷◌, filter, map, ◌==◌, ◌&&◌}
use Rattle.rv_parse.specs.Reading.{statement_of}
use Rattle.rv_model.specs.declared.state.State.{State}
use Rattle.rv_model.specs.declared.entry.Entry.{Entry}
use Rattle.rv_model.specs.Database.{empty}
use Rattle.rv_model.specs.Step.{Allows, next}

-- the state after an entry
abbrev pub stepped : State → Entry → State
stepped s e = next s e.session (statement_of e.text) e.reply

abbrev pub after_from : State → List Entry → State
after_from s [] = s
after_from s (e ∷ es) = after_from (stepped s e) es

-- the state after a history
abbrev pub after : List Entry → State
after entries = after_from empty entries

pub record IsNext (s : State) (last_phase : ℕ) (e : Entry) : Type 0 where
  pub from : 1 ≤ e.session
  pub to : e.session ≤ 8
  pub phase : last_phase ≤ e.phase
  pub allowed : Allows s e.session (statement_of e.text) e.reply

-- From this state and phase on, the entries are legal.
abbrev pub IsLegalFrom : State → ℕ → List Entry → Type 0
IsLegalFrom s phase [] = Unit {0}
IsLegalFrom s phase (e ∷ es) = IsNext s phase e × IsLegalFrom (stepped s e) e.phase es

-- Sessions are 1 to 8, phases never fall, and each reply is allowed in the state that the entries before it leave.
abbrev pub IsLegal : List Entry → Type 0
IsLegal entries = IsLegalFrom empty 0 entries

-- the phase of the last entry
abbrev pub phase_after : ℕ → List Entry → ℕ
phase_after phase [] = phase
phase_after phase (e ∷ es) = phase_after e.phase es

-- the texts of a session in a phase, in order
abbrev pub calls : List Entry → ℕ → ℕ → List (List ℕ)
calls entries session phase = map (λ (e : Entry). e.text)
    (filter (λ (e : Entry). (e.session == session) && (e.phase == phase)) entries)
