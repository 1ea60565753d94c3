-- A CHAIN OF EVENTS: some order of them leads from one core to another.
use Rattle.std.specs.Prelude.{◌≡◌, ◌⊎◌, ℕ, zero, suc, List, Option, Result}
use Rattle.rv_value.specs.declared.duplicate.NoMemory.{NoMemory}
use Rattle.rv_lang.specs.declared.reply.Reply.{Reply}
use Rattle.rv_jscan.specs.declared.jscan.Given.{Given}
use Rattle.rv_jscan.specs.declared.jscan.Taken.{Taken}
use Rattle.rv_jscan.specs.Pieces.{Pieced}

-- so many events, one after another
abbrev pub Steps : {A : Type 0} → (A → A → Type 0) → ℕ → A → A → Type 0
Steps one zero old new = new ≡ old
Steps {A} one (suc n) old new = (mid : A) × Steps one n old mid × one mid new

-- some number of events, one after another
abbrev pub Leads : {A : Type 0} → (A → A → Type 0) → A → A → Type 0
Leads one old new = ∥ ((n : ℕ) × Steps one n old new) ∥₁

-- What a turn does with a core, by what each of its methods comes to: a call of a session, one turn's part of a call, a
-- take of a piece, a give of a piece, or a sweep.
abbrev pub Event : {C : Type 0} → (C → ℕ → List ℕ → Result Reply NoMemory → C → Type 0)
    → (C → ℕ → List ℕ → Result (Option Reply) NoMemory → C → Type 0) → (C → ℕ → Result Taken NoMemory → C → Type 0)
    → (C → Pieced → Result Given NoMemory → C → Type 0) → (C → C → Type 0) → C → C → Type 0
Event calls parts takes gives sweeps old new =
    ((session : ℕ) × (text : List ℕ) × (result : Result Reply NoMemory) × calls old session text result new)
    ⊎ ((session : ℕ) × (text : List ℕ) × (result : Result (Option Reply) NoMemory) × parts old session text result new)
    ⊎ ((after : ℕ) × (result : Result Taken NoMemory) × takes old after result new)
    ⊎ ((piece : Pieced) × (result : Result Given NoMemory) × gives old piece result new)
    ⊎ sweeps old new
