-- The calls of a script in one list, and where the next one of a session stands.
use Rattle.std.specs.Prelude.{◌≡◌, ℕ, ◌+◌, ◌≤◌, List, [], ◌∷◌, ◌++◌, Bool, true, false, Option, Some, None, ◌==◌, nat_le, length, drop, map, slice_get}
use Rattle.std.specs.List.{filter}
use Rattle.rv_script.specs.declared.scripts.Line.{Line}
use Rattle.rv_script.specs.declared.scripts.Phase.{Phase}
use Rattle.rv_audit.specs.declared.calls.Call.{Call}

abbrev pub call_in : ℕ → Line → Call
call_in phase line = record { phase = phase; session = line.session; text = line.text }

-- the calls of a phase
abbrev pub calls_in : ℕ → List Line → List Call
calls_in phase lines = map (λ (line : Line). call_in phase line) lines

-- the calls of phases, of which the first has this number
abbrev pub calls_from : ℕ → List Phase → List Call
calls_from phase [] = []
calls_from phase (p ∷ ps) = calls_in phase p.lines ++ calls_from (phase + 1) ps

-- those of a session
abbrev pub calls_by : ℕ → List Call → List Call
calls_by session calls = filter (λ (c : Call). c.session == session) calls

abbrev pub is_by : ℕ → Option Call → Bool
is_by session None = false
is_by session (Some c) = c.session == session

-- a place from another one on: the session's next call stands there, or there is none and it is the end
pub record IsNextOf (calls : List Call) (from session at : ℕ) : Type 0 where
  pub within : at ≤ length calls
  pub same : calls_by session (drop at calls) ≡ calls_by session (drop from calls)
  pub here : (c : Call) → slice_get calls at ≡ Some c → c.session ≡ session

abbrev pub is_later : ℕ → Option Call → Bool
is_later phase None = true
is_later phase (Some c) = nat_le phase c.phase

-- in a place stands no call of an earlier phase
abbrev pub waits_at : List Call → ℕ → ℕ → Bool
waits_at calls phase at = is_later phase (slice_get calls at)
