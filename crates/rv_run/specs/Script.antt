-- What a run makes of a script.
use Rattle.std.specs.Prelude.{◌≡◌, ℕ, ◌+◌, ◌≤◌, ◌==◌, List, [], ◌∷◌, ◌++◌, Option, Some, None, Err, length, map, filter, take, IfSome, IsOkAnd}
use Rattle.std.specs.List.{slice_index_or}
use Rattle.std.specs.Io.KnownBytes.{IsAtEnd}
use Rattle.rv_io.specs.Causes.{Rose}
use Rattle.rv_io.specs.Pieces.{TakesTooMany, TakesUpTo}
use Rattle.rv_script.specs.declared.scripts.Line.{Line}
use Rattle.rv_script.specs.declared.scripts.Phase.{Phase}
use Rattle.rv_script.specs.declared.scripts.Script.{Script}
use Rattle.rv_script.specs.declared.scripts.ScriptFault.{ScriptFault}
use Rattle.rv_script.specs.declared.scripts.ScriptFault.TheVariants as faults
use Rattle.rv_script.specs.Script.{script_of}
use Rattle.rv_gen.specs.Summary.{summary, summary_text}
use Rattle.rv_gen.specs.Workload.{workload_of}
use Rattle.rv_run.specs.declared.status.Over.{Over}
use Rattle.rv_run.specs.declared.status.Over.TheVariants as over
use Rattle.rv_model.specs.declared.entry.Entry.{Entry}
use Rattle.rv_believed.specs.History.{IsLegal}
use Rattle.rv_model.specs.Transcript.{text}

-- a call: its session, its phase and its text
pub record Call : Type 0 where
  pub session : ℕ
  pub phase : ℕ
  pub text : List ℕ

-- a call by its parts
abbrev pub call : ℕ → ℕ → List ℕ → Call
call session phase text = record { session = session; phase = phase; text = text }

-- the calls of a history's entries, in order
abbrev pub calls_made : List Entry → List Call
calls_made entries = map (λ (e : Entry). call e.session e.phase e.text) entries

-- the calls of a phase, in order
abbrev pub calls_in : ℕ → List Line → List Call
calls_in phase lines = map (λ (l : Line). call l.session phase l.text) lines

-- the calls of phases numbered from one on, in order
abbrev pub calls_from : ℕ → List Phase → List Call
calls_from phase [] = []
calls_from phase (p ∷ ps) = calls_in phase p.lines ++ calls_from (phase + 1) ps

-- the calls of a script, whose first phase is 1
abbrev pub calls_asked : Script → List Call
calls_asked script = calls_from 1 script.phases

-- a session's calls among calls, in order
abbrev pub of_session : ℕ → List Call → List Call
of_session session all = filter (λ (c : Call). c.session == session) all

-- EACH SESSION'S CALLS in the history are those that the script asks of it, each once, in their
-- order and phase. Each entry is some session's, so there is no other.
abbrev pub HasAllCalls : List Entry → Script → Type 0
HasAllCalls history script = (session : ℕ) →
    of_session session (calls_made history) ≡ of_session session (calls_asked script)

-- the calls of so many phases, and of so many lines of the next one
abbrev pub first_calls : ℕ → ℕ → List Phase → List Call
first_calls count lines phases = calls_from 1 (take count phases)
    ++ calls_in (count + 1)
    (take lines (slice_index_or phases count (record { judge = None; lines = [] })).lines)

-- THE FIRST CALLS: of each session those of so many phases, and of its first lines of the next one.
pub record HasFirstCalls (history : List Entry) (script : Script) : Type 0 where
  pub phases : ℕ
  pub each : (session : ℕ) → (lines : ℕ) × (of_session session (calls_made history)
      ≡ of_session session (first_calls phases lines script.phases))

-- WITHOUT THREADS the history's calls are those of the script, in the script's order;
abbrev pub IsInOrder : List Entry → Script → Type 0
IsInOrder history script = calls_made history ≡ calls_asked script

-- or the first ones of these.
pub record IsFrontInOrder (history : List Entry) (script : Script) : Type 0 where
  pub rest : List Call
  pub whole : calls_asked script ≡ calls_made history ++ rest

-- The bytes, of which there are 16,777,216 at most, write a script of which this holds.
pub record Write (bytes : List ℕ) (P : Script → Type 0) : Type 0 where
  pub few : length bytes ≤ 16777216
  pub script : IsOkAnd (script_of bytes) P

-- a fact of the script that is run: a seed's workload, or else what the source told, where it tells
abbrev pub Runs : Option ℕ → Option (List ℕ) → (Script → Type 0) → Type 0
Runs (Some seed) left P = P (workload_of seed)
Runs None left P = IfSome left (λ bytes. Write bytes P)

-- what is written of a history: its transcript, or with a seed its summary
abbrev pub output : Option ℕ → List Entry → List ℕ
output None history = text history
output (Some seed) history = summary_text (summary history)

-- STATUSES 0, 4 AND 6: so much was written of the output of a legal history, which has such calls.
pub record Writes (seed : Option ℕ) (left : Option (List ℕ)) (Written : List ℕ → Type 0)
    (Has : List Entry → Script → Type 0) (history : List Entry) : Type 0 where
  pub legal : IsLegal history
  pub written : Written (output seed history)
  pub calls : Runs seed left (Has history)

-- The bytes, of which there are 16,777,216 at most, have this first fault.
pub record HasFirst (bytes : List ℕ) (fault : ScriptFault) : Type 0 where
  pub few : length bytes ≤ 16777216
  pub first : script_of bytes ≡ Err fault

-- Their first fault is that there are too many lines.
pub record HasTooMany (bytes : List ℕ) : Type 0 where
  pub lines : ℕ
  pub first : HasFirst bytes (faults.TooMany lines)

-- The source was read to its end, and this holds of the bytes that it told.
pub record ReadsAll (left after : Option (List ℕ)) (P : List ℕ → Type 0) : Type 0 where
  pub end : IsAtEnd after
  pub told : IfSome left P

-- a line that names no session, or a byte that is not UTF-8
abbrev pub IsScriptFault : ScriptFault → Type 0
IsScriptFault (faults.NoSession line) = Unit {0}
IsScriptFault (faults.NotText offset) = Unit {0}
IsScriptFault fault = ⊥

-- STATUS 2: such a fault is the first of the source's bytes.
pub record HasFault (left after : Option (List ℕ)) (fault : ScriptFault) : Type 0 where
  pub kind : IsScriptFault fault
  pub whole : ReadsAll left after (λ bytes. HasFirst bytes fault)

-- STATUS 3: one byte more than 16,777,216 was taken, or the first fault is another limit passed.
abbrev pub PassesLimit : Option (List ℕ) → Option (List ℕ) → Over → Type 0
PassesLimit left after over.Bytes = TakesTooMany left after 16777216
PassesLimit left after over.Lines = ReadsAll left after HasTooMany
PassesLimit left after (over.Line n) = ReadsAll left after (λ bs. HasFirst bs (faults.TooLong n))

-- STATUS 5: a fault was counted, before more than 16,777,216 bytes were taken.
pub record FailsToRead (left after : Option (List ℕ)) (before now : ℕ) : Type 0 where
  pub rose : Rose before now
  pub taken : TakesUpTo left after 16777216
