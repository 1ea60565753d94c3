-- What a service does with the lines of a source, each of which is answered before the next one is read.
use Rattle.std.specs.Prelude.{◌≡◌, ◌<◌, ◌+◌, ◌-◌, ◌^◌, ◌++◌, ◌⊎◌, ℕ, List, [], ◌∷◌, Bool, Option, false, None, length, map, min, unwrap_or}
use Rattle.std.specs.Io.KnownBytes.{Appends, Consumes, IsAtEnd}
use Rattle.std.specs.Str.Lines.{lines}
use Rattle.rv_io.specs.Causes.{Rose}
use Rattle.rv_io.specs.Lines.{HasNoFeed, IsLine}
use Rattle.rv_io.specs.Pieces.{AppendsFront, TakesAll}
use Rattle.rv_io.specs.declared.all.ReadFault.{ReadFault}
use Rattle.rv_io.specs.declared.all.ReadFault.TheVariants as reading
use Rattle.rv_reader.specs.Shown.{Shown as StoreShown}
use Rattle.rv_words.specs.declared.choices.Asked.{Asked}
use Rattle.rv_words.specs.Words.{Ask}
use Rattle.rv_script.specs.declared.scripts.Script.{Script}
use Rattle.rv_script.specs.declared.scripts.ScriptFault.{ScriptFault}
use Rattle.rv_script.specs.declared.scripts.ScriptFault.TheVariants as faults
use Rattle.rv_script.specs.Lines.{LineSays}
use Rattle.rv_script.specs.Script as saying
use Rattle.rv_script.specs.Script.{Saying, without_byte_order_mark}
use Rattle.rv_core.specs.declared.settings.Settings.{Settings}
use Rattle.rv_model.specs.declared.entry.Entry.{Entry}
use Rattle.rv_model.specs.Transcript.{text}
use Rattle.rv_run.specs.declared.status.Over.{Over}
use Rattle.rv_run.specs.declared.status.Over.TheVariants as over
use Rattle.rv_run.specs.declared.status.Status.{Status}
use Rattle.rv_run.specs.declared.status.Status.TheVariants as statuses
use Rattle.rv_run.specs.declared.service.Stop.{Stop}
use Rattle.rv_run.specs.declared.service.Stop.TheVariants as stops
use Rattle.rv_run.specs.Performing.{script_status}
use Rattle.rv_run.specs.Ruling.{AnswersAll, Between, ruled_by}
use Rattle.rv_run.specs.Script.{Call, HasFirst, IsScriptFault, Write, calls_in}

-- ---- words of a service

-- THE WORDS ARE FOR A SERVICE: they ask neither threads nor a generated script.
pub record AskService (words : List (List ℕ)) : Type 0 where
  pub asked : Asked
  pub ask : Ask words asked
  pub plain : asked.threads ≡ false
  pub read : asked.seed ≡ None

-- ---- what was served

-- whole lines: the last one has its end too
abbrev pub AreWholeLines : List ℕ → Type 0
AreWholeLines bytes = (bytes ≡ []) ⊎ ((front : List ℕ) × (bytes ≡ front ++ 10 ∷ []))

-- THE LINES THAT WERE SERVED: these bytes, the first that were taken, write a script of which this holds. What was
-- taken behind them was not served. Only the last line of all may lack its end.
pub record Serves (left after : Option (List ℕ)) (P : Script → Type 0) : Type 0 where
  pub bytes : List ℕ
  pub behind : List ℕ
  pub taken : Consumes left after (bytes ++ behind)
  pub whole : AreWholeLines bytes ⊎ ((behind ≡ []) × IsAtEnd after)
  pub script : Write bytes P

-- the same of all bytes to the end
pub record ServesAll (left after : Option (List ℕ)) (P : Script → Type 0) : Type 0 where
  pub bytes : List ℕ
  pub taken : TakesAll left after bytes
  pub script : Write bytes P

-- ---- why a service ends

-- THE LINES BEFORE were served, all of them, and for this reason not what was taken behind them.
pub record ServesBefore (left after : Option (List ℕ)) (P : Script → Type 0) (Why : List ℕ → List ℕ → Type 0)
    : Type 0 where
  pub bytes : List ℕ
  pub behind : List ℕ
  pub taken : Consumes left after (bytes ++ behind)
  pub whole : AreWholeLines bytes
  pub script : Write bytes P
  pub why : Why bytes behind

-- the next line, with which these bytes begin; where it lacks its end they are the last of all
pub record HasLine (after : Option (List ℕ)) (behind : List ℕ) (P : List ℕ → Type 0) : Type 0 where
  pub line : List ℕ
  pub rest : List ℕ
  pub ended : Bool
  pub is : behind ≡ line ++ rest
  pub one : IsLine line ended
  pub last : ended ≡ false → (rest ≡ []) × IsAtEnd after
  pub holds : P line

-- the lines with the next one have this first fault
abbrev pub HasFaultyLine : Option (List ℕ) → Option (List ℕ) → (Script → Type 0) → ScriptFault → Type 0
HasFaultyLine left after P fault =
    ServesBefore left after P (λ bytes behind. HasLine after behind (λ line. HasFirst (bytes ++ line) fault))

-- they are more bytes with it than a script may have
abbrev pub HasTooManyBytes : Option (List ℕ) → Option (List ℕ) → (Script → Type 0) → Type 0
HasTooManyBytes left after P =
    ServesBefore left after P (λ bytes behind. HasLine after behind (λ line. 16777216 < length (bytes ++ line)))

-- the next line has this number, and more bytes came of it than a line may have, with a byte order mark and a CR, and
-- no end
pub record IsLongLine (number : ℕ) (bytes behind : List ℕ) : Type 0 where
  pub before : length (lines (without_byte_order_mark bytes)) + 1 ≡ number
  pub free : HasNoFeed behind
  pub long : 4100 < length behind

-- STATUS 3: the next line passes a limit of scripts.
abbrev pub PassesLine : Option (List ℕ) → Option (List ℕ) → (Script → Type 0) → Over → Type 0
PassesLine left after P over.Bytes = HasTooManyBytes left after P
PassesLine left after P over.Lines = (most : ℕ) × HasFaultyLine left after P (faults.TooMany most)
PassesLine left after P (over.Line n) =
    HasFaultyLine left after P (faults.TooLong n) ⊎ ServesBefore left after P (IsLongLine n)

-- Why a service ends, by the status that tells it: of a source and a sink, how often each failed before and now, and
-- what holds of the lines that were served.
abbrev pub EndsSo : Option (List ℕ) → Option (List ℕ) → ℕ → ℕ → ℕ → ℕ → (Script → Type 0) → Status
    → Type 0
EndsSo left after reads read writes wrote P statuses.Done = IsAtEnd after
EndsSo left after reads read writes wrote P (statuses.Script fault) =
    IsScriptFault fault × HasFaultyLine left after P fault
EndsSo left after reads read writes wrote P (statuses.Limit which) = PassesLine left after P which
EndsSo left after reads read writes wrote P statuses.Memory = Unit {0}
EndsSo left after reads read writes wrote P statuses.ReadFault = Rose reads read
EndsSo left after reads read writes wrote P statuses.WriteFault = Rose writes wrote
EndsSo left after reads read writes wrote P statuses.Usage = ⊥

-- what was written, by the status: all, or after a write that failed a front
abbrev pub WrittenBy : Status → Option (List ℕ) → Option (List ℕ) → List ℕ → Type 0
WrittenBy statuses.WriteFault old new bytes = AppendsFront old new bytes
WrittenBy status old new bytes = Appends old new bytes

-- what holds where all was done
abbrev pub IfDone : Status → Type 0 → Type 0
IfDone statuses.Done P = P
IfDone status P = Unit {0}

-- ---- one line

-- the calls of what a line says, in this phase; the phase behind it, and the number of the judge that rules there
abbrev pub calls_with : Saying → ℕ → List Call
calls_with saying.Nothing phase = []
calls_with (saying.Call line) phase = calls_in phase (line ∷ [])
calls_with (saying.Next judge) phase = []

abbrev pub phase_with : Saying → ℕ → ℕ
phase_with saying.Nothing phase = phase
phase_with (saying.Call line) phase = phase
phase_with (saying.Next judge) phase = phase + 1

abbrev pub ruling_with : Saying → ℕ → ℕ
ruling_with saying.Nothing ruling = ruling
ruling_with (saying.Call line) ruling = ruling
ruling_with (saying.Next judge) ruling = unwrap_or judge ruling

-- WHAT A LINE SAYS WAS DONE, under the judge that rules.
pub record Makes {S : Type 0} (shows : S → StoreShown) (settings : Settings) (said : Saying) (ruling rules : ℕ)
    (old new : Between S) : Type 0 where
  pub phase : new.core.phase ≡ phase_with said old.core.phase
  pub next : rules ≡ ruling_with said ruling
  pub answers : AnswersAll shows settings (map (ruled_by ruling) (calls_with said old.core.phase)) old new

-- THE LINE WAS SERVED, and so much was written of what the history gained.
pub record ServesLine {S : Type 0} (shows : S → StoreShown) (settings : Settings) (number : ℕ) (bytes : List ℕ)
    (ruling rules : ℕ) (old new : Between S) (Written : List ℕ → Type 0) : Type 0 where
  pub said : Saying
  pub says : LineSays number bytes said
  pub makes : Makes shows settings said ruling rules old new
  pub gained : List Entry
  pub grown : new.core.history ≡ old.core.history ++ gained
  pub wrote : Written (text gained)

-- ---- statuses

-- how a service ends at the line of this number, which was not read
abbrev pub line_status : ReadFault → ℕ → Status
line_status reading.Failed number = statuses.ReadFault
line_status reading.TooBig number = statuses.Limit (over.Line number)
line_status reading.NoMemory number = statuses.Memory

-- a line's fault behind so many bytes, as one of them all; an offset stays at the greatest u32
abbrev pub placed : ScriptFault → ℕ → ScriptFault
placed (faults.NotText offset) before = faults.NotText (min (before + offset) (2 ^ 32 - 1))
placed fault before = fault

-- how a service ends at a line behind so many bytes
abbrev pub stop_status : Stop → ℕ → Status
stop_status (stops.Fault fault) before = script_status (placed fault before)
stop_status stops.Memory before = statuses.Memory
stop_status stops.Write before = statuses.WriteFault
