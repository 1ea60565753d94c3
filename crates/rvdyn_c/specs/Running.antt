-- How a run over memory ends, and what of it stands in the caller's buffer.
use Rattle.std.specs.Prelude.{◌≡◌, ◌<◌, ◌⊎◌, ◌++◌, ℕ, List, [], drop, length, take}
use Rattle.rv_script.specs.declared.scripts.Script.{Script}
use Rattle.rv_script.specs.declared.scripts.ScriptFault.TheVariants as faults
use Rattle.rv_model.specs.declared.entry.Entry.{Entry}
use Rattle.rv_model.specs.Transcript.{text}
use Rattle.rv_believed.specs.History.{IsLegal}
use Rattle.rv_run.specs.declared.status.Over.{Over}
use Rattle.rv_run.specs.declared.status.Over.TheVariants as over
use Rattle.rv_run.specs.declared.status.Status.{Status}
use Rattle.rv_run.specs.declared.status.Status.TheVariants as statuses
use Rattle.rv_run.specs.Script.{HasFirst, HasTooMany, IsFrontInOrder, IsInOrder, IsScriptFault, Write}
use Rattle.rv_run.specs.Words.{limit_words, script_words, status_code}

-- The transcript of a legal history, which has such calls of the script, is such.
pub record Transcribes (script : List ℕ) (Has : List Entry → Script → Type 0) (Is : List ℕ → Type 0) : Type 0 where
  pub history : List Entry
  pub legal : IsLegal history
  pub calls : Write script (Has history)
  pub is : Is (text history)

-- Some bytes are the front of others.
pub record AreFront (bytes whole : List ℕ) : Type 0 where
  pub rest : List ℕ
  pub is : whole ≡ bytes ++ rest

-- the limit that a script passes: it has too many bytes, or its first fault is that there are too many lines, or a line
-- too long
abbrev pub Passes : List ℕ → Over → Type 0
Passes script over.Bytes = 16777216 < length script
Passes script over.Lines = HasTooMany script
Passes script (over.Line line) = HasFirst script (faults.TooLong line)

-- HOW A RUN ENDS, by its status, and what it tells: the transcript of all calls in the script's order; where a call
-- found no memory that of the calls before it, or nothing; where the transcript found none its front; of a script that
-- has a fault or passes a limit the words for that. It ends in no other way.
abbrev pub Ends : Status → List ℕ → List ℕ → Type 0
Ends statuses.Done script told = Transcribes script IsInOrder (λ transcript. told ≡ transcript)
Ends statuses.Memory script told = (told ≡ []) ⊎ Transcribes script IsFrontInOrder (λ transcript. told ≡ transcript)
Ends statuses.WriteFault script told = Transcribes script IsFrontInOrder (AreFront told)
Ends (statuses.Script fault) script told = IsScriptFault fault × HasFirst script fault × (told ≡ script_words fault)
Ends (statuses.Limit which) script told = Passes script which × (told ≡ limit_words which)
Ends status script told = ⊥

-- what is told of a run that wrote this
abbrev pub told_of : Status → List ℕ → List ℕ
told_of (statuses.Script fault) written = script_words fault
told_of (statuses.Limit which) written = limit_words which
told_of status written = written

-- As much of what is told as fits is in the front of the buffer, and what is behind it stays.
abbrev pub Holds : List ℕ → List ℕ → List ℕ → Type 0
Holds old new told = new ≡ take (length old) told ++ drop (length told) old

-- THE CALL: the script was run, the answer is the code of the status with which that ended, the buffer holds what is
-- told of it, and the count is the length of that.
pub record Runs (script old new : List ℕ) (count answer : ℕ) : Type 0 where
  pub status : Status
  pub told : List ℕ
  pub ends : Ends status script told
  pub code : answer ≡ status_code status
  pub holds : Holds old new told
  pub size : count ≡ length told
