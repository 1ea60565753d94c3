-- What an audit answers, in the order in which the answers are tried.
use Rattle.std.specs.Prelude.{◌≡◌, ℕ, ◌-◌, ◌<◌, ◌≤◌, List, Ok, Err, Option, Some, None, length, take}
use Rattle.rv_script.specs.declared.scripts.Script.{Script}
use Rattle.rv_script.specs.declared.scripts.ScriptFault.TheVariants as faults
use Rattle.rv_script.specs.Script.{script_of}
use Rattle.rv_model.specs.declared.entry.Entry.{Entry}
use Rattle.rv_model.specs.Transcript.{text}
use Rattle.rv_text.specs.Reading.{AreReadable, StopsAt}
use Rattle.rv_audit.specs.declared.auditing.Audited.{Audited}
use Rattle.rv_audit.specs.declared.auditing.Audited.TheVariants as audited
use Rattle.rv_audit.specs.Following.{IsFirstMissing, IsLegalTo, IsWhole}
use Rattle.rv_audit.specs.Marks.{parted, Parted}

-- entry n, from 1, is the first up to which the entries are no legal history that follows the script
pub record GoesWrongAt (script : Script) (entries : List Entry) (n : ℕ) : Type 0 where
  pub from : 1 ≤ n
  pub to : n ≤ length entries
  pub before : IsLegalTo script (take (n - 1) entries)
  pub with_it : ¬ (IsLegalTo script (take n entries))

-- the entries are legal and follow the script, and this is the first call without an entry
pub record LacksFirst (script : Script) (entries : List Entry) (session phase : ℕ) : Type 0 where
  pub legal : IsLegalTo script entries
  pub first : IsFirstMissing script.phases legal.history session phase

-- what is said of a script and the entries of a transcript
abbrev pub SaysOfEntries : Script → List Entry → Audited → Type 0
SaysOfEntries script entries (audited.BadEntry n) = GoesWrongAt script entries n
SaysOfEntries script entries (audited.Missing session phase) = LacksFirst script entries session phase
SaysOfEntries script entries (audited.Legal n) = IsWhole script entries × (n ≡ length entries)
SaysOfEntries script entries other = ⊥

-- a transcript of these entries
pub record Writes (transcript : List ℕ) (entries : List Entry) : Type 0 where
  pub readable : AreReadable entries
  pub is : text entries ≡ transcript

-- the transcript has entries, of which this is said
pub record ReadsSo (script : Script) (transcript : List ℕ) (answer : Audited) : Type 0 where
  pub entries : List Entry
  pub written : Writes transcript entries
  pub said : SaysOfEntries script entries answer

-- what is said of a script and a transcript
abbrev pub SaysOfTranscript : Script → List ℕ → Audited → Type 0
SaysOfTranscript script transcript (audited.BadText line) = StopsAt line transcript
SaysOfTranscript script transcript answer = ReadsSo script transcript answer

pub record HasScript (bytes : List ℕ) : Type 0 where
  pub few : length bytes ≤ 16777216
  pub script : Script
  pub is : script_of bytes ≡ Ok script

pub record SaysBehindScript (bytes transcript : List ℕ) (answer : Audited) : Type 0 where
  pub has : HasScript bytes
  pub said : SaysOfTranscript has.script transcript answer

-- what is said of the two parts of an input
abbrev pub SaysOfParts : List ℕ → List ℕ → Audited → Type 0
SaysOfParts bytes transcript audited.NoMark = ⊥
SaysOfParts bytes transcript audited.Over = 16777216 < length bytes
SaysOfParts bytes transcript (audited.Script fault) = (length bytes ≤ 16777216) × (script_of bytes ≡ Err fault)
SaysOfParts bytes transcript answer = SaysBehindScript bytes transcript answer

-- the whole table: each answer fixes what the later ones need, so of each input one answer alone can be given
abbrev pub Says : Option Parted → Audited → Type 0
Says None audited.NoMark = Unit {0}
Says None answer = ⊥
Says (Some p) answer = SaysOfParts p.script p.transcript answer

abbrev pub Audits : List ℕ → Audited → Type 0
Audits input answer = Says (parted input) answer

-- LAW: of an input no two answers are said
abbrev pub SaysOnce : Type 0
SaysOnce = (input : List ℕ) (a b : Audited) → Audits input a → Audits input b → a ≡ b

-- that memory was refused is no fault of a script
abbrev pub IsAnswer : Audited → Type 0
IsAnswer (audited.Script fault) = ¬ (fault ≡ faults.NoMemory)
IsAnswer answer = Unit {0}
