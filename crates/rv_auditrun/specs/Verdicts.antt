-- The exit codes of an audit, the line that it says, and when.
use Rattle.std.specs.Prelude.{◌≡◌, ℕ, List, [], ◌∷◌, ◌++◌, ◌⊎◌, codes, decimal, Option, IfSome}
use Rattle.std.specs.Io.KnownBytes.{Appends, IsAtEnd}
use Rattle.rv_io.specs.Pieces.{AppendsFront, TakesTooMany}
use Rattle.rv_script.specs.declared.scripts.ScriptFault.{ScriptFault}
use Rattle.rv_script.specs.declared.scripts.ScriptFault.TheVariants as faults
use Rattle.rv_run.specs.declared.status.Over.TheVariants as over
use Rattle.rv_run.specs.Words.{limit_words, script_words}
use Rattle.rv_audit.specs.declared.auditing.Audited.{Audited}
use Rattle.rv_audit.specs.declared.auditing.Audited.TheVariants as audited
use Rattle.rv_audit.specs.Auditing.{Audits}
use Rattle.rv_auditrun.specs.declared.status.AuditStatus.{AuditStatus}
use Rattle.rv_auditrun.specs.declared.status.AuditStatus.TheVariants.{Legal, Usage, Script, Limit, Memory, ReadFault, WriteFault, BadText, BadEntry, Missing}

abbrev pub audit_code : AuditStatus → ℕ
audit_code Legal = 0
audit_code Usage = 1
audit_code Script = 2
audit_code Limit = 3
audit_code Memory = 4
audit_code ReadFault = 5
audit_code WriteFault = 6
audit_code BadText = 7
audit_code BadEntry = 8
audit_code Missing = 9

-- An input was judged.
abbrev pub IsVerdict : AuditStatus → Type 0
IsVerdict Usage = ⊥
IsVerdict Memory = ⊥
IsVerdict ReadFault = ⊥
IsVerdict WriteFault = ⊥
IsVerdict status = Unit {0}

-- of a script's fault; no script has the fault that memory was refused
abbrev pub fault_status : ScriptFault → AuditStatus
fault_status (faults.NoSession line) = Script
fault_status (faults.NotText offset) = Script
fault_status (faults.TooLong line) = Limit
fault_status (faults.TooMany lines) = Limit
fault_status faults.NoMemory = Memory

abbrev pub status_of : Audited → AuditStatus
status_of audited.NoMark = BadText
status_of audited.Over = Limit
status_of (audited.Script fault) = fault_status fault
status_of (audited.BadText line) = BadText
status_of (audited.BadEntry entry) = BadEntry
status_of (audited.Missing session phase) = Missing
status_of (audited.Legal entries) = Legal

-- the words of an answer; those of a script's faults are what the program that runs scripts says
abbrev pub verdict_words : Audited → List ℕ
verdict_words audited.NoMark = codes "no mark"
verdict_words audited.Over = limit_words over.Bytes
verdict_words (audited.Script fault) = script_words fault
verdict_words (audited.BadText line) = codes "text line " ++ decimal line
verdict_words (audited.BadEntry entry) = codes "bad entry " ++ decimal entry
verdict_words (audited.Missing session phase) =
    (codes "missing session " ++ decimal session) ++ (codes " phase " ++ decimal phase)
verdict_words (audited.Legal entries) = codes "legal " ++ decimal entries

-- with a line feed
abbrev pub verdict_line : Audited → List ℕ
verdict_line answer = verdict_words answer ++ 10 ∷ []

-- The source was read to its end, and this is what an audit of all that it told answers: a line and a status.
pub record IsJudged (left after : Option (List ℕ)) (line : List ℕ) (status : AuditStatus) : Type 0 where
  pub end : IsAtEnd after
  pub answer : Audited
  pub audits : IfSome left (λ input. Audits input answer)
  pub line_is : line ≡ verdict_line answer
  pub status_is : status ≡ status_of answer

-- More was taken than an input may have.
pub record IsTooLong (left after : Option (List ℕ)) (line : List ℕ) (status : AuditStatus) : Type 0 where
  pub many : TakesTooMany left after 268435456
  pub line_is : line ≡ codes "limit: input over 268435456 bytes\n"
  pub status_is : status ≡ Limit

-- the line and the status that are due
abbrev pub AreDue : Option (List ℕ) → Option (List ℕ) → List ℕ → AuditStatus → Type 0
AreDue left after line status = IsJudged left after line status ⊎ IsTooLong left after line status

-- The line was appended that is due beside this status.
pub record Says (left after old new : Option (List ℕ)) (status : AuditStatus) : Type 0 where
  pub line : List ℕ
  pub due : AreDue left after line status
  pub written : Appends old new line

-- Some bytes at the front of the line that is due were appended.
pub record SaysFront (left after old new : Option (List ℕ)) : Type 0 where
  pub line : List ℕ
  pub status : AuditStatus
  pub due : AreDue left after line status
  pub written : AppendsFront old new line
