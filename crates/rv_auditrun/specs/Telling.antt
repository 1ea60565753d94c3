-- What the writing of a verdict comes to.
use Rattle.std.specs.Prelude.{◌≡◌, ℕ, List, Option, Result, Ok, Err}
use Rattle.std.specs.Io.KnownBytes.{Appends}
use Rattle.rv_io.specs.declared.traits.Failed.{Failed}
use Rattle.rv_io.specs.Causes.{Rose}
use Rattle.rv_io.specs.Pieces.{AppendsFront}
use Rattle.rv_audit.specs.declared.auditing.Audited.{Audited}
use Rattle.rv_audit.specs.Auditing.{Audits}
use Rattle.rv_auditrun.specs.declared.status.AuditStatus.{AuditStatus}
use Rattle.rv_auditrun.specs.declared.status.AuditStatus.TheVariants.{Usage, Memory, ReadFault, WriteFault}
use Rattle.rv_auditrun.specs.Verdicts.{status_of, verdict_line, IsVerdict}

-- nothing is said
abbrev pub IsSilent : AuditStatus → Type 0
IsSilent Usage = Unit {0}
IsSilent Memory = Unit {0}
IsSilent ReadFault = Unit {0}
IsSilent status = ⊥

-- an input was read
abbrev pub IsOfInput : AuditStatus → Type 0
IsOfInput Usage = ⊥
IsOfInput ReadFault = ⊥
IsOfInput status = Unit {0}

-- a line was due beside a status, and was written, or a fault came
abbrev pub told_status : AuditStatus → Result (Unit {0}) Failed → AuditStatus
told_status status (Ok u) = status
told_status status (Err fault) = WriteFault

-- how the writing of a line that is due beside a status ends
pub record Tells (line : List ℕ) (due : AuditStatus) (old new : Option (List ℕ)) (before now : ℕ)
    (status : AuditStatus) : Type 0 where
  pub verdict : IsVerdict status → (status ≡ due) × Appends old new line
  pub front : status ≡ WriteFault → AppendsFront old new line
  pub write : status ≡ WriteFault → Rose before now
  pub told : ¬ (IsSilent status)

-- an answer of an audit of the input, whose line was written
pub record SaysOf (input : List ℕ) (old new : Option (List ℕ)) (status : AuditStatus) : Type 0 where
  pub answer : Audited
  pub audits : Audits input answer
  pub status_is : status ≡ status_of answer
  pub written : Appends old new (verdict_line answer)

-- the same, of whose line a front was written
pub record SaysFrontOf (input : List ℕ) (old new : Option (List ℕ)) : Type 0 where
  pub answer : Audited
  pub audits : Audits input answer
  pub written : AppendsFront old new (verdict_line answer)
