-- What a run writes, audited by the program.
use Rattle.std.specs.Prelude.{◌≡◌, ℕ, ◌≤◌, List, ◌++◌, Option, Some, codes, length}
use Rattle.rv_model.specs.declared.entry.Entry.{Entry}
use Rattle.rv_audit.specs.Runs.{AreWholeLines, Wrote}
use Rattle.rv_auditrun.specs.declared.status.AuditStatus.{AuditStatus}
use Rattle.rv_auditrun.specs.declared.status.AuditStatus.TheVariants.{Legal}
use Rattle.rv_auditrun.specs.Verdicts.{AreDue}

-- a script, a mark and a transcript
abbrev pub marked : List ℕ → List ℕ → List ℕ
marked script transcript = script ++ (codes "====\n" ++ transcript)

-- of a script of whole lines and a transcript, in an input that is not too long, the verdict is that it is legal
abbrev pub IsJudgedLegal : List ℕ → List ℕ → Type 0
IsJudgedLegal script transcript =
    AreWholeLines script → length (marked script transcript) ≤ 268435456
    → (after : Option (List ℕ)) (line : List ℕ) (status : AuditStatus)
    → AreDue (Some (marked script transcript)) after line status → status ≡ Legal

-- LAW: what a run wrote with status 0 is judged legal.
abbrev pub RunIsJudgedLegal : List Entry → Type 0
RunIsJudgedLegal history =
    (script transcript : List ℕ) → Wrote script transcript history → IsJudgedLegal script transcript
