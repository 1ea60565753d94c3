-- Of what a run wrote the verdict is that it is legal.
use Rattle.std.proofs.Common.{◌≡◌, ℕ, ◌+◌, ◌≤◌, List, Option, Some, None, inl, inr, refl, ap, ◌∙◌, length, length-append, arith}
use Rattle.std.specs.Io.KnownBytes.{Consumes}
use Rattle.rv_audit.specs.declared.auditing.Audited.TheVariants as audited
use Rattle.rv_audit.specs.Auditing.{SaysOnce}
use Rattle.rv_model.specs.declared.entry.Entry.{Entry}
use Rattle.rv_audit.specs.Runs.{IsOfRun, RunIsLegal}
use Rattle.rv_auditrun.specs.Runs.{marked, RunIsJudgedLegal}
use Rattle.rv_auditrun.specs.Verdicts.{status_of}

not_many : (input : List ℕ) (after : Option (List ℕ)) (bytes : List ℕ) → length input ≤ 268435456 → Consumes (Some input) after bytes → length bytes ≡ 268435456 + 1 → ⊥
not_many input None bytes few taken many = absurd taken
not_many input (Some rest) bytes few taken many =
    let all = ap (λ (bs : List ℕ). length bs) taken in
    let parts = length-append bytes rest in
    omega (arith, few, many, all, parts)

pub judged_legal : SaysOnce → (history : List Entry) → RunIsLegal history → RunIsJudgedLegal history
judged_legal once history legal script transcript wrote lines few after line status (inl judged) =
    let input = marked script transcript in
    let run : IsOfRun history input = record { script = script; lines = lines; transcript = transcript; wrote = wrote; is = refl } in
    judged.status_is ∙ ap status_of (once input judged.answer (audited.Legal (length history)) judged.audits (legal input run))
judged_legal once history legal script transcript wrote lines few after line status (inr long) =
    absurd (not_many (marked script transcript) after long.many.bytes few long.many.taken long.many.many)
