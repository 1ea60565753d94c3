-- From what was written to how an audit ends.
use Rattle.std.proofs.Common.{◌≡◌, ◌↔◌, ℕ, List, [], ◌++◌, Option, Some, None, Result, Ok, Err, IfSome, inl, inr, refl, ap, sym, subst, ◌∙◌, append-nil, codes}
use Rattle.rv_io.specs.declared.traits.Failed.{Failed}
use Rattle.rv_io.specs.Pieces.{Goes, TakesAll, TakesTooMany}
use Rattle.rv_script.specs.declared.scripts.ScriptFault.TheVariants as faults
use Rattle.rv_audit.specs.declared.auditing.Audited.{Audited}
use Rattle.rv_audit.specs.declared.auditing.Audited.TheVariants as audited
use Rattle.rv_audit.specs.Auditing.{Audits, IsAnswer}
use Rattle.rv_auditrun.specs.declared.status.AuditStatus.{AuditStatus}
use Rattle.rv_auditrun.specs.declared.status.AuditStatus.TheVariants as statuses
use Rattle.rv_auditrun.specs.Telling.{told_status, IsOfInput, IsSilent, SaysFrontOf, SaysOf, Tells}
use Rattle.rv_auditrun.specs.Verdicts.{status_of, verdict_line, IsJudged, IsVerdict, Says, SaysFront}

-- a verdict is no silence
heard : (status : AuditStatus) → IsVerdict status → ¬ (IsSilent status)
heard statuses.Legal v s = s
heard statuses.Usage v s = v
heard statuses.Script v s = s
heard statuses.Limit v s = s
heard statuses.Memory v s = v
heard statuses.ReadFault v s = v
heard statuses.WriteFault v s = s
heard statuses.BadText v s = s
heard statuses.BadEntry v s = s
heard statuses.Missing v s = s

pub tells : (line : List ℕ) (due : AuditStatus) (old new : Option (List ℕ)) (before now : ℕ) (written : Result (Unit {0}) Failed) → IsVerdict due → Goes (Ok tt) old new before now written line → Tells line due old new before now (told_status due written)
tells line due old new before now (Ok u) v g = record {
  verdict = λ is. (refl, g.on.ok);
  front = λ e. absurd (subst IsVerdict e v);
  write = λ e. absurd (subst IsVerdict e v);
  told = heard due v;
}
tells line due old new before now (Err fault) v g = record {
  verdict = λ is. absurd is;
  front = λ e. g.on.err;
  write = λ e. g.on.cause;
  told = λ s. s;
}

pub tells_by : (line : List ℕ) (due stated status : AuditStatus) (old new : Option (List ℕ)) (before now : ℕ) (written : Result (Unit {0}) Failed) → status ≡ told_status stated written → stated ≡ due → IsVerdict due → Goes (Ok tt) old new before now written line → Tells line due old new before now status
tells_by line due stated status old new before now written is same v g = subst (Tells line due old new before now) (sym (is ∙ ap (λ s. told_status s written) same)) (tells line due old new before now written v g)

of_input : (status : AuditStatus) → ¬ (IsSilent status) → IsOfInput status
of_input statuses.Legal n = tt
of_input statuses.Usage n = absurd (n tt)
of_input statuses.Script n = tt
of_input statuses.Limit n = tt
of_input statuses.Memory n = tt
of_input statuses.ReadFault n = absurd (n tt)
of_input statuses.WriteFault n = tt
of_input statuses.BadText n = tt
of_input statuses.BadEntry n = tt
of_input statuses.Missing n = tt

-- what is said of an input whose answer is told
pub record SaysInput (input : List ℕ) (old new : Option (List ℕ)) (status : AuditStatus) : Type 0 where
  pub verdict : IsVerdict status → SaysOf input old new status
  pub front : status ≡ statuses.WriteFault → SaysFrontOf input old new
  pub silent : ¬ (IsSilent status)
  pub kind : IsOfInput status

pub says_input : (input : List ℕ) (answer : Audited) (old new : Option (List ℕ)) (before now : ℕ) (status : AuditStatus) → Audits input answer → Tells (verdict_line answer) (status_of answer) old new before now status → SaysInput input old new status
says_input input answer old new before now status audits t = record {
  verdict = λ v. record { answer = answer; audits = audits; status_is = (t.verdict v).0; written = (t.verdict v).1 };
  front = λ e. record { answer = answer; audits = audits; written = t.front e };
  silent = t.told;
  kind = of_input status t.told;
}

-- every answer is a verdict
pub answered : (answer : Audited) → IsAnswer answer → IsVerdict (status_of answer)
answered audited.NoMark a = tt
answered audited.Over a = tt
answered (audited.Script (faults.NoSession line)) a = tt
answered (audited.Script (faults.NotText offset)) a = tt
answered (audited.Script (faults.TooLong line)) a = tt
answered (audited.Script (faults.TooMany lines)) a = tt
answered (audited.Script faults.NoMemory) a = absurd (a refl)
answered (audited.BadText line) a = tt
answered (audited.BadEntry entry) a = tt
answered (audited.Missing session phase) a = tt
answered (audited.Legal entries) a = tt

-- what was taken is what was told
taken_told : (P : List ℕ → Type 0) (left after : Option (List ℕ)) (input : List ℕ) → TakesAll left after input → P input → IfSome left P
taken_told P None after input t p = tt
taken_told P (Some xs) None input t p = absurd t.taken
taken_told P (Some xs) (Some ys) input t p =
    let none : ys ≡ [] = t.end in
    subst P (sym (t.taken ∙ ap (λ (zs : List ℕ). input ++ zs) none ∙ append-nil input)) p

judged : (left after : Option (List ℕ)) (input : List ℕ) (answer : Audited) (status : AuditStatus) → TakesAll left after input → Audits input answer → status ≡ status_of answer → IsJudged left after (verdict_line answer) status
judged left after input answer status taken audits is = record {
  end = taken.end;
  answer = answer;
  audits = taken_told (λ bytes. Audits bytes answer) left after input taken audits;
  line_is = refl;
  status_is = is;
}

pub says_all : (left after old new : Option (List ℕ)) (bytes input : List ℕ) (status : AuditStatus) → input ≡ bytes → TakesAll left after bytes → SaysOf input old new status → Says left after old new status
says_all left after old new bytes input status is taken s = record { line = verdict_line s.answer; due = inl (judged left after input s.answer status (subst (TakesAll left after) (sym is) taken) s.audits s.status_is); written = s.written }

pub front_all : (left after old new : Option (List ℕ)) (bytes input : List ℕ) → input ≡ bytes → TakesAll left after bytes → SaysFrontOf input old new → SaysFront left after old new
front_all left after old new bytes input is taken s = record { line = verdict_line s.answer; status = status_of s.answer; due = inl (judged left after input s.answer (status_of s.answer) (subst (TakesAll left after) (sym is) taken) s.audits refl); written = s.written }

-- of an input that is too long
pub says_limit : (left after old new : Option (List ℕ)) (before now : ℕ) (status : AuditStatus) → TakesTooMany left after 268435456 → Tells (codes "limit: input over 268435456 bytes\n") statuses.Limit old new before now status → IsVerdict status → Says left after old new status
says_limit left after old new before now status many t v = record { line = codes "limit: input over 268435456 bytes\n"; due = inr (record { many = many; line_is = refl; status_is = (t.verdict v).0 }); written = (t.verdict v).1 }

pub front_limit : (left after old new : Option (List ℕ)) (before now : ℕ) (status : AuditStatus) → TakesTooMany left after 268435456 → Tells (codes "limit: input over 268435456 bytes\n") statuses.Limit old new before now status → status ≡ statuses.WriteFault → SaysFront left after old new
front_limit left after old new before now status many t e = record { line = codes "limit: input over 268435456 bytes\n"; status = statuses.Limit; due = inr (record { many = many; line_is = refl; status_is = refl }); written = t.front e }

-- the words, by the status

not_usage : (status : AuditStatus) → IsOfInput status → ¬ (status ≡ statuses.Usage)
not_usage status k e = subst IsOfInput e k

pub told_usage : {X : Type 0} (words : List X) (status : AuditStatus) → words ≡ [] → IsOfInput status → (status ≡ statuses.Usage) ↔ ¬ (words ≡ [])
told_usage words status none k = (λ e. absurd (not_usage status k e), λ n. absurd (n none))
