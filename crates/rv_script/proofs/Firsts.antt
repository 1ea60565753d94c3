-- The first of some lines, and what it says.
use Rattle.std.proofs.Common.{◌≡◌, ◌<◌, ℕ, List, [], ◌∷◌, Option, Some, None, Result, Ok, Err, IfErr, IfOk, IsUtf8, inl, inr, refl, arith, get_or, length, nat_lt}
use Rattle.std.proofs.lemmas.Bool.{cases_Bool}
use Rattle.rv_script.specs.declared.scripts.Form.{Form}
use Rattle.rv_script.specs.declared.scripts.ScriptFault.{ScriptFault}
use Rattle.rv_script.specs.declared.scripts.ScriptFault.TheVariants as faults
use Rattle.rv_script.specs.Drafts.{FaultIs, Gives, said_by}
use Rattle.rv_script.specs.Lines.{LineFault, LineSays, behind_mark, first_line, first_of, said_at}
use Rattle.rv_script.specs.Script.{Saying, or_no_session, says, says_at}

pub first_is : (ls : List (List ℕ)) (line : List ℕ) → 0 < length ls → line ≡ get_or ls 0 line → line ≡ first_of ls
first_is [] line some is = absurd (omega arith)
first_is (l ∷ ls) line some is = is

pub first_none : (ls : List (List ℕ)) → [] ≡ ls → [] ≡ first_of ls
first_none [] e = refl
first_none (l ∷ ls) e = absurd (cc)

-- what a line says is not that its bytes are not UTF-8
no_session_only : (n k : ℕ) (said : Option Saying) → or_no_session n said ≡ Err (faults.NotText k) → ⊥
no_session_only n k None e = cc
no_session_only n k (Some saying) e = cc

text_is_said : (n k : ℕ) (line : List ℕ) → says_at n line ≡ Err (faults.NotText k) → ⊥
text_is_said n k line e = elim (cases_Bool (nat_lt 200000 n)) [
  | inl t ↦ let wrong = rw t at e in cc
  | inr f ↦ elim (cases_Bool (nat_lt 4096 (length line))) [
    | inl t ↦ let wrong = rw (f, t) at e in cc
    | inr g ↦ no_session_only n k (says line) (rw (f, g) at e)
  ]
]

line_fault : (n : ℕ) (bytes : List ℕ) (fault : ScriptFault) → IsUtf8 bytes → FaultIs fault (said_at n bytes) → LineFault n bytes fault
line_fault n bytes (faults.NoSession line) utf8 is = (utf8, is)
line_fault n bytes (faults.NotText offset) utf8 is = absurd (text_is_said n offset (first_line (behind_mark n bytes)) is)
line_fault n bytes (faults.TooLong line) utf8 is = (utf8, is)
line_fault n bytes (faults.TooMany lines) utf8 is = (utf8, is)
line_fault n bytes faults.NoMemory utf8 is = tt

pub fault_so : (r : Result Form ScriptFault) (n : ℕ) (bytes : List ℕ) → IsUtf8 bytes → Gives said_by r (said_at n bytes) → IfErr r (LineFault n bytes)
fault_so (Ok form) n bytes utf8 is = tt
fault_so (Err fault) n bytes utf8 is = line_fault n bytes fault utf8 is

pub says_so : (r : Result Form ScriptFault) (n : ℕ) (bytes : List ℕ) → IsUtf8 bytes → Gives said_by r (said_at n bytes) → IfOk r (λ form. LineSays n bytes (said_by form))
says_so (Ok form) n bytes utf8 is = record { utf8 = utf8; says = is }
says_so (Err fault) n bytes utf8 is = tt
