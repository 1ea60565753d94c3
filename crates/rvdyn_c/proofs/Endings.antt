-- How a run ends where no word is given, the source tells its bytes and does not fail, and the sink tells what was written.
use Rattle.std.proofs.Common.{◌≡◌, ◌∙◌, ◌≤◌, ◌++◌, ℕ, List, [], arith, drop, inl, inr, length, length-append, min, refl, sym, ap, take, Option, Some, None, IfSome, IsSomeAnd}
use Rattle.std.proofs.lemmas.Bool.{cases_lt}
use Rattle.std.proofs.lemmas.List.{drop_all, take-append-drop, take_all}
use Rattle.std.specs.Io.KnownBytes.{Appends}
use Rattle.rv_io.specs.Pieces.{AppendsFront}
use Rattle.rv_script.specs.declared.scripts.ScriptFault.{ScriptFault}
use Rattle.rv_model.specs.declared.entry.Entry.{Entry}
use Rattle.rv_model.specs.Transcript.{text}
use Rattle.rv_words.specs.Words.{AreAccepted, Ask, asked_of}
use Rattle.rv_run.specs.declared.status.Over.{Over}
use Rattle.rv_run.specs.declared.status.Over.TheVariants as over
use Rattle.rv_run.specs.declared.status.Status.{Status}
use Rattle.rv_run.specs.declared.status.Status.TheVariants as statuses
use Rattle.rv_run.specs.Script.{FailsToRead, HasAllCalls, HasFault, HasFirstCalls, IsFrontInOrder, IsInOrder, PassesLimit, Write, Writes}
use Rattle.rvdyn_c.specs.Running.{Ends, Holds, Passes, told_of}

-- what no words ask
pub nothing_asked : Ask [] (asked_of [])
nothing_asked = record { items = []; spelled = record { whole = refl; fit = tt; once = tt }; asks = refl }

pub nothing_accepted : AreAccepted []
nothing_accepted = record { items = []; spelled = record { whole = refl; fit = tt; once = tt } }

-- what the top call says of such a run
pub record Ran {X : Type 0} (status : Status) (core : Option X) (history : X → List Entry) (script rest old new : List ℕ) : Type 0 where
  pub done : status ≡ statuses.Done → IsSomeAnd core (λ c. Writes None (Some script) (Appends (Some old) (Some new)) HasAllCalls (history c))
  pub order : status ≡ statuses.Done → IsSomeAnd core (λ c. Write script (IsInOrder (history c)))
  pub memory : status ≡ statuses.Memory → IfSome core (λ c. Writes None (Some script) (Appends (Some old) (Some new)) HasFirstCalls (history c))
  pub firsts : IfSome core (λ c. Write script (IsFrontInOrder (history c)))
  pub usage : status ≡ statuses.Usage → ⊥
  pub faulty : (fault : ScriptFault) → status ≡ statuses.Script fault → HasFault (Some script) (Some rest) fault
  pub limit : (which : Over) → status ≡ statuses.Limit which → PassesLimit (Some script) (Some rest) which
  pub read : status ≡ statuses.ReadFault → FailsToRead (Some script) (Some rest) 0 0
  pub front : status ≡ statuses.WriteFault → IsSomeAnd core (λ c. Writes None (Some script) (AppendsFront (Some old) (Some new)) HasFirstCalls (history c))
  pub early : core ≡ None → new ≡ old

passes : (which : Over) (script rest : List ℕ) → PassesLimit (Some script) (Some rest) which → Passes script which
passes over.Bytes script rest p = rw p.taken (omega (arith, length-append p.bytes rest, p.many))
passes over.Lines script rest p = p.told
passes (over.Line line) script rest p = p.told

ended : {X : Type 0} (status : Status) (core : Option X) (history : X → List Entry) (script rest old new : List ℕ) → old ≡ [] → Ran status core history script rest old new → Ends status script (told_of status new)
ended statuses.Done None history script rest old new none r = absurd (r.done refl)
ended statuses.Done (Some c) history script rest old new none r = record {
  history = history c;
  legal = (r.done refl).legal;
  calls = r.order refl;
  is = (r.done refl).written ∙ ap (λ (bs : List ℕ). bs ++ text (history c)) none;
}
ended statuses.Memory None history script rest old new none r = inl (r.early refl ∙ none)
ended statuses.Memory (Some c) history script rest old new none r = inr (record {
  history = history c;
  legal = (r.memory refl).legal;
  calls = r.firsts;
  is = (r.memory refl).written ∙ ap (λ (bs : List ℕ). bs ++ text (history c)) none;
})
ended statuses.WriteFault None history script rest old new none r = absurd (r.front refl)
ended statuses.WriteFault (Some c) history script rest old new none r =
    let front = (r.front refl).written in
    let is : new ≡ take front.count (text (history c)) = front.front ∙ ap (λ (bs : List ℕ). bs ++ take front.count (text (history c))) none in
    record {
      history = history c;
      legal = (r.front refl).legal;
      calls = r.firsts;
      is = record { rest = drop front.count (text (history c)); is = rw is (sym (take-append-drop front.count (text (history c)))) };
    }
ended (statuses.Script fault) core history script rest old new none r =
    let is = r.faulty fault refl in (is.kind, is.whole.told, refl)
ended (statuses.Limit which) core history script rest old new none r = (passes which script rest (r.limit which refl), refl)
ended statuses.Usage core history script rest old new none r = r.usage refl
ended statuses.ReadFault core history script rest old new none r =
    let no : 1 ≤ 0 = (r.read refl).rose in absurd (omega (arith, no))

-- the same of bytes that are such
pub ends : {X : Type 0} (status : Status) (core : Option X) (history : X → List Entry) (script left rest old new bytes : List ℕ) → left ≡ script → old ≡ [] → bytes ≡ new → Ran status core history left rest old new → Ends status script (told_of status bytes)
ends status core history script left rest old new bytes lent none same r =
    rw (sym lent, same) (ended status core history left rest old new none r)

as_much : (old bytes : List ℕ) (count : ℕ) → count ≡ min (length bytes) (length old) → take count bytes ++ drop count old ≡ take (length old) bytes ++ drop (length bytes) old
as_much old bytes count is = elim (cases_lt (length old) (length bytes)) [
  | inl below ↦ let all : count ≡ length old = omega (arith, is, below) in rw (all, drop_all (length old) old (omega arith), drop_all (length bytes) old (omega (arith, below))) refl
  | inr past ↦ let all : count ≡ length bytes = omega (arith, is, past) in rw (all, take_all (length bytes) bytes (omega arith), take_all (length old) bytes past) refl
]

-- as many bytes as both have were copied
pub holds_front : (old new bytes : List ℕ) (count : ℕ) → count ≡ min (length bytes) (length old) → new ≡ take count bytes ++ drop count old → Holds old new bytes
holds_front old new bytes count is copied = copied ∙ as_much old bytes count is
