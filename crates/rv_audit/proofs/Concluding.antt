-- From what the parts of an audit tell to its answer.
use Rattle.std.proofs.Common.{◌≡◌, ℕ, ◌<◌, ◌≤◌, List, [], ◌∷◌, ◌++◌, Some, None, Result, Ok, Err, IfOk, refl, ap, sym, subst, length, arith, append-nil, length-append, decimal, codes}
use Rattle.std.proofs.lemmas.Result.{IfOk-weaker}
use Rattle.rv_value.specs.declared.duplicate.NoMemory.{NoMemory}
use Rattle.rv_script.specs.declared.scripts.Phase.{Phase}
use Rattle.rv_script.specs.declared.scripts.Script.{Script}
use Rattle.rv_script.specs.declared.scripts.ScriptFault.{ScriptFault}
use Rattle.rv_script.specs.declared.scripts.ScriptFault.TheVariants as faults
use Rattle.rv_script.specs.Drafts.{FaultIs}
use Rattle.rv_script.specs.Script.{script_of}
use Rattle.rv_model.specs.declared.entry.Entry.{Entry}
use Rattle.rv_model.specs.Transcript.{entry_text, reply_text, text}
use Rattle.rv_believed.specs.History.{IsLegal}
use Rattle.rv_text.specs.Reading.{AreReadable}
use Rattle.rv_audit.specs.declared.auditing.Audited.{Audited}
use Rattle.rv_audit.specs.declared.auditing.Audited.TheVariants as audited
use Rattle.rv_audit.specs.declared.following.End.{End}
use Rattle.rv_audit.specs.declared.following.End.TheVariants as ends
use Rattle.rv_audit.specs.Auditing.{Audits, GoesWrongAt, IsAnswer, Says, SaysOfEntries, SaysOfParts, SaysOfTranscript}
use Rattle.rv_audit.specs.Marks.{parted, Parted}
use Rattle.rv_audit.specs.Places.{end_told, ArePhasesOf, AreSessions, BreaksAt, EndsSo, FaultTold, FrontsFollow}
use Rattle.rv_audit.proofs.Ending.{broken, lacks, same_length, stuck, whole}

pub sessions_readable : (es : List Entry) → AreReadable es → AreSessions es
sessions_readable [] h = tt
sessions_readable (e ∷ es) h = (let one = h.0.plain in (one.from, one.to), sessions_readable es h.1)

-- Entries.

pub few_done : (phases : List Phase) (entries done : List Entry) (end : End) → EndsSo phases entries done end → length done ≤ length entries
few_done phases entries done ends.Whole e = (let long = same_length entries done e.0 in omega (arith, long))
few_done phases entries done (ends.Missing session phase) e = (let long = same_length entries done e.0 in omega (arith, long))
few_done phases entries done ends.Bad e =
    let long = same_length e.passed done e.same in
    let all = ap (λ es. length es) e.is in
    let count = length-append e.passed (e.next ∷ e.more) in
    omega (arith, long, all, count)

pub breaks : (script : Script) (entries done : List Entry) (end : End) (n : ℕ) → FrontsFollow script.phases done → ArePhasesOf script.phases done → EndsSo script.phases entries done end → BreaksAt done n → GoesWrongAt script entries n
breaks script entries done ends.Whole n fronts only e b = subst (λ es. GoesWrongAt script es n) (append-nil entries) (broken script entries [] done n e.0 fronts only b.from b.to b.before b.breaks)
breaks script entries done (ends.Missing session phase) n fronts only e b = subst (λ es. GoesWrongAt script es n) (append-nil entries) (broken script entries [] done n e.0 fronts only b.from b.to b.before b.breaks)
breaks script entries done ends.Bad n fronts only e b = subst (λ es. GoesWrongAt script es n) (sym e.is) (broken script e.passed (e.next ∷ e.more) done n e.same fronts only b.from b.to b.before b.breaks)

pub concludes : (script : Script) (entries done : List Entry) (end : End) → FrontsFollow script.phases done → EndsSo script.phases entries done end → IsLegal done → SaysOfEntries script entries (end_told end (length done))
concludes script entries done ends.Whole fronts e legal = (whole script entries done legal e.0 e.1, sym (same_length entries done e.0))
concludes script entries done (ends.Missing session phase) fronts e legal = lacks script entries done session phase fronts legal e.0 e.1
concludes script entries done ends.Bad fronts e legal = stuck script entries done fronts legal e

-- A transcript.

pub reads : (script : Script) (transcript : List ℕ) (entries : List Entry) → AreReadable entries → text entries ≡ transcript → (answer : Audited) → SaysOfEntries script entries answer → SaysOfTranscript script transcript answer
reads script transcript entries readable is (audited.BadText line) s = absurd s
reads script transcript entries readable is audited.NoMark s = absurd s
reads script transcript entries readable is audited.Over s = absurd s
reads script transcript entries readable is (audited.Script fault) s = absurd s
reads script transcript entries readable is (audited.BadEntry n) s = record { entries = entries; written = record { readable = readable; is = is }; said = s }
reads script transcript entries readable is (audited.Missing session phase) s = record { entries = entries; written = record { readable = readable; is = is }; said = s }
reads script transcript entries readable is (audited.Legal n) s = record { entries = entries; written = record { readable = readable; is = is }; said = s }

-- An input.

in_parts : (bytes transcript : List ℕ) (script : Script) → length bytes ≤ 16777216 → script_of bytes ≡ Ok script → (answer : Audited) → SaysOfTranscript script transcript answer → SaysOfParts bytes transcript answer
in_parts bytes transcript script few is audited.NoMark s = absurd s.said
in_parts bytes transcript script few is audited.Over s = absurd s.said
in_parts bytes transcript script few is (audited.Script fault) s = absurd s.said
in_parts bytes transcript script few is (audited.BadText line) s = record { has = record { few = few; script = script; is = is }; said = s }
in_parts bytes transcript script few is (audited.BadEntry n) s = record { has = record { few = few; script = script; is = is }; said = s }
in_parts bytes transcript script few is (audited.Missing session phase) s = record { has = record { few = few; script = script; is = is }; said = s }
in_parts bytes transcript script few is (audited.Legal n) s = record { has = record { few = few; script = script; is = is }; said = s }

pub no_mark : (input : List ℕ) → None ≡ parted input → Audits input audited.NoMark
no_mark input e = subst (λ o. Says o audited.NoMark) e tt

-- of an input that is parted so
by_parts : (input : List ℕ) (p : Parted) (answer : Audited) → Some p ≡ parted input → SaysOfParts p.script p.transcript answer → Audits input answer
by_parts input p answer e s = subst (λ o. Says o answer) e s

pub over : (input : List ℕ) (p : Parted) → Some p ≡ parted input → 16777216 < length p.script → Audits input audited.Over
over input p e more = by_parts input p audited.Over e more

pub judged : (input : List ℕ) (p : Parted) (script : Script) (r : Result Audited NoMemory) → Some p ≡ parted input → length p.script ≤ 16777216 → script_of p.script ≡ Ok script → IfOk r (λ answer. SaysOfTranscript script p.transcript answer) → IfOk r (λ answer. Audits input answer)
judged input p script r e few is h = IfOk-weaker r (λ answer. SaysOfTranscript script p.transcript answer) (λ answer. Audits input answer) (λ answer s. by_parts input p answer e (in_parts p.script p.transcript script few is answer s)) h

fault_is : {X : Type 0} (fault : ScriptFault) (said : Result X ScriptFault) → ¬ (fault ≡ faults.NoMemory) → FaultIs fault said → said ≡ Err fault
fault_is (faults.NoSession line) said n is = is
fault_is (faults.NotText offset) said n is = is
fault_is (faults.TooLong line) said n is = is
fault_is (faults.TooMany lines) said n is = is
fault_is faults.NoMemory said n is = absurd (n refl)

pub faulty : (input : List ℕ) (p : Parted) (fault : ScriptFault) (r : Result Audited NoMemory) → Some p ≡ parted input → length p.script ≤ 16777216 → FaultIs fault (script_of p.script) → FaultTold fault r → IfOk r (λ answer. Audits input answer)
faulty input p fault (Ok answer) e few is h = subst (λ x. Audits input x) (sym h.0) (by_parts input p (audited.Script fault) e (few, fault_is fault (script_of p.script) h.1 is))
faulty input p fault (Err memory) e few is h = tt

-- Want of memory is no answer.

answers : (script : Script) (transcript : List ℕ) (answer : Audited) → SaysOfTranscript script transcript answer → IsAnswer answer
answers script transcript audited.NoMark s = tt
answers script transcript audited.Over s = tt
answers script transcript (audited.Script fault) s = absurd s.said
answers script transcript (audited.BadText line) s = tt
answers script transcript (audited.BadEntry n) s = tt
answers script transcript (audited.Missing session phase) s = tt
answers script transcript (audited.Legal n) s = tt

pub fault_answers : (fault : ScriptFault) (r : Result Audited NoMemory) → FaultTold fault r → IfOk r IsAnswer
fault_answers fault (Ok answer) h = subst IsAnswer (sym h.0) h.1
fault_answers fault (Err memory) h = tt

pub judged_answers : (script : Script) (transcript : List ℕ) (r : Result Audited NoMemory) → IfOk r (λ answer. SaysOfTranscript script transcript answer) → IfOk r IsAnswer
judged_answers script transcript r h = IfOk-weaker r (λ answer. SaysOfTranscript script transcript answer) IsAnswer (answers script transcript) h

-- A transcript has no more entries than bytes.

ended : (front : List ℕ) → 1 ≤ length (front ++ 10 ∷ [])
ended front = (let count = length-append front (10 ∷ []) in omega (arith, count))

entry_some : (e : Entry) → 1 ≤ length (entry_text e)
entry_some e = ended (decimal e.session ++ 32 ∷ e.text ++ codes "\n= " ++ reply_text e.reply)

few_text : (es : List Entry) → length es ≤ length (text es)
few_text [] = omega arith
few_text (e ∷ es) =
    let some = entry_some e in
    let rest = few_text es in
    let count = length-append (entry_text e) (text es) in
    omega (arith, some, rest, count)

pub few_entries : (es : List Entry) (transcript : List ℕ) → text es ≡ transcript → length transcript ≤ 268435456 → length es ≤ 268435456
few_entries es transcript is few = (let count = few_text es in let same = ap (λ bs. length bs) is in omega (arith, count, same, few))
