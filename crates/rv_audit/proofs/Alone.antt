-- Of an input at most one answer is said.
use Rattle.std.proofs.Common.{◌≡◌, ◌⊎◌, ℕ, zero, suc, ◌-◌, ◌<◌, ◌≤◌, List, [], ◌∷◌, ◌++◌, Option, Some, None, Result, Ok, Err, inl, inr, refl, ap, sym, subst, ◌∙◌, length, take, arith, eqb, append_assoc}
use Rattle.std.proofs.lemmas.Bool.{cases_Bool, cases_lt}
use Rattle.std.specs.List.{AllByRecursion}
use Rattle.std.proofs.lemmas.List.{take-take}
use Rattle.rv_script.specs.declared.scripts.Phase.{Phase}
use Rattle.rv_script.specs.declared.scripts.Script.{Script}
use Rattle.rv_script.specs.declared.scripts.ScriptFault.{ScriptFault}
use Rattle.rv_script.specs.Script.{script_of}
use Rattle.rv_model.specs.declared.entry.Entry.{Entry}
use Rattle.rv_model.specs.History.{calls}
use Rattle.rv_model.specs.Transcript.{AllSameButPhase, IsPlain, TextTells}
use Rattle.rv_text.specs.Reading.{front, AreReadable, GoesOn, StopsAt}
use Rattle.rv_audit.specs.declared.auditing.Audited.{Audited}
use Rattle.rv_audit.specs.declared.auditing.Audited.TheVariants as audited
use Rattle.rv_audit.specs.Auditing.{GoesWrongAt, LacksFirst, ReadsSo, Says, SaysOfEntries, SaysOfParts, SaysOfTranscript, SaysOnce}
use Rattle.rv_audit.specs.Following.{asked_in, IsFirstMissing, IsLegalTo, IsWhole}
use Rattle.rv_audit.specs.Marks.{parted, Parted}
use Rattle.rv_audit.proofs.Again.{follows_all, front_legal, like_legal, whole_legal}
use Rattle.rv_audit.proofs.Ending.{same_length, same_over, same_take}
use Rattle.rv_audit.proofs.Making.{same_history}

-- ---- of entries

-- what goes wrong is no front of what is legal
wrong_legal : (script : Script) (us bs : List Entry) (n : ℕ) → AllSameButPhase bs us → GoesWrongAt script us n → IsLegalTo script bs → ⊥
wrong_legal script us bs n same a l = a.with_it (like_legal script (take n bs) (take n us) (same_take n bs us same) (front_legal script n bs l))

not_earlier : (script : Script) (us bs : List Entry) (n m : ℕ) → AllSameButPhase bs us → GoesWrongAt script us n → GoesWrongAt script bs m → n < m → ⊥
not_earlier script us bs n m same a b less =
    a.with_it (like_legal script (take n bs) (take n us) (same_take n bs us same) (
    subst (IsLegalTo script) (take-take n (m - 1) bs (omega (arith, less))) (front_legal script n (take (m - 1) bs) b.before)))

wrong_once : (script : Script) (us bs : List Entry) (n m : ℕ) → AllSameButPhase us bs → AllSameButPhase bs us → GoesWrongAt script us n → GoesWrongAt script bs m → n ≡ m
wrong_once script us bs n m same back a b = by (cases_lt n m) (cases_lt m n)
  where
    by : (n < m) ⊎ (m ≤ n) → (m < n) ⊎ (n ≤ m) → n ≡ m
    by (inl less) o = absurd (not_earlier script us bs n m back a b less)
    by (inr ge) (inl less) = absurd (not_earlier script bs us m n same b a less)
    by (inr ge) (inr le) = omega (arith, ge, le)

not_all : (us bs : List (List ℕ)) → length us < length bs → us ≡ bs → ⊥
not_all us bs less same = (let n = ap (λ (xs : List (List ℕ)). length xs) same in omega (arith, less, n))

phase_once : (phases : List Phase) (h : List Entry) (s p t q : ℕ) → IsFirstMissing phases h s p → IsFirstMissing phases h t q → p ≡ q
phase_once phases h s p t q a b = by (cases_lt p q) (cases_lt q p)
  where
    by : (p < q) ⊎ (q ≤ p) → (q < p) ⊎ (p ≤ q) → p ≡ q
    by (inl less) o = absurd (not_all (calls h s p) (asked_in phases s p) a.missing (b.earlier s p a.from a.to less))
    by (inr ge) (inl less) = absurd (not_all (calls h t q) (asked_in phases t q) b.missing (a.earlier t q b.from b.to less))
    by (inr ge) (inr le) = omega (arith, ge, le)

session_once : (phases : List Phase) (h : List Entry) (s t p : ℕ) → IsFirstMissing phases h s p → IsFirstMissing phases h t p → s ≡ t
session_once phases h s t p a b = by (cases_lt s t) (cases_lt t s)
  where
    by : (s < t) ⊎ (t ≤ s) → (t < s) ⊎ (s ≤ t) → s ≡ t
    by (inl less) o = absurd (not_all (calls h s p) (asked_in phases s p) a.missing (b.lower s a.from less))
    by (inr ge) (inl less) = absurd (not_all (calls h t p) (asked_in phases t p) b.missing (a.lower t b.from less))
    by (inr ge) (inr le) = omega (arith, ge, le)

-- entries that are equal in all but phases have one history
one_history : (script : Script) (us bs : List Entry) → AllSameButPhase bs us → (a : IsLegalTo script us) → (b : IsLegalTo script bs) → a.history ≡ b.history
one_history script us bs back a b = same_history script.phases us a.history b.history a.same (same_over us bs b.history back b.same) a.legal a.follows b.legal b.follows

missing_once : (script : Script) (us bs : List Entry) (s p t q : ℕ) → AllSameButPhase bs us → LacksFirst script us s p → LacksFirst script bs t q → ◌≡◌ {A = Audited} (audited.Missing s p) (audited.Missing t q)
missing_once script us bs s p t q back a b =
    let first = subst (λ h. IsFirstMissing script.phases h s p) (one_history script us bs back a.legal b.legal) a.first in
    let phase = phase_once script.phases b.legal.history s p t q first b.first in
    let session = session_once script.phases b.legal.history s t q (subst (λ n. IsFirstMissing script.phases b.legal.history s n) phase first) b.first in
    (λ i. audited.Missing (session i) (phase i))

missing_whole : (script : Script) (us bs : List Entry) (s p : ℕ) → AllSameButPhase bs us → LacksFirst script us s p → IsWhole script bs → ⊥
missing_whole script us bs s p back a w =
    let same = same_history script.phases us a.legal.history w.history a.legal.same (same_over us bs w.history back w.same) a.legal.legal a.legal.follows w.legal (follows_all script.phases w.history w.all) in
    not_all (calls a.legal.history s p) (asked_in script.phases s p) a.first.missing (ap (λ (h : List Entry). calls h s p) same ∙ w.all s p a.first.from a.first.to)

record IsWrong (script : Script) (es : List Entry) (answer : Audited) : Type 0 where
  n : ℕ
  is : answer ≡ audited.BadEntry n
  wrong : GoesWrongAt script es n

record Lacks (script : Script) (es : List Entry) (answer : Audited) : Type 0 where
  session : ℕ
  phase : ℕ
  is : answer ≡ audited.Missing session phase
  first : LacksFirst script es session phase

record Passes (script : Script) (es : List Entry) (answer : Audited) : Type 0 where
  is : answer ≡ audited.Legal (length es)
  whole : IsWhole script es

three : (script : Script) (es : List Entry) (answer : Audited) → SaysOfEntries script es answer → IsWrong script es answer ⊎ (Lacks script es answer ⊎ Passes script es answer)
three script es audited.NoMark s = absurd s
three script es audited.Over s = absurd s
three script es (audited.Script fault) s = absurd s
three script es (audited.BadText line) s = absurd s
three script es (audited.BadEntry n) s = inl (record { n = n; is = refl; wrong = s })
three script es (audited.Missing session phase) s = inr (inl (record { session = session; phase = phase; is = refl; first = s }))
three script es (audited.Legal n) s = inr (inr (record { is = ap (λ k. audited.Legal k) s.1; whole = s.0 }))

entries_once : (script : Script) (us bs : List Entry) (a b : Audited) → AllSameButPhase us bs → AllSameButPhase bs us → SaysOfEntries script us a → SaysOfEntries script bs b → a ≡ b
entries_once script us bs a b same back x y = by (three script us a x) (three script bs b y)
  where
    by : IsWrong script us a ⊎ (Lacks script us a ⊎ Passes script us a) → IsWrong script bs b ⊎ (Lacks script bs b ⊎ Passes script bs b) → a ≡ b
    by (inl v) (inl w) = v.is ∙ ap (λ k. audited.BadEntry k) (wrong_once script us bs v.n w.n same back v.wrong w.wrong) ∙ sym w.is
    by (inl v) (inr (inl w)) = absurd (wrong_legal script us bs v.n back v.wrong w.first.legal)
    by (inl v) (inr (inr w)) = absurd (wrong_legal script us bs v.n back v.wrong (whole_legal script bs w.whole))
    by (inr (inl v)) (inl w) = absurd (wrong_legal script bs us w.n same w.wrong v.first.legal)
    by (inr (inl v)) (inr (inl w)) = v.is ∙ missing_once script us bs v.session v.phase w.session w.phase back v.first w.first ∙ sym w.is
    by (inr (inl v)) (inr (inr w)) = absurd (missing_whole script us bs v.session v.phase back v.first w.whole)
    by (inr (inr v)) (inl w) = absurd (wrong_legal script bs us w.n same w.wrong (whole_legal script us v.whole))
    by (inr (inr v)) (inr (inl w)) = absurd (missing_whole script bs us w.session w.phase same w.first v.whole)
    by (inr (inr v)) (inr (inr w)) = v.is ∙ ap (λ k. audited.Legal k) (same_length us bs same) ∙ sym w.is

-- ---- of a transcript

record Longer (short long : List ℕ) : Type 0 where
  rest : List ℕ
  is : long ≡ short ++ rest

front_longer : (k n : ℕ) (bytes : List ℕ) → k ≤ n → Longer (front k bytes) (front n bytes)
front_longer zero n bytes le = record { rest = front n bytes; is = refl }
front_longer (suc k) zero bytes le = absurd (omega (arith, le))
front_longer (suc k) (suc n) [] le = record { rest = []; is = refl }
front_longer (suc k) (suc n) (c ∷ cs) le = elim (cases_Bool (eqb c 10)) [
  | inl t ↦ rw t (let more = front_longer k n cs (omega (arith, le)) in record { rest = more.rest; is = ap (λ bs. c ∷ bs) more.is })
  | inr f ↦ rw f (let more = front_longer (suc k) (suc n) cs le in record { rest = more.rest; is = ap (λ bs. c ∷ bs) more.is })
]

goes_front : (k n : ℕ) (bytes : List ℕ) → k ≤ n → GoesOn (front n bytes) → GoesOn (front k bytes)
goes_front k n bytes le g =
    let longer = front_longer k n bytes le in
    record {
      entries = g.entries;
      readable = g.readable;
      more = longer.rest ++ g.more;
      is = g.is ∙ ap (λ bs. bs ++ g.more) longer.is ∙ append_assoc (front k bytes) longer.rest g.more;
    }

not_sooner : (bytes : List ℕ) (n m : ℕ) → StopsAt n bytes → StopsAt m bytes → n < m → ⊥
not_sooner bytes n m a b less = (let last = b.last in a.with_it (omega (arith, less, last)) (goes_front n (m - 1) bytes (omega (arith, less)) b.before))

stops_once : (bytes : List ℕ) (n m : ℕ) → StopsAt n bytes → StopsAt m bytes → n ≡ m
stops_once bytes n m a b = by (cases_lt n m) (cases_lt m n)
  where
    by : (n < m) ⊎ (m ≤ n) → (m < n) ⊎ (n ≤ m) → n ≡ m
    by (inl less) o = absurd (not_sooner bytes n m a b less)
    by (inr ge) (inl less) = absurd (not_sooner bytes m n b a less)
    by (inr ge) (inr le) = omega (arith, ge, le)

pub plain_of : (es : List Entry) → AreReadable es → AllByRecursion IsPlain es
plain_of [] h = tt
plain_of (e ∷ es) h = (h.0.plain, plain_of es h.1)

record Stopped (transcript : List ℕ) (answer : Audited) : Type 0 where
  line : ℕ
  is : answer ≡ audited.BadText line
  stops : StopsAt line transcript

two : (script : Script) (transcript : List ℕ) (answer : Audited) → SaysOfTranscript script transcript answer → Stopped transcript answer ⊎ ReadsSo script transcript answer
two script transcript audited.NoMark s = inr s
two script transcript audited.Over s = inr s
two script transcript (audited.Script fault) s = inr s
two script transcript (audited.BadText line) s = inl (record { line = line; is = refl; stops = s })
two script transcript (audited.BadEntry n) s = inr s
two script transcript (audited.Missing session phase) s = inr s
two script transcript (audited.Legal n) s = inr s

stops_reads : (script : Script) (transcript : List ℕ) (a b : Audited) → Stopped transcript a → ReadsSo script transcript b → ⊥
stops_reads script transcript a b s r = s.stops.none (record { entries = r.entries; readable = r.written.readable; is = r.written.is })

transcript_once : TextTells → (script : Script) (transcript : List ℕ) (a b : Audited) → SaysOfTranscript script transcript a → SaysOfTranscript script transcript b → a ≡ b
transcript_once tells script transcript a b x y = by (two script transcript a x) (two script transcript b y)
  where
    by : Stopped transcript a ⊎ ReadsSo script transcript a → Stopped transcript b ⊎ ReadsSo script transcript b → a ≡ b
    by (inl s) (inl t) = s.is ∙ ap (λ k. audited.BadText k) (stops_once transcript s.line t.line s.stops t.stops) ∙ sym t.is
    by (inl s) (inr r) = absurd (stops_reads script transcript a b s r)
    by (inr r) (inl s) = absurd (stops_reads script transcript b a s r)
    by (inr r) (inr q) = entries_once script r.entries q.entries a b
        (tells r.entries q.entries (plain_of r.entries r.written.readable) (plain_of q.entries q.written.readable) (r.written.is ∙ sym q.written.is))
        (tells q.entries r.entries (plain_of q.entries q.written.readable) (plain_of r.entries r.written.readable) (q.written.is ∙ sym r.written.is))
        r.said q.said

-- ---- of the parts of an input

err_once : (r : Result Script ScriptFault) (f g : ScriptFault) → r ≡ Err f → r ≡ Err g → f ≡ g
err_once r f g p q = (let e : ◌≡◌ {A = Result Script ScriptFault} (Err f) (Err g) = sym p ∙ q in cc)

pub ok_once : (r : Result Script ScriptFault) (f g : Script) → r ≡ Ok f → r ≡ Ok g → f ≡ g
ok_once r f g p q = (let e : ◌≡◌ {A = Result Script ScriptFault} (Ok f) (Ok g) = sym p ∙ q in cc)

not_both : {X : Type 0} (r : Result Script ScriptFault) (f : ScriptFault) (g : Script) → r ≡ Err f → r ≡ Ok g → X
not_both r f g p q = (let e : ◌≡◌ {A = Result Script ScriptFault} (Err f) (Ok g) = sym p ∙ q in cc)

over_alone : (bytes transcript : List ℕ) (a : Audited) → 16777216 < length bytes → SaysOfParts bytes transcript a → a ≡ audited.Over
over_alone bytes transcript audited.NoMark more s = absurd s
over_alone bytes transcript audited.Over more s = refl
over_alone bytes transcript (audited.Script fault) more s = (let few = s.0 in absurd (omega (arith, more, few)))
over_alone bytes transcript (audited.BadText line) more s = (let few = s.has.few in absurd (omega (arith, more, few)))
over_alone bytes transcript (audited.BadEntry n) more s = (let few = s.has.few in absurd (omega (arith, more, few)))
over_alone bytes transcript (audited.Missing session phase) more s = (let few = s.has.few in absurd (omega (arith, more, few)))
over_alone bytes transcript (audited.Legal n) more s = (let few = s.has.few in absurd (omega (arith, more, few)))

fault_alone : (bytes transcript : List ℕ) (f : ScriptFault) (a : Audited) → length bytes ≤ 16777216 → script_of bytes ≡ Err f → SaysOfParts bytes transcript a → a ≡ audited.Script f
fault_alone bytes transcript f audited.NoMark few is s = absurd s
fault_alone bytes transcript f audited.Over few is s = absurd (omega (arith, few, s))
fault_alone bytes transcript f (audited.Script fault) few is s = ap (λ g. audited.Script g) (err_once (script_of bytes) fault f s.1 is)
fault_alone bytes transcript f (audited.BadText line) few is s = not_both (script_of bytes) f s.has.script is s.has.is
fault_alone bytes transcript f (audited.BadEntry n) few is s = not_both (script_of bytes) f s.has.script is s.has.is
fault_alone bytes transcript f (audited.Missing session phase) few is s = not_both (script_of bytes) f s.has.script is s.has.is
fault_alone bytes transcript f (audited.Legal n) few is s = not_both (script_of bytes) f s.has.script is s.has.is

of_script : (bytes transcript : List ℕ) (script : Script) (a : Audited) → length bytes ≤ 16777216 → script_of bytes ≡ Ok script → SaysOfParts bytes transcript a → SaysOfTranscript script transcript a
of_script bytes transcript script audited.NoMark few is s = absurd s
of_script bytes transcript script audited.Over few is s = absurd (omega (arith, few, s))
of_script bytes transcript script (audited.Script fault) few is s = not_both (script_of bytes) fault script s.1 is
of_script bytes transcript script (audited.BadText line) few is s = s.said
of_script bytes transcript script (audited.BadEntry n) few is s = subst (λ (x : Script). SaysOfTranscript x transcript (audited.BadEntry n)) (ok_once (script_of bytes) s.has.script script s.has.is is) s.said
of_script bytes transcript script (audited.Missing session phase) few is s = subst (λ (x : Script). SaysOfTranscript x transcript (audited.Missing session phase)) (ok_once (script_of bytes) s.has.script script s.has.is is) s.said
of_script bytes transcript script (audited.Legal n) few is s = subst (λ (x : Script). SaysOfTranscript x transcript (audited.Legal n)) (ok_once (script_of bytes) s.has.script script s.has.is is) s.said

parts_once : TextTells → (bytes transcript : List ℕ) (a b : Audited) → SaysOfParts bytes transcript a → SaysOfParts bytes transcript b → a ≡ b
parts_once tells bytes transcript a b x y = by (cases_lt 16777216 (length bytes)) (script_of bytes) refl
  where
    by : (16777216 < length bytes) ⊎ (length bytes ≤ 16777216) → (r : Result Script ScriptFault) → script_of bytes ≡ r → a ≡ b
    by (inl more) r is = over_alone bytes transcript a more x ∙ sym (over_alone bytes transcript b more y)
    by (inr few) (Err f) is = fault_alone bytes transcript f a few is x ∙ sym (fault_alone bytes transcript f b few is y)
    by (inr few) (Ok script) is = transcript_once tells script transcript a b (of_script bytes transcript script a few is x) (of_script bytes transcript script b few is y)

no_mark : (a : Audited) → Says None a → a ≡ audited.NoMark
no_mark audited.NoMark s = refl
no_mark audited.Over s = absurd s
no_mark (audited.Script fault) s = absurd s
no_mark (audited.BadText line) s = absurd s
no_mark (audited.BadEntry n) s = absurd s
no_mark (audited.Missing session phase) s = absurd s
no_mark (audited.Legal n) s = absurd s

pub says_once : TextTells → SaysOnce
says_once tells input a b x y = by (parted input) x y
  where
    by : (o : Option Parted) → Says o a → Says o b → a ≡ b
    by None s t = no_mark a s ∙ sym (no_mark b t)
    by (Some p) s t = parts_once tells p.script p.transcript a b s t
