-- The calls that the entries of a history make, against those that a script asks for.
use Rattle.std.proofs.Common.{◌≡◌, ℕ, ◌≤◌, List, [], ◌∷◌, ◌++◌, true, inl, inr, refl, ap, sym, subst, ◌∙◌, length, drop, map, arith, eqb, append-nil, append_assoc}
use Rattle.std.proofs.lemmas.Bool.{cases_Bool}
use Rattle.std.proofs.lemmas.Bool.Decides.{nat_tests}
use Rattle.rv_value.proofs.Lists.{first_same}
use Rattle.rv_script.specs.declared.scripts.Phase.{Phase}
use Rattle.rv_model.specs.declared.entry.Entry.{Entry}
use Rattle.rv_model.specs.History.{calls}
use Rattle.rv_model.specs.Transcript.{AllSameButPhase, SameButPhase}
use Rattle.rv_believed.specs.Database.{empty, Database}
use Rattle.rv_believed.specs.History.{IsLegal, Leads}
use Rattle.rv_audit.specs.declared.calls.Call.{Call}
use Rattle.rv_audit.specs.Calls.{calls_by, calls_from}
use Rattle.rv_audit.specs.Following.{asked_in, Follows, IsFront}
use Rattle.rv_audit.specs.Places.{AreSessions}
use Rattle.rv_audit.proofs.Fronts.{parts, Agrees, AreBy, Parts}
use Rattle.rv_audit.proofs.Phases.{asked_of, calls_rise, from_lower, none_above, none_below, rising_kept, texts, texts_append, AreFrom, AreUpTo, Rising}
use Rattle.rv_audit.proofs.Ending.{same_over}

abbrev pub call_by : Entry → Call
call_by e = record { phase = e.phase; session = e.session; text = e.text }

abbrev pub calls_made : List Entry → List Call
calls_made h = map (λ (e : Entry). call_by e) h

-- the calls that a session makes
abbrev pub made : ℕ → List Entry → List Call
made session h = calls_by session (calls_made h)

-- those that a script asks of it
abbrev pub asked : ℕ → List Phase → List Call
asked session phases = calls_by session (calls_from 1 phases)

pub calls_is : (q s : ℕ) (h : List Entry) → calls h s q ≡ texts q (made s h)
calls_is q s [] = refl
calls_is q s (e ∷ es) = elim (cases_Bool (eqb e.session s)) [
  | inl t ↦ elim (cases_Bool (eqb e.phase q)) [
    | inl u ↦ rw (t, u) (ap (λ ts. e.text ∷ ts) (calls_is q s es))
    | inr f ↦ rw (t, f) (calls_is q s es)
  ]
  | inr f ↦ rw f (calls_is q s es)
]

kept_by : (s : ℕ) (xs : List Call) → AreBy s (calls_by s xs)
kept_by s [] = tt
kept_by s (x ∷ xs) = elim (cases_Bool (eqb x.session s)) [
  | inl t ↦ rw t ((let same : x.session ≡ s = grind (arith, nat_tests) in same, kept_by s xs))
  | inr f ↦ rw f (kept_by s xs)
]

pub made_append : (s : ℕ) (h k : List Entry) → made s (h ++ k) ≡ made s h ++ made s k
made_append s [] k = refl
made_append s (e ∷ es) k = elim (cases_Bool (eqb e.session s)) [
  | inl t ↦ rw t (ap (λ cs. call_by e ∷ cs) (made_append s es k))
  | inr f ↦ rw f (made_append s es k)
]

-- Phases and sessions of a legal history.

legal_sessions : (d : Database) (phase : ℕ) (h : List Entry) (last : Database) → Leads d phase h last → AreSessions h
legal_sessions d phase [] last l = tt
legal_sessions d phase (e ∷ es) last l = ((l.1.from, l.1.to), legal_sessions l.0 e.phase es last l.2)

pub record Rises (low : ℕ) (calls : List Call) : Type 0 where
  pub from : AreFrom low calls
  pub rising : Rising calls

legal_rises : (d : Database) (phase : ℕ) (h : List Entry) (last : Database) → Leads d phase h last → Rises phase (calls_made h)
legal_rises d phase [] last l = record { from = tt; rising = tt }
legal_rises d phase (e ∷ es) last l =
    let ih = legal_rises l.0 e.phase es last l.2 in
    record { from = (l.1.phase, from_lower phase e.phase (calls_made es) l.1.phase ih.from); rising = (ih.from, ih.rising) }

pub rises_of : (h : List Entry) → IsLegal h → Rising (calls_made h)
rises_of h l = (legal_rises empty 0 h l.0 l.1).rising

pub sessions_of : (h : List Entry) → IsLegal h → AreSessions h
sessions_of h l = legal_sessions empty 0 h l.0 l.1

-- What a history has made and what is left, parted by a phase.
pub record Made (phases : List Phase) (h : List Entry) (p : ℕ) (rest : ℕ → List Call) : Type 0 where
  pub whole : (s : ℕ) → 1 ≤ s → s ≤ 8 → made s h ++ rest s ≡ asked s phases
  pub low : (s : ℕ) → 1 ≤ s → s ≤ 8 → AreUpTo p (made s h)
  pub high : (s : ℕ) → 1 ≤ s → s ≤ 8 → AreFrom p (rest s)

-- what is asked in a phase is what was made in it and what is left of it
pub asked_parts : (phases : List Phase) (h : List Entry) (p q s : ℕ) (rest : ℕ → List Call) → Made phases h p rest → 1 ≤ s → s ≤ 8 → asked_in phases s q ≡ calls h s q ++ texts q (rest s)
asked_parts phases h p q s rest m from to =
    sym (asked_of q s phases) ∙ ap (texts q) (sym (m.whole s from to)) ∙ texts_append q (made s h) (rest s) ∙ ap (λ ts. ts ++ texts q (rest s)) (sym (calls_is q s h))

pub all_made : (phases : List Phase) (h : List Entry) (p q s : ℕ) (rest : ℕ → List Call) → Made phases h p rest → 1 ≤ s → s ≤ 8 → texts q (rest s) ≡ [] → calls h s q ≡ asked_in phases s q
all_made phases h p q s rest m from to none = sym (append-nil (calls h s q)) ∙ ap (λ ts. calls h s q ++ ts) (sym none) ∙ sym (asked_parts phases h p q s rest m from to)

pub follows_by : (phases : List Phase) (h : List Entry) (p : ℕ) (rest : ℕ → List Call) → Made phases h p rest → Follows phases h
follows_by phases h p rest m = record {
  at = p;
  past = λ s q from to less. all_made phases h p q s rest m from to (none_below q p (rest s) less (m.high s from to));
  now = λ s from to. record { rest = texts p (rest s); is = asked_parts phases h p p s rest m from to };
  later = λ s q from to more. (calls_is q s h ∙ none_above q p (made s h) more (m.low s from to));
}

-- what is left behind a history
abbrev pub rest_of : List Phase → List Entry → ℕ → List Call
rest_of phases h s = drop (length (made s h)) (asked s phases)

agrees : (phases : List Phase) (h : List Entry) (f : Follows phases h) (s : ℕ) → 1 ≤ s → s ≤ 8 → Agrees f.at (asked s phases) (made s h)
agrees phases h f s from to = record {
  past = λ q less. (sym (calls_is q s h) ∙ f.past s q from to less ∙ sym (asked_of q s phases));
  now = subst (λ ts. IsFront ts (texts f.at (asked s phases))) (calls_is f.at s h) (subst (λ ts. IsFront (calls h s f.at) ts) (sym (asked_of f.at s phases)) (f.now s from to));
  later = λ q more. (sym (calls_is q s h) ∙ f.later s q from to more);
}

pub made_from : (phases : List Phase) (h : List Entry) → IsLegal h → (f : Follows phases h) → Made phases h f.at (rest_of phases h)
made_from phases h l f = record { whole = λ s from to. (all s from to).is; low = λ s from to. (all s from to).low; high = λ s from to. (all s from to).high }
  where
    all : (s : ℕ) → 1 ≤ s → s ≤ 8 → Parts f.at (asked s phases) (made s h)
    all s from to = parts f.at s (asked s phases) (made s h) (kept_by s (calls_from 1 phases)) (kept_by s (calls_made h)) (rising_kept s (calls_from 1 phases) (calls_rise 1 phases)) (rising_kept s (calls_made h) (legal_rises empty 0 h l.0 l.1).rising) (agrees phases h f s from to)

-- A script determines the phases.

rest_calls : (x y : Call) (xs ys : List Call) → x ∷ xs ≡ y ∷ ys → xs ≡ ys
rest_calls x y xs ys e = cc

pub made_here : (s : ℕ) (e : Entry) (es : List Entry) → e.session ≡ s → made s (e ∷ es) ≡ call_by e ∷ made s es
made_here s e es same = (let t : eqb e.session s ≡ true = grind (arith, nat_tests) in rw t refl)

uncons_made : (s : ℕ) (a : Entry) (us bs : List Entry) (x y : List Call) → made s (a ∷ us) ++ x ≡ made s (a ∷ bs) ++ y → made s us ++ x ≡ made s bs ++ y
uncons_made s a us bs x y e = elim (cases_Bool (eqb a.session s)) [
  | inl t ↦ rest_calls (call_by a) (call_by a) (made s us ++ x) (made s bs ++ y) (rw t at e)
  | inr f ↦ rw f at e
]

pub record AreSame (us bs : List Entry) (r1 r2 : ℕ → List Call) : Type 0 where
  pub entries : us ≡ bs
  pub rests : (s : ℕ) → 1 ≤ s → s ≤ 8 → r1 s ≡ r2 s

pub determined : (us bs : List Entry) (r1 r2 : ℕ → List Call) → AreSessions us → AllSameButPhase us bs → ((s : ℕ) → 1 ≤ s → s ≤ 8 → made s us ++ r1 s ≡ made s bs ++ r2 s) → AreSame us bs r1 r2
determined [] [] r1 r2 ss same e = record { entries = refl; rests = e }
determined [] (b ∷ bs) r1 r2 ss same e = absurd same
determined (a ∷ us) [] r1 r2 ss same e = absurd same
determined (a ∷ us) (b ∷ bs) r1 r2 ss same e =
    let but = same.0 in
    let session = ss.0 in
    let here = sym (ap (λ cs. cs ++ r1 a.session) (made_here a.session a us refl)) ∙ e a.session session.0 session.1 ∙ ap (λ cs. cs ++ r2 a.session) (made_here a.session b bs (sym but.session)) in
    let call = first_same (call_by a) (call_by b) (made a.session us ++ r1 a.session) (made a.session bs ++ r2 a.session) here in
    let is : a ≡ b = (λ i. record { session = but.session i; phase = ap (λ (c : Call). c.phase) call i; text = but.text i; reply = but.reply i }) in
    let ih = determined us bs r1 r2 ss.1 same.1 (λ s from to. uncons_made s a us bs (r1 s) (r2 s) (e s from to ∙ ap (λ x. made s (x ∷ bs) ++ r2 s) (sym is))) in
    record { entries = λ i. is i ∷ ih.entries i; rests = ih.rests }

-- histories that follow one script and are equal in all but phases are equal
pub same_history : (phases : List Phase) (xs us bs : List Entry) → AllSameButPhase xs us → AllSameButPhase xs bs → IsLegal us → Follows phases us → IsLegal bs → Follows phases bs → us ≡ bs
same_history phases xs us bs h k la fa lb fb =
    let ma = made_from phases us la fa in
    let mb = made_from phases bs lb fb in
    (determined us bs (rest_of phases us) (rest_of phases bs) (sessions_of us la) (same_over us xs bs h k) (λ s from to. (ma.whole s from to ∙ sym (mb.whole s from to)))).entries

-- The last entry.

pub record Split (passed : List Entry) (e : Entry) (h : List Entry) : Type 0 where
  pub before : List Entry
  pub last : Entry
  pub is : h ≡ before ++ last ∷ []
  pub same : AllSameButPhase passed before
  pub same_last : SameButPhase e last

pub split_last : (passed : List Entry) (e : Entry) (h : List Entry) → AllSameButPhase (passed ++ e ∷ []) h → Split passed e h
split_last [] e [] s = absurd s
split_last [] e (b ∷ []) s = record { before = []; last = b; is = refl; same = tt; same_last = s.0 }
split_last [] e (b ∷ c ∷ bs) s = absurd s.1
split_last (a ∷ us) e [] s = absurd s
split_last (a ∷ us) e (b ∷ bs) s =
    let ih = split_last us e bs s.1 in
    record { before = b ∷ ih.before; last = ih.last; is = ap (λ es. b ∷ es) ih.is; same = (s.0, ih.same); same_last = ih.same_last }

up_last : (p : ℕ) (xs : List Call) (c : Call) → AreUpTo p (xs ++ c ∷ []) → c.phase ≤ p
up_last p [] c h = h.0
up_last p (x ∷ xs) c h = up_last p xs c h.1

-- An entry that goes on: a call of its session with its text is next, and none of an earlier phase is left.
pub record GoesOn (rest : ℕ → List Call) (session : ℕ) (text : List ℕ) : Type 0 where
  pub phase : ℕ
  pub more : List Call
  pub next : rest session ≡ record { phase = phase; session = session; text = text } ∷ more
  pub waits : (s : ℕ) → 1 ≤ s → s ≤ 8 → AreFrom phase (rest s)

last_by : (s : ℕ) (last : Entry) (more : List Call) → AreFrom last.phase more → AreFrom last.phase (made s (last ∷ []) ++ more)
last_by s last more from = elim (cases_Bool (eqb last.session s)) [
  | inl t ↦ rw t ((omega arith, from))
  | inr f ↦ rw f from
]

pub goes_on : (phases : List Phase) (passed done : List Entry) (e : Entry) (p : ℕ) (rest : ℕ → List Call) (h : List Entry) → AreSessions done → AllSameButPhase passed done → Made phases done p rest → AllSameButPhase (passed ++ e ∷ []) h → IsLegal h → Follows phases h → 1 ≤ e.session → e.session ≤ 8 → GoesOn rest e.session e.text
goes_on phases passed done e p rest h sessions same m same_h legal follows from to =
    let cut = split_last passed e h same_h in
    let but = cut.same_last in
    let mh = made_from phases h legal follows in
    let whole = λ (s : ℕ) (f : 1 ≤ s) (t : s ≤ 8). (
    m.whole s f t ∙ sym (mh.whole s f t) ∙ ap (λ es. made s es ++ rest_of phases h s) cut.is
    ∙ ap (λ cs. cs ++ rest_of phases h s) (made_append s cut.before (cut.last ∷ []))
    ∙ append_assoc (made s cut.before) (made s (cut.last ∷ [])) (rest_of phases h s)) in
    let equal = determined done cut.before rest (λ s. made s (cut.last ∷ []) ++ rest_of phases h s) sessions (same_over done passed cut.before same cut.same) whole in
    let low = subst (λ es. AreUpTo follows.at (made e.session es)) cut.is (mh.low e.session from to) in
    let up = up_last follows.at (made e.session cut.before) (call_by cut.last) (subst (AreUpTo follows.at) (made_append e.session cut.before (cut.last ∷ []) ∙ ap (λ cs. made e.session cut.before ++ cs) (made_here e.session cut.last [] (sym but.session))) low) in
    record {
      phase = cut.last.phase;
      more = rest_of phases h e.session;
      next = equal.rests e.session from to ∙ ap (λ cs. cs ++ rest_of phases h e.session) (made_here e.session cut.last [] (sym but.session)) ∙ (λ i. record { phase = cut.last.phase; session = sym but.session i; text = sym but.text i } ∷ rest_of phases h e.session);
      waits = λ s f t. subst (AreFrom cut.last.phase) (sym (equal.rests s f t)) (last_by s cut.last (rest_of phases h s) (from_lower cut.last.phase follows.at (rest_of phases h s) up (mh.high s f t)));
    }
