-- Places in the calls of a script, and what is made and left by them.
use Rattle.std.proofs.Common.{◌≡◌, ◌⊎◌, ℕ, zero, suc, ◌+◌, ◌-◌, ◌<◌, ◌≤◌, List, [], ◌∷◌, ◌++◌, Bool, true, false, inl, inr, refl, ap, sym, subst, ◌∙◌, length, drop, take, arith, eqb, nat_le, nat_lt, Option, Some, None, append-nil, append_assoc, length-append}
use Rattle.std.proofs.lemmas.Bool.{cases_Bool, and_from, and_parts, cases_lt}
use Rattle.std.proofs.lemmas.Bool.Decides.{nat_tests}
use Rattle.std.specs.List.{list_all, slice_get, slice_index}
use Rattle.rv_script.specs.declared.scripts.Phase.{Phase}
use Rattle.rv_model.specs.declared.entry.Entry.{Entry}
use Rattle.rv_model.specs.History.{calls}
use Rattle.rv_model.specs.Transcript.{AllSameButPhase, SameButPhase}
use Rattle.rv_audit.specs.declared.calls.Call.{Call}
use Rattle.rv_audit.specs.declared.following.Left.{Left}
use Rattle.rv_audit.specs.Calls.{calls_by, calls_from, is_later, is_by, IsNextOf, waits_at}
use Rattle.rv_audit.specs.Following.{asked_in, HasAll, IsFirstMissing}
use Rattle.rv_audit.specs.Places.{all_wait, asks, left_at, lower_of, ArePhasesOf, AreSessions, FrontsFollow, IsLowestOf, IsStuck, LowestUpTo, Makes, Refuses, Stands, StandsAt}
use Rattle.rv_audit.proofs.Making.{all_made, asked_parts, call_by, determined, follows_by, goes_on, made, made_append, made_from, rest_of, sessions_of, Made}
use Rattle.rv_audit.proofs.Phases.{calls_rise, from_lower, none_below, rising_drop, rising_kept, texts, AreFrom, AreUpTo, Rising}

-- A place.

pub at_some : (calls : List Call) (at : ℕ) (c : Call) → slice_get calls at ≡ Some c → drop at calls ≡ c ∷ drop (suc at) calls
at_some [] at c e = cc
at_some (x ∷ xs) zero c e = (let is : x ≡ c = cc in λ i. is i ∷ xs)
at_some (x ∷ xs) (suc k) c e = at_some xs k c e

pub at_none : (calls : List Call) (at : ℕ) → slice_get calls at ≡ None → drop at calls ≡ []
at_none [] zero e = refl
at_none [] (suc k) e = refl
at_none (x ∷ xs) zero e = cc
at_none (x ∷ xs) (suc k) e = at_none xs k e

kept_one : (s : ℕ) (c : Call) (cs : List Call) → c.session ≡ s → calls_by s (c ∷ cs) ≡ c ∷ calls_by s cs
kept_one s c cs same = (let t : eqb c.session s ≡ true = grind (arith, nat_tests) in rw t refl)

pub left_some : (calls : List Call) (s at : ℕ) (c : Call) → StandsAt calls s at → slice_get calls at ≡ Some c → calls_by s (drop at calls) ≡ c ∷ calls_by s (drop (suc at) calls)
left_some calls s at c h e = ap (calls_by s) (at_some calls at c e) ∙ kept_one s c (drop (suc at) calls) (h.here c e)

pub left_none : (calls : List Call) (s at : ℕ) → slice_get calls at ≡ None → calls_by s (drop at calls) ≡ []
left_none calls s at e = ap (calls_by s) (at_none calls at e)

-- a call of another session, passed over
pub skipped : (calls : List Call) (s at : ℕ) (c : Call) → slice_get calls at ≡ Some c → eqb c.session s ≡ false → calls_by s (drop (suc at) calls) ≡ calls_by s (drop at calls)
skipped calls s at c e other = sym (ap (calls_by s) (at_some calls at c e) ∙ by other)
  where
    by : eqb c.session s ≡ false → calls_by s (c ∷ drop (suc at) calls) ≡ calls_by s (drop (suc at) calls)
    by f = rw f refl

-- Waiting.

-- what is left by a place is of the phase of its call, or of later ones
rises_at : (phases : List Phase) (s at : ℕ) → Rising (calls_by s (drop at (calls_from 1 phases)))
rises_at phases s at = rising_kept s (drop at (calls_from 1 phases)) (rising_drop at (calls_from 1 phases) (calls_rise 1 phases))

waits_from : (phases : List Phase) (s at phase : ℕ) → StandsAt (calls_from 1 phases) s at → waits_at (calls_from 1 phases) phase at ≡ true → AreFrom phase (calls_by s (drop at (calls_from 1 phases)))
waits_from phases s at phase h w = by (slice_get (calls_from 1 phases) at) refl
  where
    left : List Call
    left = calls_by s (drop at (calls_from 1 phases))

    by : (o : Option Call) → slice_get (calls_from 1 phases) at ≡ o → AreFrom phase left
    by None e = subst (AreFrom phase) (sym (left_none (calls_from 1 phases) s at e)) tt
    by (Some c) e =
        let is = left_some (calls_from 1 phases) s at c h e in
        let later : nat_le phase c.phase ≡ true = rw e at w in
        let le : phase ≤ c.phase = grind (arith, nat_tests) in
        let rises = subst Rising is (rises_at phases s at) in
        subst (AreFrom phase) (sym is) ((le, from_lower phase c.phase (calls_by s (drop (suc at) (calls_from 1 phases))) le rises.0))

from_waits : (calls : List Call) (s at phase : ℕ) → StandsAt calls s at → AreFrom phase (calls_by s (drop at calls)) → waits_at calls phase at ≡ true
from_waits calls s at phase h from = by (slice_get calls at) refl
  where
    by : (o : Option Call) → slice_get calls at ≡ o → waits_at calls phase at ≡ true
    by None e = rw e refl
    by (Some c) e =
        let all = subst (AreFrom phase) (left_some calls s at c h e) from in
        let le = all.0 in
        let later : nat_le phase c.phase ≡ true = grind (arith, nat_tests) in
        rw e later

all_at : (p : ℕ → Bool) (xs : List ℕ) (i : ℕ) → list_all p xs ≡ true → i < length xs → p (slice_index xs i) ≡ true
all_at p [] i h less = absurd (omega (arith, less))
all_at p (x ∷ xs) zero h less = (and_parts (p x) (list_all p xs) h).0
all_at p (x ∷ xs) (suc i) h less = all_at p xs i (and_parts (p x) (list_all p xs) h).1 (omega (arith, less))

all_by : (p : ℕ → Bool) (xs : List ℕ) → ((i : ℕ) → i < length xs → p (slice_index xs i) ≡ true) → list_all p xs ≡ true
all_by p [] h = refl
all_by p (x ∷ xs) h = and_from (p x) (list_all p xs) (h 0 (omega arith)) (all_by p xs (λ i less. h (suc i) (omega (arith, less))))

all_wait_by : (calls : List Call) (places : List ℕ) (phase : ℕ) → Stands calls places → ((s : ℕ) → 1 ≤ s → s ≤ 8 → AreFrom phase (left_at calls places s)) → all_wait calls places phase ≡ true
all_wait_by calls places phase h from = all_by (λ at. waits_at calls phase at) places one
  where
    one : (i : ℕ) → i < length places → waits_at calls phase (slice_index places i) ≡ true
    one i less =
        let eight = h.eight in
        let back : suc i - 1 ≡ i = omega arith in
        subst (λ k. waits_at calls phase (slice_index places k) ≡ true) back (from_waits calls (suc i) (slice_index places (suc i - 1)) phase (h.each (suc i) (omega arith) (omega (arith, less, eight))) (from (suc i) (omega arith) (omega (arith, less, eight))))

-- Going on.

pub record MadeSo (phases : List Phase) (history : List Entry) : Type 0 where
  pub phase : ℕ
  pub rest : ℕ → List Call
  pub made : Made phases history phase rest

pub record Going (phases : List Phase) (all done : List Entry) (places : List ℕ) (left : List Entry) : Type 0 where
  pub passed : List Entry
  pub is : all ≡ passed ++ left
  pub same : AllSameButPhase passed done
  pub sessions : AreSessions done
  pub coming : AreSessions left
  pub fronts : (k : ℕ) → MadeSo phases (take k done)
  pub stands : Stands (calls_from 1 phases) places
  pub phase : ℕ
  pub made : Made phases done phase (left_at (calls_from 1 phases) places)

from_zero : (xs : List Call) → AreFrom 0 xs
from_zero [] = tt
from_zero (x ∷ xs) = (omega arith, from_zero xs)

front_none : (phases : List Phase) (k : ℕ) → MadeSo phases [] → MadeSo phases (take k [])
front_none phases zero f = f
front_none phases (suc k) f = f

pub first_going : (phases : List Phase) (all : List Entry) (places : List ℕ) → AreSessions all → Stands (calls_from 1 phases) places → ((s : ℕ) → 1 ≤ s → s ≤ 8 → left_at (calls_from 1 phases) places s ≡ calls_by s (calls_from 1 phases)) → Going phases all [] places all
first_going phases all places sessions stands left = record {
  passed = [];
  is = refl;
  same = tt;
  sessions = tt;
  coming = sessions;
  fronts = λ k. front_none phases k (record { phase = 0; rest = left_at (calls_from 1 phases) places; made = start });
  stands = stands;
  phase = 0;
  made = start;
}
  where
    start : Made phases [] 0 (left_at (calls_from 1 phases) places)
    start = record { whole = left; low = λ s from to. tt; high = λ s from to. from_zero (left_at (calls_from 1 phases) places s) }

same_append : (us bs : List Entry) (a b : Entry) → AllSameButPhase us bs → SameButPhase a b → AllSameButPhase (us ++ a ∷ []) (bs ++ b ∷ [])
same_append [] [] a b h k = (k, tt)
same_append [] (y ∷ ys) a b h k = absurd h
same_append (x ∷ xs) [] a b h k = absurd h
same_append (x ∷ xs) (y ∷ ys) a b h k = (h.0, same_append xs ys a b h.1 k)

sessions_append : (es : List Entry) (e : Entry) → AreSessions es → 1 ≤ e.session → e.session ≤ 8 → AreSessions (es ++ e ∷ [])
sessions_append [] e h from to = ((from, to), tt)
sessions_append (x ∷ xs) e h from to = (h.0, sessions_append xs e h.1 from to)

front_more : (P : List Entry → Type 0) (es : List Entry) (e : Entry) (k : ℕ) → ((j : ℕ) → P (take j es)) → P (es ++ e ∷ []) → P (take k (es ++ e ∷ []))
front_more P [] e zero f w = f 0
front_more P [] e (suc zero) f w = w
front_more P [] e (suc (suc k)) f w = w
front_more P (x ∷ xs) e zero f w = f 0
front_more P (x ∷ xs) e (suc k) f w = front_more (λ es. P (x ∷ es)) xs e k (λ j. f (suc j)) w

up_higher : (low high : ℕ) (xs : List Call) → low ≤ high → AreUpTo low xs → AreUpTo high xs
up_higher low high [] le h = tt
up_higher low high (x ∷ xs) le h = (let here = h.0 in omega (arith, here, le), up_higher low high xs le h.1)

up_append : (high : ℕ) (xs ys : List Call) → AreUpTo high xs → AreUpTo high ys → AreUpTo high (xs ++ ys)
up_append high [] ys h k = k
up_append high (x ∷ xs) ys h k = (h.0, up_append high xs ys h.1 k)

one_up : (s : ℕ) (e : Entry) → AreUpTo e.phase (made s (e ∷ []))
one_up s e = elim (cases_Bool (eqb e.session s)) [
  | inl t ↦ rw t ((omega arith, tt))
  | inr f ↦ rw f tt
]

-- what an entry makes, and what is left behind it
one_made : (calls : List Call) (old new : List ℕ) (e : Entry) (s : ℕ) → 1 ≤ s → Makes calls old e.session e.text e.phase new → made s (e ∷ []) ++ left_at calls new s ≡ left_at calls old s
one_made calls old new e s from m = elim (cases_Bool (eqb e.session s)) [
  | inl t ↦ let is : e.session ≡ s = grind (arith, nat_tests) in rw t (here is)
  | inr f ↦ let other : ¬ (s ≡ e.session) = (λ same. no same f) in rw f (m.others s from other)
]
  where
    here : e.session ≡ s → call_by e ∷ left_at calls new s ≡ left_at calls old s
    here is = subst (λ n. call_by e ∷ left_at calls new n ≡ left_at calls old n) is (sym m.next)

    no : s ≡ e.session → eqb e.session s ≡ false → ⊥
    no same f = (let t : eqb e.session s ≡ true = grind (arith, nat_tests) in let both_are : true ≡ false = sym t ∙ f in cc)

pub step_going : (phases : List Phase) (all done : List Entry) (places new : List ℕ) (e made_so : Entry) (left : List Entry) → Going phases all done places (e ∷ left) → SameButPhase e made_so → Makes (calls_from 1 phases) places e.session e.text made_so.phase new → Going phases all (done ++ made_so ∷ []) new left
step_going phases all done places new e d left g but m0 = record {
  passed = g.passed ++ e ∷ [];
  is = g.is ∙ sym (append_assoc g.passed (e ∷ []) left);
  same = same_append g.passed done e d g.same but;
  sessions = sessions_append done d g.sessions from to;
  coming = g.coming.1;
  fronts = λ k. front_more (λ es. MadeSo phases es) done d k g.fronts (record { phase = d.phase; rest = left_at (calls_from 1 phases) new; made = more });
  stands = m.stands;
  phase = d.phase;
  made = more;
}
  where
    from : 1 ≤ d.session
    from = subst (λ n. 1 ≤ n) but.session g.coming.0.0

    to : d.session ≤ 8
    to = subst (λ n. n ≤ 8) but.session g.coming.0.1

    m : Makes (calls_from 1 phases) places d.session d.text d.phase new
    m = subst (λ n. Makes (calls_from 1 phases) places n d.text d.phase new) but.session (subst (λ t. Makes (calls_from 1 phases) places e.session t d.phase new) but.text m0)

    up : g.phase ≤ d.phase
    up = (subst (AreFrom g.phase) m.next (g.made.high d.session from to)).0

    waits : (s : ℕ) → 1 ≤ s → s ≤ 8 → AreFrom d.phase (left_at (calls_from 1 phases) places s)
    waits s f t =
        let eight = g.stands.eight in
        waits_from phases s (slice_index places (s - 1)) d.phase (g.stands.each s f t) (all_at (λ at. waits_at (calls_from 1 phases) d.phase at) places (s - 1) m.waits (omega (arith, f, t, eight)))

    tail_waits : (s : ℕ) (x : List Call) → AreFrom d.phase (made s (d ∷ []) ++ x) → AreFrom d.phase x
    tail_waits s x h = elim (cases_Bool (eqb d.session s)) [
      | inl t ↦ (rw t at h).1
      | inr f ↦ rw f at h
    ]

    more : Made phases (done ++ d ∷ []) d.phase (left_at (calls_from 1 phases) new)
    more = record {
      whole = λ s f t. (
          ap (λ cs. cs ++ left_at (calls_from 1 phases) new s) (made_append s done (d ∷ []))
          ∙ append_assoc (made s done) (made s (d ∷ [])) (left_at (calls_from 1 phases) new s)
          ∙ ap (λ cs. made s done ++ cs) (one_made (calls_from 1 phases) places new d s f m)
          ∙ g.made.whole s f t);
      low = λ s f t. subst (AreUpTo d.phase) (sym (made_append s done (d ∷ []))) (up_append d.phase (made s done) (made s (d ∷ [])) (up_higher g.phase d.phase (made s done) up (g.made.low s f t)) (one_up s d));
      high = λ s f t. tail_waits s (left_at (calls_from 1 phases) new s) (subst (AreFrom d.phase) (sym (one_made (calls_from 1 phases) places new d s f m)) (waits s f t));
    }

pub stuck_going : (phases : List Phase) (all done : List Entry) (places : List ℕ) (e : Entry) (left : List Entry) → Going phases all done places (e ∷ left) → Refuses (calls_from 1 phases) places e.session e.text → IsStuck phases all done
stuck_going phases all done places e left g r = record {
  passed = g.passed;
  next = e;
  more = left;
  is = g.is;
  same = g.same;
  no_further = λ h same legal follows. (
      let on = goes_on phases g.passed done e g.phase (left_at (calls_from 1 phases) places) h g.sessions g.same g.made same legal follows g.coming.0.0 g.coming.0.1 in
      r.none on.phase on.more on.next (all_wait_by (calls_from 1 phases) places on.phase g.stands on.waits));
}

pub all_same : (phases : List Phase) (all done : List Entry) (places : List ℕ) → Going phases all done places [] → AllSameButPhase all done
all_same phases all done places g = subst (λ es. AllSameButPhase es done) (sym (g.is ∙ append-nil g.passed)) g.same

-- The end.

pub all_made_at : (phases : List Phase) (all done : List Entry) (places : List ℕ) → Going phases all done places [] → ((s : ℕ) → 1 ≤ s → s ≤ 8 → slice_get (calls_from 1 phases) (slice_index places (s - 1)) ≡ None) → HasAll phases done
all_made_at phases all done places g none = λ s q from to. all_made phases done g.phase q s (left_at (calls_from 1 phases) places) g.made from to (ap (texts q) (left_none (calls_from 1 phases) s (slice_index places (s - 1)) (none s from to)))

longer : (us bs : List (List ℕ)) (t : List ℕ) (ts cs : List (List ℕ)) → cs ≡ us ++ bs → bs ≡ t ∷ ts → length us < length cs
longer us bs t ts cs e f = (let n = ap (λ x. length x) (e ∙ ap (λ x. us ++ x) f) in let k = length-append us (t ∷ ts) in omega (arith, n, k))

pub missing_going : (phases : List Phase) (all done : List Entry) (places : List ℕ) (session phase : ℕ) → Going phases all done places [] → IsLowestOf (calls_from 1 phases) places 8 session phase → IsFirstMissing phases done session phase
missing_going phases all done places session phase g l = record {
  from = l.from;
  to = l.to;
  missing = longer (calls done session phase) (texts phase (left session)) l.next.text (texts phase (calls_by session (drop (suc (place session)) (calls_from 1 phases)))) (asked_in phases session phase) (asked_parts phases done g.phase phase session left g.made l.from l.to) here;
  earlier = λ s q from to less. all_made phases done g.phase q s left g.made from to (none_below q phase (left s) less (waits_from phases s (place s) phase (g.stands.each s from to) (l.others s from to)));
  lower = λ s from less. (let high = l.to in let to : s ≤ 8 = omega (arith, less, high) in all_made phases done g.phase phase s left g.made from to (none_below phase (phase + 1) (left s) (omega arith) (waits_from phases s (place s) (phase + 1) (g.stands.each s from to) (l.lower s from less))));
}
  where
    place : ℕ → ℕ
    place s = slice_index places (s - 1)

    left : ℕ → List Call
    left s = left_at (calls_from 1 phases) places s

    here : texts phase (left session) ≡ l.next.text ∷ texts phase (calls_by session (drop (suc (place session)) (calls_from 1 phases)))
    here = ap (texts phase) (left_some (calls_from 1 phases) session (place session) l.next (g.stands.each session l.from l.to) l.here) ∙ (let is = l.is in let t : eqb l.next.phase phase ≡ true = grind (arith, nat_tests) in rw t refl)

pub fronts_follow : (phases : List Phase) (all done : List Entry) (places : List ℕ) (left : List Entry) → Going phases all done places left → FrontsFollow phases done
fronts_follow phases all done places left g = λ k. (let m = g.fronts k in follows_by phases (take k done) m.phase m.rest m.made)

same_back : (us bs : List Entry) → AllSameButPhase us bs → AllSameButPhase bs us
same_back [] [] h = tt
same_back [] (b ∷ bs) h = absurd h
same_back (a ∷ us) [] h = absurd h
same_back (a ∷ us) (b ∷ bs) h = (let p = h.0 in record { session = sym p.session; text = sym p.text; reply = sym p.reply }, same_back us bs h.1)

pub only_phases : (phases : List Phase) (all done : List Entry) (places : List ℕ) (left : List Entry) → Going phases all done places left → ArePhasesOf phases done
only_phases phases all done places left g = λ k other same legal follows. (
    let m = g.fronts k in
    let mo = made_from phases other legal follows in
    (determined other (take k done) (rest_of phases other) m.rest (sessions_of other legal) (same_back (take k done) other same) (λ s from to. (mo.whole s from to ∙ sym (m.made.whole s from to)))).entries)

-- The lowest call that is left.

pub lowest_none : (calls : List Call) (places : List ℕ) → LowestUpTo calls places 0 None
lowest_none calls places = λ s from to. absurd (omega (arith, from, to))

-- a fact of the first sessions, and of one more
one_more : (P : ℕ → Type 0) (n : ℕ) → ((s : ℕ) → 1 ≤ s → s ≤ n → P s) → P (n + 1) → (s : ℕ) → 1 ≤ s → s ≤ n + 1 → P s
one_more P n h last s from to = by (cases_lt n s)
  where
    by : ((n < s) ⊎ (s ≤ n)) → P s
    by (inl more) = (let same : n + 1 ≡ s = omega (arith, to, more) in subst P same last)
    by (inr le) = h s from le

-- what the next session has
abbrev next_has : List Call → List ℕ → ℕ → Option Call
next_has calls places n = slice_get calls (slice_index places (n + 1 - 1))

next_is : (calls : List Call) (places : List ℕ) (n : ℕ) (o : Option Call) → slice_get calls (slice_index places n) ≡ o → next_has calls places n ≡ o
next_is calls places n o e = (let back : n + 1 - 1 ≡ n = omega arith in ap (λ k. slice_get calls (slice_index places k)) back ∙ e)

later_some : (phase : ℕ) (c : Call) (o : Option Call) → o ≡ Some c → phase ≤ c.phase → is_later phase o ≡ true
later_some phase c o e le = (let t : nat_le phase c.phase ≡ true = grind (arith, nat_tests) in ap (is_later phase) e ∙ t)

later_none : (phase : ℕ) (o : Option Call) → o ≡ None → is_later phase o ≡ true
later_none phase o e = ap (is_later phase) e

later_lower : (low high : ℕ) (o : Option Call) → low ≤ high → is_later high o ≡ true → is_later low o ≡ true
later_lower low high None le w = refl
later_lower low high (Some c) le w = (let more : high ≤ c.phase = grind (arith, nat_tests) in let t : nat_le low c.phase ≡ true = grind (arith, nat_tests) in t)

abbrev waits_before : List Call → List ℕ → ℕ → ℕ → Type 0
waits_before calls places phase s = waits_at calls phase (slice_index places (s - 1)) ≡ true

-- the next session's call is lower than all before
lowest_next : (calls : List Call) (places : List ℕ) (n : ℕ) (c : Call) → slice_get calls (slice_index places n) ≡ Some c → ((s : ℕ) → 1 ≤ s → s ≤ n → waits_before calls places (c.phase + 1) s) → IsLowestOf calls places (n + 1) (n + 1) c.phase
lowest_next calls places n c e later = record {
  from = omega arith;
  to = omega arith;
  next = c;
  here = next_is calls places n (Some c) e;
  is = refl;
  others = one_more (waits_before calls places c.phase) n (λ s from to. later_lower c.phase (c.phase + 1) (slice_get calls (slice_index places (s - 1))) (omega arith) (later s from to)) (later_some c.phase c (next_has calls places n) (next_is calls places n (Some c) e) (omega arith));
  lower = λ s from less. later s from (omega (arith, less));
}

-- it is not
lowest_kept : (calls : List Call) (places : List ℕ) (n : ℕ) (left : Left) → IsLowestOf calls places n left.session left.phase → is_later left.phase (next_has calls places n) ≡ true → IsLowestOf calls places (n + 1) left.session left.phase
lowest_kept calls places n left l w = record {
  from = l.from;
  to = (let to = l.to in omega (arith, to));
  next = l.next;
  here = l.here;
  is = l.is;
  others = one_more (waits_before calls places left.phase) n l.others w;
  lower = l.lower;
}

pub lowest_more : (calls : List Call) (places : List ℕ) (n : ℕ) (lowest : Option Left) → LowestUpTo calls places n lowest → LowestUpTo calls places (n + 1) (lower_of lowest (n + 1) (slice_get calls (slice_index places n)))
lowest_more calls places n lowest h = by (slice_get calls (slice_index places n)) refl lowest h
  where
    by : (o : Option Call) → slice_get calls (slice_index places n) ≡ o → (low : Option Left) → LowestUpTo calls places n low → LowestUpTo calls places (n + 1) (lower_of low (n + 1) o)
    by None e None h = one_more (λ s. slice_get calls (slice_index places (s - 1)) ≡ None) n h (next_is calls places n None e)
    by None e (Some left) h = lowest_kept calls places n left h (later_none left.phase (next_has calls places n) (next_is calls places n None e))
    by (Some c) e None h = lowest_next calls places n c e (λ s from to. later_none (c.phase + 1) (slice_get calls (slice_index places (s - 1))) (h s from to))
    by (Some c) e (Some left) h = elim (cases_Bool (nat_lt c.phase left.phase)) [
      | inl t ↦ let less : c.phase + 1 ≤ left.phase = grind (arith, nat_tests) in rw t (lowest_next calls places n c e (λ s from to. later_lower (c.phase + 1) left.phase (slice_get calls (slice_index places (s - 1))) less (h.others s from to)))
      | inr f ↦ let more : left.phase ≤ c.phase = grind (arith, nat_tests) in rw f (lowest_kept calls places n left h (later_some left.phase c (next_has calls places n) (next_is calls places n (Some c) e) more))
    ]

-- Taking a call.

pub refuse_end : (calls : List Call) (places : List ℕ) (session : ℕ) (text : List ℕ) → slice_get calls (slice_index places (session - 1)) ≡ None → Refuses calls places session text
refuse_end calls places session text e = record { none = λ phase more next waits. no (asks phase session text) more (sym (left_none calls session (slice_index places (session - 1)) e) ∙ next) }
  where
    no : (c : Call) (more : List Call) → [] ≡ c ∷ more → ⊥
    no c more e = cc

same_call : (calls : List Call) (places : List ℕ) (session : ℕ) (text : List ℕ) (c : Call) → StandsAt calls session (slice_index places (session - 1)) → slice_get calls (slice_index places (session - 1)) ≡ Some c → (phase : ℕ) (more : List Call) → left_at calls places session ≡ asks phase session text ∷ more → c ≡ asks phase session text
same_call calls places session text c h e phase more next = first c (asks phase session text) (calls_by session (drop (suc (slice_index places (session - 1))) calls)) more (sym (left_some calls session (slice_index places (session - 1)) c h e) ∙ next)
  where
    first : (x y : Call) (xs ys : List Call) → x ∷ xs ≡ y ∷ ys → x ≡ y
    first x y xs ys e = cc

pub refuse_text : (calls : List Call) (places : List ℕ) (session : ℕ) (text : List ℕ) (c : Call) → StandsAt calls session (slice_index places (session - 1)) → slice_get calls (slice_index places (session - 1)) ≡ Some c → ¬ (c.text ≡ text) → Refuses calls places session text
refuse_text calls places session text c h e other = record { none = λ phase more next waits. other (ap (λ (x : Call). x.text) (same_call calls places session text c h e phase more next)) }

pub refuse_wait : (calls : List Call) (places : List ℕ) (session : ℕ) (text : List ℕ) (c : Call) → StandsAt calls session (slice_index places (session - 1)) → slice_get calls (slice_index places (session - 1)) ≡ Some c → all_wait calls places c.phase ≡ false → Refuses calls places session text
refuse_wait calls places session text c h e fails = record {
  none = λ phase more next waits. (
      let phase_is : c.phase ≡ phase = ap (λ (x : Call). x.phase) (same_call calls places session text c h e phase more next) in
      let no : false ≡ true = sym fails ∙ ap (all_wait calls places) phase_is ∙ waits in
      absurd (cc));
}

same_or : (a b : ℕ) → (a ≡ b) ⊎ ¬ (a ≡ b)
same_or a b = elim (cases_Bool (eqb a b)) [
  | inl t ↦ inl (grind (arith, nat_tests))
  | inr f ↦ inr (λ same. (let t : eqb a b ≡ true = grind (arith, nat_tests) in let no : true ≡ false = sym t ∙ f in absurd (cc)))
]

-- places of which one was set
pub record IsSet (old : List ℕ) (place at : ℕ) (new : List ℕ) : Type 0 where
  pub long : length new ≡ length old
  pub here : slice_index new place ≡ at
  pub others : (k : ℕ) → ¬ (k ≡ place) → slice_index new k ≡ slice_index old k

pub makes : (calls : List Call) (old new : List ℕ) (session : ℕ) (text : List ℕ) (c : Call) (at : ℕ) → Stands calls old → 1 ≤ session → session ≤ 8 → slice_get calls (slice_index old (session - 1)) ≡ Some c → c.text ≡ text → all_wait calls old c.phase ≡ true → IsNextOf calls (slice_index old (session - 1) + 1) session at → IsSet old (session - 1) at new → Makes calls old session text c.phase new
makes calls old new session text c at h from to e is waits next set = record {
  stands = record { eight = set.long ∙ h.eight; each = each };
  next =
      left_some calls session place c stands e
      ∙ (λ i. record { phase = c.phase; session = stands.here c e i; text = is i } ∷ behind i);
  others = λ s f other. ap (λ k. calls_by s (drop k calls)) (set.others (s - 1) (apart s f other));
  waits = waits;
}
  where
    place : ℕ
    place = slice_index old (session - 1)

    stands : StandsAt calls session place
    stands = h.each session from to

    behind : calls_by session (drop (suc place) calls) ≡ left_at calls new session
    behind = (let one : suc place ≡ place + 1 = omega arith in ap (λ k. calls_by session (drop k calls)) one ∙ sym next.same ∙ ap (λ k. calls_by session (drop k calls)) (sym set.here))

    apart : (s : ℕ) → 1 ≤ s → ¬ (s ≡ session) → ¬ (s - 1 ≡ session - 1)
    apart s f other same = other (omega (arith, f, from, same))

    mine : StandsAt calls session (slice_index new (session - 1))
    mine = subst (StandsAt calls session) (sym set.here) (record { within = next.within; here = next.here })

    each_by : (s : ℕ) → 1 ≤ s → s ≤ 8 → ((s ≡ session) ⊎ ¬ (s ≡ session)) → StandsAt calls s (slice_index new (s - 1))
    each_by s f t (inl same) = subst (λ k. StandsAt calls k (slice_index new (k - 1))) (sym same) mine
    each_by s f t (inr other) = subst (StandsAt calls s) (sym (set.others (s - 1) (apart s f other))) (h.each s f t)

    each : (s : ℕ) → 1 ≤ s → s ≤ 8 → StandsAt calls s (slice_index new (s - 1))
    each s f t = each_by s f t (same_or s session)

-- The first places.

abbrev pub eight : ℕ → ℕ → ℕ → ℕ → ℕ → ℕ → ℕ → ℕ → List ℕ
eight a b c d e f g h = a ∷ b ∷ c ∷ d ∷ e ∷ f ∷ g ∷ h ∷ []

pub eight_next : (calls : List Call) (a b c d e f g h : ℕ) → IsNextOf calls 0 1 a → IsNextOf calls 0 2 b → IsNextOf calls 0 3 c → IsNextOf calls 0 4 d → IsNextOf calls 0 5 e → IsNextOf calls 0 6 f → IsNextOf calls 0 7 g → IsNextOf calls 0 8 h → (s : ℕ) → 1 ≤ s → s ≤ 8 → IsNextOf calls 0 s (slice_index (eight a b c d e f g h) (s - 1))
eight_next calls a b c d e f g h na nb nc nd ne nf ng nh zero from to = absurd (omega (arith, from))
eight_next calls a b c d e f g h na nb nc nd ne nf ng nh (suc zero) from to = na
eight_next calls a b c d e f g h na nb nc nd ne nf ng nh (suc (suc zero)) from to = nb
eight_next calls a b c d e f g h na nb nc nd ne nf ng nh (suc (suc (suc zero))) from to = nc
eight_next calls a b c d e f g h na nb nc nd ne nf ng nh (suc (suc (suc (suc zero)))) from to = nd
eight_next calls a b c d e f g h na nb nc nd ne nf ng nh (suc (suc (suc (suc (suc zero))))) from to = ne
eight_next calls a b c d e f g h na nb nc nd ne nf ng nh (suc (suc (suc (suc (suc (suc zero)))))) from to = nf
eight_next calls a b c d e f g h na nb nc nd ne nf ng nh (suc (suc (suc (suc (suc (suc (suc zero))))))) from to = ng
eight_next calls a b c d e f g h na nb nc nd ne nf ng nh (suc (suc (suc (suc (suc (suc (suc (suc zero)))))))) from to = nh
eight_next calls a b c d e f g h na nb nc nd ne nf ng nh (suc (suc (suc (suc (suc (suc (suc (suc (suc n))))))))) from to = absurd (omega (arith, to))

pub starts : (calls : List Call) (places : List ℕ) → ((s : ℕ) → 1 ≤ s → s ≤ 8 → IsNextOf calls 0 s (slice_index places (s - 1))) → (s : ℕ) → 1 ≤ s → s ≤ 8 → left_at calls places s ≡ calls_by s calls
starts calls places next s from to = (next s from to).same

pub stands_first : (calls : List Call) (places : List ℕ) → length places ≡ 8 → ((s : ℕ) → 1 ≤ s → s ≤ 8 → IsNextOf calls 0 s (slice_index places (s - 1))) → Stands calls places
stands_first calls places long next = record { eight = long; each = λ s from to. (let n = next s from to in record { within = n.within; here = n.here }) }

-- The search for the next call.

pub skip_by : (calls : List Call) (s at : ℕ) → is_by s (slice_get calls at) ≡ false → calls_by s (drop (suc at) calls) ≡ calls_by s (drop at calls)
skip_by [] s zero h = refl
skip_by [] s (suc k) h = refl
skip_by (c ∷ cs) s zero h = rw h refl
skip_by (c ∷ cs) s (suc k) h = skip_by cs s k h

here_by : (s : ℕ) (o : Option Call) → is_by s o ≡ true → (c : Call) → o ≡ Some c → c.session ≡ s
here_by s None h c e = cc
here_by s (Some x) h c e = (let is : x ≡ c = cc in let same : x.session ≡ s = grind (arith, nat_tests) in ap (λ (y : Call). y.session) (sym is) ∙ same)

past_end : (calls : List Call) (c : Call) → slice_get calls (length calls) ≡ Some c → ⊥
past_end [] c e = cc
past_end (x ∷ xs) c e = past_end xs c e

pub found : (calls : List Call) (from s at : ℕ) → at ≤ length calls → calls_by s (drop at calls) ≡ calls_by s (drop from calls) → is_by s (slice_get calls at) ≡ true → IsNextOf calls from s at
found calls from s at within same h = record { within = within; same = same; here = here_by s (slice_get calls at) h }

pub none_found : (calls : List Call) (from s at : ℕ) → at ≡ length calls → calls_by s (drop at calls) ≡ calls_by s (drop from calls) → IsNextOf calls from s (length calls)
none_found calls from s at end same = subst (IsNextOf calls from s) end (record { within = omega (arith, end); same = same; here = λ c e. absurd (past_end calls c (ap (slice_get calls) (sym end) ∙ e)) })
