-- A front of a legal history that follows a script is such a history, too.
use Rattle.std.proofs.Common.{◌≡◌, ℕ, zero, suc, ◌<◌, ◌≤◌, List, [], ◌∷◌, ◌++◌, inl, inr, refl, ap, sym, subst, ◌∙◌, length, drop, take, arith, eqb, append-nil, append_assoc}
use Rattle.std.proofs.lemmas.Bool.{cases_Bool}
use Rattle.std.proofs.lemmas.List.{take-append-drop}
use Rattle.rv_script.specs.declared.scripts.Phase.{Phase}
use Rattle.rv_script.specs.declared.scripts.Script.{Script}
use Rattle.rv_model.specs.declared.entry.Entry.{Entry}
use Rattle.rv_model.specs.History.{calls}
use Rattle.rv_model.specs.Transcript.{AllSameButPhase}
use Rattle.rv_believed.specs.Database.{empty, Database}
use Rattle.rv_believed.specs.History.{IsLegal, Leads}
use Rattle.rv_audit.specs.declared.calls.Call.{Call}
use Rattle.rv_audit.specs.Calls.{calls_by}
use Rattle.rv_audit.specs.Following.{asked_in, texts_of, Follows, HasAll, IsLegalTo, IsWhole}
use Rattle.rv_audit.specs.Places.{AreSessions}
use Rattle.rv_audit.proofs.Ending.{same_over, same_take}
use Rattle.rv_audit.proofs.Making.{call_by, calls_made, follows_by, made, made_append, made_from, made_here, rest_of, rises_of, sessions_of}
use Rattle.rv_audit.proofs.Phases.{from_append, from_kept, from_lower, AreFrom, AreUpTo, Rising}

-- Legal.

record Led (d : Database) (phase : ℕ) (h : List Entry) : Type 0 where
  last : Database
  leads : Leads d phase h last

led : (k : ℕ) (d : Database) (phase : ℕ) (h : List Entry) (last : Database) → Leads d phase h last → Led d phase (take k h)
led zero d phase h last l = record { last = d; leads = refl }
led (suc k) d phase [] last l = record { last = last; leads = l }
led (suc k) d phase (e ∷ es) last l =
    let more = led k l.0 e.phase es last l.2 in
    record { last = more.last; leads = (l.0, l.1, more.leads) }

legal_front : (k : ℕ) (h : List Entry) → IsLegal h → IsLegal (take k h)
legal_front k h l = (let f = led k empty 0 h l.0 l.1 in (f.last, f.leads))

-- Phases.

made_parts : (h k : List Entry) → calls_made (h ++ k) ≡ calls_made h ++ calls_made k
made_parts [] k = refl
made_parts (e ∷ es) k = ap (λ cs. call_by e ∷ cs) (made_parts es k)

from_at : (low : ℕ) (c : Call) (xs ys : List Call) → AreFrom low (xs ++ c ∷ ys) → low ≤ c.phase
from_at low c [] ys f = f.0
from_at low c (x ∷ xs) ys f = from_at low c xs ys f.1

up_before : (c : Call) (xs ys : List Call) → Rising (xs ++ c ∷ ys) → AreUpTo c.phase xs
up_before c [] ys r = tt
up_before c (x ∷ xs) ys r = (from_at x.phase c xs ys r.0, up_before c xs ys r.1)

from_behind : (c : Call) (xs ys : List Call) → Rising (xs ++ c ∷ ys) → AreFrom c.phase (c ∷ ys)
from_behind c [] ys r = (omega arith, r.0)
from_behind c (x ∷ xs) ys r = from_behind c xs ys r.1

up_at : (p : ℕ) (c : Call) (xs ys : List Call) → AreUpTo p (xs ++ c ∷ ys) → c.phase ≤ p
up_at p c [] ys u = u.0
up_at p c (x ∷ xs) ys u = up_at p c xs ys u.1

up_kept : (high session : ℕ) (xs : List Call) → AreUpTo high xs → AreUpTo high (calls_by session xs)
up_kept high session [] h = tt
up_kept high session (x ∷ xs) h = elim (cases_Bool (eqb x.session session)) [
  | inl t ↦ rw t ((h.0, up_kept high session xs h.1))
  | inr f ↦ rw f (up_kept high session xs h.1)
]

session_at : (xs : List Entry) (y : Entry) (ys : List Entry) → AreSessions (xs ++ y ∷ ys) → (1 ≤ y.session) × (y.session ≤ 8)
session_at [] y ys h = h.0
session_at (x ∷ xs) y ys h = session_at xs y ys h.1

-- Following.

follows_front : (phases : List Phase) (h xs ys : List Entry) → h ≡ xs ++ ys → IsLegal h → Follows phases h → Follows phases xs
follows_front phases h xs [] is l f = subst (Follows phases) (is ∙ append-nil xs) f
follows_front phases h xs (y ∷ ys) is l f =
    let legal = subst IsLegal is l in
    let follows = subst (Follows phases) is f in
    let m = made_from phases (xs ++ y ∷ ys) legal follows in
    let rest = rest_of phases (xs ++ y ∷ ys) in
    let rising = subst Rising (made_parts xs (y ∷ ys)) (rises_of (xs ++ y ∷ ys) legal) in
    let session = session_at xs y ys (sessions_of (xs ++ y ∷ ys) legal) in
    let low = subst (AreUpTo follows.at) (made_append y.session xs (y ∷ ys) ∙ ap (λ cs. made y.session xs ++ cs) (made_here y.session y ys refl)) (m.low y.session session.0 session.1) in
    let upto = up_at follows.at (call_by y) (made y.session xs) (made y.session ys) low in
    follows_by phases xs y.phase (λ s. made s (y ∷ ys) ++ rest s) (record {
      whole = λ s from to. (sym (append_assoc (made s xs) (made s (y ∷ ys)) (rest s)) ∙ ap (λ cs. cs ++ rest s) (sym (made_append s xs (y ∷ ys))) ∙ m.whole s from to);
      low = λ s from to. up_kept y.phase s (calls_made xs) (up_before (call_by y) (calls_made xs) (calls_made ys) rising);
      high = λ s from to. from_append y.phase (made s (y ∷ ys)) (rest s) (from_kept y.phase s (calls_made (y ∷ ys)) (from_behind (call_by y) (calls_made xs) (calls_made ys) rising)) (from_lower y.phase follows.at (rest s) upto (m.high s from to));
    })

pub front_legal : (script : Script) (k : ℕ) (es : List Entry) → IsLegalTo script es → IsLegalTo script (take k es)
front_legal script k es l = record {
  history = take k l.history;
  same = same_take k es l.history l.same;
  legal = legal_front k l.history l.legal;
  follows = follows_front script.phases l.history (take k l.history) (drop k l.history) (sym (take-append-drop k l.history)) l.legal l.follows;
}

-- entries that are equal in all but phases are legal together
pub like_legal : (script : Script) (us bs : List Entry) → AllSameButPhase us bs → IsLegalTo script us → IsLegalTo script bs
like_legal script us bs same l = record { history = l.history; same = same_over bs us l.history same l.same; legal = l.legal; follows = l.follows }

-- What has all calls follows.

none_behind : (phases : List Phase) (session k : ℕ) → length phases ≤ k → texts_of phases session k ≡ []
none_behind [] session k le = refl
none_behind (p ∷ ps) session zero le = absurd (omega (arith, le))
none_behind (p ∷ ps) session (suc k) le = none_behind ps session k (omega (arith, le))

none_asked : (phases : List Phase) (session q : ℕ) → suc (length phases) < q → asked_in phases session q ≡ []
none_asked phases session zero more = refl
none_asked phases session (suc k) more = none_behind phases session k (omega (arith, more))

pub follows_all : (phases : List Phase) (h : List Entry) → HasAll phases h → Follows phases h
follows_all phases h all = record {
  at = suc (length phases);
  past = λ s q from to less. all s q from to;
  now = λ s from to. record { rest = []; is = sym (all s (suc (length phases)) from to) ∙ sym (append-nil (calls h s (suc (length phases)))) };
  later = λ s q from to more. (all s q from to ∙ none_asked phases s q more);
}

pub whole_legal : (script : Script) (es : List Entry) → IsWhole script es → IsLegalTo script es
whole_legal script es w = record { history = w.history; same = w.same; legal = w.legal; follows = follows_all script.phases w.history w.all }
