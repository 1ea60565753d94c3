-- Calls whose phases never fall, and their texts phase by phase.
use Rattle.std.proofs.Common.{◌≡◌, ◌⊎◌, ℕ, zero, suc, ◌+◌, ◌<◌, ◌≤◌, List, [], ◌∷◌, ◌++◌, true, false, inl, inr, refl, ap, sym, subst, ◌∙◌, drop, map, arith, eqb, append-nil}
use Rattle.std.proofs.lemmas.Bool.{cases_Bool, cases_lt}
use Rattle.std.proofs.lemmas.Bool.Decides.{nat_tests}
use Rattle.std.proofs.lemmas.List.Elements.{filter-append}
use Rattle.std.specs.List.{filter, AllByRecursion}
use Rattle.rv_script.specs.declared.scripts.Line.{Line}
use Rattle.rv_script.specs.declared.scripts.Phase.{Phase}
use Rattle.rv_audit.specs.declared.calls.Call.{Call}
use Rattle.rv_audit.specs.Calls.{calls_by, calls_from, calls_in}
use Rattle.rv_audit.specs.Following.{asked_in, texts_of}

-- the texts of a phase
abbrev pub texts : ℕ → List Call → List (List ℕ)
texts q calls = map (λ (c : Call). c.text) (filter (λ (c : Call). eqb c.phase q) calls)

-- no call is of a phase below this one
abbrev pub AreFrom : ℕ → List Call → Type 0
AreFrom low calls = AllByRecursion (λ (c : Call). low ≤ c.phase) calls

abbrev pub AreUpTo : ℕ → List Call → Type 0
AreUpTo high calls = AllByRecursion (λ (c : Call). c.phase ≤ high) calls

-- phases never fall
abbrev pub Rising : List Call → Type 0
Rising [] = Unit {0}
Rising (c ∷ cs) = AreFrom c.phase cs × Rising cs

-- Texts.

map_append : (xs ys : List Call) → map (λ (c : Call). c.text) (xs ++ ys) ≡ map (λ (c : Call). c.text) xs ++ map (λ (c : Call). c.text) ys
map_append [] ys = refl
map_append (x ∷ xs) ys = ap (λ ts. x.text ∷ ts) (map_append xs ys)

pub texts_append : (q : ℕ) (xs ys : List Call) → texts q (xs ++ ys) ≡ texts q xs ++ texts q ys
texts_append q xs ys = ap (map (λ (c : Call). c.text)) (filter-append (λ (c : Call). eqb c.phase q) xs ys) ∙ map_append (filter (λ (c : Call). eqb c.phase q) xs) (filter (λ (c : Call). eqb c.phase q) ys)

-- below the first phase there is none
pub none_below : (q low : ℕ) (xs : List Call) → q < low → AreFrom low xs → texts q xs ≡ []
none_below q low [] less h = refl
none_below q low (x ∷ xs) less h =
    let here = h.0 in
    let other : eqb x.phase q ≡ false = grind (arith, nat_tests) in
    rw other (none_below q low xs less h.1)

-- and above the last
pub none_above : (q high : ℕ) (xs : List Call) → high < q → AreUpTo high xs → texts q xs ≡ []
none_above q high [] less h = refl
none_above q high (x ∷ xs) less h =
    let here = h.0 in
    let other : eqb x.phase q ≡ false = grind (arith, nat_tests) in
    rw other (none_above q high xs less h.1)

-- what has no texts below a phase begins there
pub from_none : (p : ℕ) (xs : List Call) → ((q : ℕ) → q < p → texts q xs ≡ []) → AreFrom p xs
from_none p [] none = tt
from_none p (x ∷ xs) none = (by (cases_lt x.phase p), from_none p xs (λ q less. (tail q (none q less))))
  where
    same : eqb x.phase x.phase ≡ true
    same = grind (arith, nat_tests)

    by : (x.phase < p) ⊎ (p ≤ x.phase) → p ≤ x.phase
    by (inl less) = (let e : x.text ∷ texts x.phase xs ≡ [] = rw same at (none x.phase less) in cc)
    by (inr more) = more

    tail : (q : ℕ) → texts q (x ∷ xs) ≡ [] → texts q xs ≡ []
    tail q e = elim (cases_Bool (eqb x.phase q)) [
      | inl t ↦ let e2 : x.text ∷ texts q xs ≡ [] = rw t at e in cc
      | inr f ↦ rw f at e
    ]

-- Phases that never fall.

pub from_lower : (low high : ℕ) (xs : List Call) → low ≤ high → AreFrom high xs → AreFrom low xs
from_lower low high [] le h = tt
from_lower low high (x ∷ xs) le h = (let here = h.0 in omega (arith, here, le), from_lower low high xs le h.1)

pub from_append : (low : ℕ) (xs ys : List Call) → AreFrom low xs → AreFrom low ys → AreFrom low (xs ++ ys)
from_append low [] ys h k = k
from_append low (x ∷ xs) ys h k = (h.0, from_append low xs ys h.1 k)

pub from_kept : (low session : ℕ) (xs : List Call) → AreFrom low xs → AreFrom low (calls_by session xs)
from_kept low session [] h = tt
from_kept low session (x ∷ xs) h = elim (cases_Bool (eqb x.session session)) [
  | inl t ↦ rw t ((h.0, from_kept low session xs h.1))
  | inr f ↦ rw f (from_kept low session xs h.1)
]

pub rising_kept : (session : ℕ) (xs : List Call) → Rising xs → Rising (calls_by session xs)
rising_kept session [] h = tt
rising_kept session (x ∷ xs) h = elim (cases_Bool (eqb x.session session)) [
  | inl t ↦ rw t ((from_kept x.phase session xs h.0, rising_kept session xs h.1))
  | inr f ↦ rw f (rising_kept session xs h.1)
]

pub rising_drop : (k : ℕ) (xs : List Call) → Rising xs → Rising (drop k xs)
rising_drop zero xs h = h
rising_drop (suc k) [] h = tt
rising_drop (suc k) (x ∷ xs) h = rising_drop k xs h.1

-- The calls of a script.

lines_from : (n : ℕ) (lines : List Line) → AreFrom n (calls_in n lines)
lines_from n [] = tt
lines_from n (l ∷ ls) = (omega arith, lines_from n ls)

calls_from_from : (n : ℕ) (phases : List Phase) → AreFrom n (calls_from n phases)
calls_from_from n [] = tt
calls_from_from n (p ∷ ps) = from_append n (calls_in n p.lines) (calls_from (n + 1) ps) (lines_from n p.lines) (from_lower n (n + 1) (calls_from (n + 1) ps) (omega arith) (calls_from_from (n + 1) ps))

lines_rise : (n : ℕ) (lines : List Line) (more : List Call) → AreFrom n more → Rising more → Rising (calls_in n lines ++ more)
lines_rise n [] more from rising = rising
lines_rise n (l ∷ ls) more from rising = (from_append n (calls_in n ls) more (lines_from n ls) from, lines_rise n ls more from rising)

pub calls_rise : (n : ℕ) (phases : List Phase) → Rising (calls_from n phases)
calls_rise n [] = tt
calls_rise n (p ∷ ps) = lines_rise n p.lines (calls_from (n + 1) ps) (from_lower n (n + 1) (calls_from (n + 1) ps) (omega arith) (calls_from_from (n + 1) ps)) (calls_rise (n + 1) ps)

lines_texts : (n session : ℕ) (lines : List Line) → texts n (calls_by session (calls_in n lines)) ≡ map (λ (l : Line). l.text) (filter (λ (l : Line). eqb l.session session) lines)
lines_texts n session [] = refl
lines_texts n session (l ∷ ls) = elim (cases_Bool (eqb l.session session)) [
  | inl t ↦ let same : eqb n n ≡ true = grind (arith, nat_tests) in rw (t, same) (ap (λ ts. l.text ∷ ts) (lines_texts n session ls))
  | inr f ↦ rw f (lines_texts n session ls)
]

lines_up : (n session : ℕ) (lines : List Line) → AreUpTo n (calls_by session (calls_in n lines))
lines_up n session [] = tt
lines_up n session (l ∷ ls) = elim (cases_Bool (eqb l.session session)) [
  | inl t ↦ rw t ((omega arith, lines_up n session ls))
  | inr f ↦ rw f (lines_up n session ls)
]

-- what a script asks of a session in a phase
pub asked_is : (n k session : ℕ) (phases : List Phase) → texts (n + k) (calls_by session (calls_from n phases)) ≡ texts_of phases session k
asked_is n k session [] = refl
asked_is n zero session (p ∷ ps) =
    let here : n + 0 ≡ n = omega arith in
    subst (λ m. texts m (calls_by session (calls_from n (p ∷ ps))) ≡ texts_of (p ∷ ps) session 0) (sym here) (
    ap (texts n) (filter-append (λ (c : Call). eqb c.session session) (calls_in n p.lines) (calls_from (n + 1) ps))
    ∙ texts_append n (calls_by session (calls_in n p.lines)) (calls_by session (calls_from (n + 1) ps))
    ∙ (λ i. lines_texts n session p.lines i ++ none_below n (n + 1) (calls_by session (calls_from (n + 1) ps)) (omega arith) (from_kept (n + 1) session (calls_from (n + 1) ps) (calls_from_from (n + 1) ps)) i)
    ∙ append-nil (map (λ (l : Line). l.text) (filter (λ (l : Line). eqb l.session session) p.lines)))
asked_is n (suc k) session (p ∷ ps) =
    let next : n + suc k ≡ (n + 1) + k = omega arith in
    subst (λ m. texts m (calls_by session (calls_from n (p ∷ ps))) ≡ texts_of (p ∷ ps) session (suc k)) (sym next) (
    ap (texts ((n + 1) + k)) (filter-append (λ (c : Call). eqb c.session session) (calls_in n p.lines) (calls_from (n + 1) ps))
    ∙ texts_append ((n + 1) + k) (calls_by session (calls_in n p.lines)) (calls_by session (calls_from (n + 1) ps))
    ∙ ap (λ ts. ts ++ texts ((n + 1) + k) (calls_by session (calls_from (n + 1) ps))) (none_above ((n + 1) + k) n (calls_by session (calls_in n p.lines)) (omega arith) (lines_up n session p.lines))
    ∙ asked_is (n + 1) k session ps)

-- phases begin at 1
pub asked_none : (session : ℕ) (phases : List Phase) → texts 0 (calls_by session (calls_from 1 phases)) ≡ []
asked_none session phases = none_below 0 1 (calls_by session (calls_from 1 phases)) (omega arith) (from_kept 1 session (calls_from 1 phases) (calls_from_from 1 phases))

pub asked_of : (q session : ℕ) (phases : List Phase) → texts q (calls_by session (calls_from 1 phases)) ≡ asked_in phases session q
asked_of zero session phases = asked_none session phases
asked_of (suc k) session phases = (let one : suc k ≡ 1 + k = omega arith in ap (λ q. texts q (calls_by session (calls_from 1 phases))) one ∙ asked_is 1 k session phases)
