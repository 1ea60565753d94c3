-- What a session has made is a front of what a script asks of it.
use Rattle.std.proofs.Common.{◌≡◌, ◌⊎◌, ℕ, ◌<◌, ◌≤◌, List, [], ◌∷◌, ◌++◌, true, false, inl, inr, refl, ap, sym, subst, ◌∙◌, length, drop, arith, eqb, append-nil}
use Rattle.std.proofs.lemmas.Bool.{cases_Bool, cases_lt}
use Rattle.std.proofs.lemmas.Bool.Decides.{nat_tests}
use Rattle.std.specs.List.{AllByRecursion}
use Rattle.rv_value.proofs.Lists.{first_same}
use Rattle.rv_audit.specs.declared.calls.Call.{Call}
use Rattle.rv_audit.specs.Following.{IsFront}
use Rattle.rv_audit.proofs.Phases.{from_none, none_below, texts, AreFrom, AreUpTo, Rising}

abbrev pub AreBy : ℕ → List Call → Type 0
AreBy session calls = AllByRecursion (λ (c : Call). c.session ≡ session) calls

-- phase by phase the texts of the second list are those of the first: all of them before a phase, a front in it, none behind
pub record Agrees (p : ℕ) (xs ys : List Call) : Type 0 where
  pub past : (q : ℕ) → q < p → texts q ys ≡ texts q xs
  pub now : IsFront (texts p ys) (texts p xs)
  pub later : (q : ℕ) → p < q → texts q ys ≡ []

-- the second list is a front of the first, and the phase parts them
pub record Parts (p : ℕ) (xs ys : List Call) : Type 0 where
  pub is : ys ++ drop (length ys) xs ≡ xs
  pub low : AreUpTo p ys
  pub high : AreFrom p (drop (length ys) xs)

head_text : (x : Call) (xs : List Call) → texts x.phase (x ∷ xs) ≡ x.text ∷ texts x.phase xs
head_text x xs = (let same : eqb x.phase x.phase ≡ true = grind (arith, nat_tests) in rw same refl)

not_none : {X : Type 0} (t : List ℕ) (ts : List (List ℕ)) → t ∷ ts ≡ [] → X
not_none t ts e = absurd (let no : ◌≡◌ {A = List (List ℕ)} (t ∷ ts) [] = e in cc)

none_is : {X : Type 0} (x : Call) (xs : List Call) → texts x.phase (x ∷ xs) ≡ [] → X
none_is x xs e = not_none x.text (texts x.phase xs) (sym (head_text x xs) ∙ e)

head_up : (p : ℕ) (xs : List Call) (y : Call) (ys : List Call) → Agrees p xs (y ∷ ys) → y.phase ≤ p
head_up p xs y ys a = by (cases_lt p y.phase)
  where
    by : (p < y.phase) ⊎ (y.phase ≤ p) → y.phase ≤ p
    by (inl more) = none_is y ys (a.later y.phase more)
    by (inr le) = le

front_at : (p q : ℕ) (xs ys : List Call) → q ≤ p → Agrees p xs ys → IsFront (texts q ys) (texts q xs)
front_at p q xs ys le a = by (cases_lt q p)
  where
    by : (q < p) ⊎ (p ≤ q) → IsFront (texts q ys) (texts q xs)
    by (inl less) = record { rest = []; is = sym (a.past q less) ∙ sym (append-nil (texts q ys)) }
    by (inr more) = (let same : p ≡ q = omega (arith, le, more) in subst (λ n. IsFront (texts n ys) (texts n xs)) same a.now)

head_front : (p : ℕ) (xs : List Call) (y : Call) (ys : List Call) → Agrees p xs (y ∷ ys) → IsFront (y.text ∷ texts y.phase ys) (texts y.phase xs)
head_front p xs y ys a = subst (λ ts. IsFront ts (texts y.phase xs)) (head_text y ys) (front_at p y.phase xs (y ∷ ys) (head_up p xs y ys a) a)

nothing_left : {X : Type 0} (p : ℕ) (y : Call) (ys : List Call) → Agrees p [] (y ∷ ys) → X
nothing_left p y ys a = (let f = head_front p [] y ys a in not_none y.text (texts y.phase ys ++ f.rest) (sym f.is))

phases_same : (p : ℕ) (x : Call) (xs : List Call) (y : Call) (ys : List Call) → AreFrom x.phase xs → AreFrom y.phase ys → Agrees p (x ∷ xs) (y ∷ ys) → y.phase ≡ x.phase
phases_same p x xs y ys rx ry a = by (cases_lt y.phase x.phase) (cases_lt x.phase y.phase)
  where
    by : (y.phase < x.phase) ⊎ (x.phase ≤ y.phase) → (x.phase < y.phase) ⊎ (y.phase ≤ x.phase) → y.phase ≡ x.phase
    by (inl less) t = (let f = head_front p (x ∷ xs) y ys a in not_none y.text (texts y.phase ys ++ f.rest) (sym f.is ∙ none_below y.phase x.phase (x ∷ xs) less (omega arith, rx)))
    by (inr le) (inl less) = (let up = head_up p (x ∷ xs) y ys a in none_is x xs (sym (a.past x.phase (omega (arith, less, up))) ∙ none_below x.phase y.phase (y ∷ ys) less (omega arith, ry)))
    by (inr le) (inr ge) = omega (arith, le, ge)

heads_same : (p s : ℕ) (x : Call) (xs : List Call) (y : Call) (ys : List Call) → x.session ≡ s → y.session ≡ s → AreFrom x.phase xs → AreFrom y.phase ys → Agrees p (x ∷ xs) (y ∷ ys) → y ≡ x
heads_same p s x xs y ys sx sy rx ry a =
    let phase = phases_same p x xs y ys rx ry a in
    let f = head_front p (x ∷ xs) y ys a in
    let text = first_same x.text y.text (texts x.phase xs) (texts y.phase ys ++ f.rest) (sym (head_text x xs) ∙ ap (λ q. texts q (x ∷ xs)) (sym phase) ∙ f.is) in
    (λ i. record { phase = phase i; session = (sy ∙ sym sx) i; text = sym text i })

uncons : (q : ℕ) (c : Call) (us bs : List Call) → texts q (c ∷ us) ≡ texts q (c ∷ bs) → texts q us ≡ texts q bs
uncons q c us bs e = elim (cases_Bool (eqb c.phase q)) [
  | inl t ↦ let e2 : c.text ∷ texts q us ≡ c.text ∷ texts q bs = rw t at e in cc
  | inr f ↦ rw f at e
]

uncons_none : (q : ℕ) (c : Call) (us : List Call) → texts q (c ∷ us) ≡ [] → texts q us ≡ []
uncons_none q c us e = elim (cases_Bool (eqb c.phase q)) [
  | inl t ↦ not_none c.text (texts q us) (rw t at e)
  | inr f ↦ rw f at e
]

uncons_front : (q : ℕ) (c : Call) (us bs : List Call) → IsFront (texts q (c ∷ us)) (texts q (c ∷ bs)) → IsFront (texts q us) (texts q bs)
uncons_front q c us bs h = record { rest = h.rest; is = is_of (cases_Bool (eqb c.phase q)) h.is }
  where
    is_of : ((eqb c.phase q ≡ true) ⊎ (eqb c.phase q ≡ false)) → texts q (c ∷ bs) ≡ texts q (c ∷ us) ++ h.rest → texts q bs ≡ texts q us ++ h.rest
    is_of (inl t) e = (let e2 : c.text ∷ texts q bs ≡ c.text ∷ (texts q us ++ h.rest) = rw t at e in cc)
    is_of (inr f) e = rw f at e

rest_agrees : (p : ℕ) (c : Call) (xs ys : List Call) → Agrees p (c ∷ xs) (c ∷ ys) → Agrees p xs ys
rest_agrees p c xs ys a = record {
  past = λ q less. uncons q c ys xs (a.past q less);
  now = uncons_front p c ys xs a.now;
  later = λ q more. uncons_none q c ys (a.later q more);
}

pub parts : (p s : ℕ) (xs ys : List Call) → AreBy s xs → AreBy s ys → Rising xs → Rising ys → Agrees p xs ys → Parts p xs ys
parts p s xs [] bx by rx ry a = record { is = refl; low = tt; high = from_none p xs (λ q less. sym (a.past q less)) }
parts p s [] (y ∷ ys) bx by rx ry a = nothing_left p y ys a
parts p s (x ∷ xs) (y ∷ ys) bx by rx ry a =
    let same = heads_same p s x xs y ys bx.0 by.0 rx.0 ry.0 a in
    let ih = parts p s xs ys bx.1 by.1 rx.1 ry.1 (rest_agrees p x xs ys (subst (λ c. Agrees p (x ∷ xs) (c ∷ ys)) same a)) in
    record {
      is = λ i. same i ∷ ih.is i;
      low = (head_up p (x ∷ xs) y ys a, ih.low);
      high = ih.high;
    }
