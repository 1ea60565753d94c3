-- Open cursors have ascending numbers, and are few.
use Rattle.std.proofs.Common.{◌≡◌, ℕ, zero, suc, ◌+◌, ◌<◌, ◌≤◌, List, [], ◌∷◌, ◌++◌, ◌∙◌, sym, ap, arith, Bool, filter, inl, inr, length, remove, slice_set, slice_get, Some}
use Rattle.std.proofs.lemmas.Bool.{cases_Bool}
use Rattle.std.proofs.lemmas.Grind.{common_steps}
use Rattle.rv_value.proofs.Lists.{all_append, all_filter, all_got, all_remove, all_set}
use Rattle.rv_cursor.specs.declared.cursor.Open.{Open}
use Rattle.rv_core.specs.Db.{AreListed, AreNumbered, own_opens}
use Rattle.rv_core.proofs.Few.{few_all, few_filter, few_push, few_remove, few_set}

lower : (low less high : ℕ) (cs : List Open) → less ≤ low → AreNumbered low high cs → AreNumbered less high cs
lower low less high [] h n = omega (arith, h, n)
lower low less high (c ∷ cs) h n = (omega (arith, h, n.0), n.1)

pub numbered_push : (low high : ℕ) (cs : List Open) (c : Open) → c.number ≡ high → AreNumbered low high cs → AreNumbered low (high + 1) (cs ++ c ∷ [])
numbered_push low high [] c at n = (omega (arith, at, n), omega (arith, at))
numbered_push low high (d ∷ ds) c at n = (n.0, numbered_push (d.number + 1) high ds c at n.1)

pub numbered_filter : (p : Open → Bool) (low high : ℕ) (cs : List Open) → AreNumbered low high cs → AreNumbered low high (filter p cs)
numbered_filter p low high [] n = n
numbered_filter p low high (c ∷ cs) n =
    let rest = numbered_filter p (c.number + 1) high cs n.1 in
    elim (cases_Bool (p c)) [
      | inl t ↦ rw t (n.0, rest)
      | inr f ↦ let first = n.0 in rw f (lower (c.number + 1) low high (filter p cs) (omega (arith, first)) rest)
    ]

none_left : (i : ℕ) → ◌≡◌ {A = List Open} (remove [] i) []
none_left i = grind (arith, common_steps)

pub numbered_remove : (low high : ℕ) (cs : List Open) (i : ℕ) → AreNumbered low high cs → AreNumbered low high (remove cs i)
numbered_remove low high [] i n = rw (none_left i) n
numbered_remove low high (c ∷ cs) zero n = let first = n.0 in lower (c.number + 1) low high cs (omega (arith, first)) n.1
numbered_remove low high (c ∷ cs) (suc i) n = (n.0, numbered_remove (c.number + 1) high cs i n.1)

-- another cursor of the same number
pub numbered_set : (low high : ℕ) (cs : List Open) (i : ℕ) (c new : Open) → slice_get cs i ≡ Some c → new.number ≡ c.number → AreNumbered low high cs → AreNumbered low high (slice_set cs i new)
numbered_set low high [] i c new at same n = n
numbered_set low high (d ∷ ds) zero c new at same n =
    let e : d ≡ c = cc in
    let number : new.number ≡ d.number = same ∙ ap (λ (o : Open). o.number) (sym e) in
    rw number n
numbered_set low high (d ∷ ds) (suc i) c new at same n = (n.0, numbered_set (d.number + 1) high ds i c new at same n.1)

abbrev owner : Open → ℕ
owner c = c.session

pub none_listed : AreListed 1 []
none_listed = record { numbers = omega arith; few = λ session. omega arith; sessions = tt }

pub listed_push : (n : ℕ) (cs : List Open) (c : Open) → c.number ≡ n → c.session < 256 → length (own_opens cs c.session) < 16 → AreListed n cs → AreListed (n + 1) (cs ++ c ∷ [])
listed_push n cs c at own room h = record {
  numbers = numbered_push 1 n cs c at h.numbers;
  few = few_push owner 16 cs c room h.few;
  sessions = all_append (λ (d : Open). d.session < 256) cs (c ∷ []) h.sessions (own, tt);
}

pub listed_filter : (p : Open → Bool) (n : ℕ) (cs : List Open) → AreListed n cs → AreListed n (filter p cs)
listed_filter p n cs h = record {
  numbers = numbered_filter p 1 n cs h.numbers;
  few = few_filter owner 16 p cs h.few;
  sessions = all_filter (λ (d : Open). d.session < 256) p cs h.sessions;
}

pub listed_remove : (n : ℕ) (cs : List Open) (i : ℕ) → AreListed n cs → AreListed n (remove cs i)
listed_remove n cs i h = record {
  numbers = numbered_remove 1 n cs i h.numbers;
  few = few_remove owner 16 cs i h.few;
  sessions = all_remove (λ (d : Open). d.session < 256) cs i h.sessions;
}

-- another cursor of the same number and session
pub listed_set : (n : ℕ) (cs : List Open) (i : ℕ) (c new : Open) → slice_get cs i ≡ Some c → new.number ≡ c.number → new.session ≡ c.session → AreListed n cs → AreListed n (slice_set cs i new)
listed_set n cs i c new at same own h = record {
  numbers = numbered_set 1 n cs i c new at same h.numbers;
  few = λ session. let e = few_set owner cs i c new at own session in let f = h.few session in omega (arith, e, f);
  sessions = all_set (λ (d : Open). d.session < 256) cs i new h.sessions (let b = all_got (λ (d : Open). d.session < 256) cs i c h.sessions at in omega (arith, own, b));
}

-- there are few in all
pub listed_few : (n : ℕ) (cs : List Open) → AreListed n cs → length cs ≤ 4096
listed_few n cs h = let e = few_all owner 16 256 cs h.sessions h.few in omega (arith, e)
