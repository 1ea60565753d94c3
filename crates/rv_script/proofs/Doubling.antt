-- Quotes are doubled, run by run.
use Rattle.std.proofs.Common.{◌≡◌, ℕ, suc, ◌<◌, ◌≤◌, ◌+◌, List, [], ◌∷◌, ◌++◌, Option, Some, None, Result, eqb, nat_lt, inl, inr, refl, sym, ap, subst, ◌∙◌, append_assoc, length, take, drop, arith}
use Rattle.std.specs.List.{position, position_or_len}
use Rattle.std.proofs.lemmas.Bool.{cases_Bool}
use Rattle.std.proofs.lemmas.Bool.Decides.{nat_tests}
use Rattle.rv_io.specs.declared.traits.Failed.{Failed}
use Rattle.rv_io.specs.Pieces.{Goes}
use Rattle.rv_io.proofs.Streams.{goes_then}
use Rattle.rv_lang.specs.Tokens.{quotes_twice}

abbrev quote : List ℕ → ℕ
quote xs = position_or_len (λ c. eqb c 39) xs

behind : (x : ℕ) (xs : List ℕ) (n : ℕ) → quotes_twice xs ≡ take n xs ++ 39 ∷ 39 ∷ quotes_twice (drop 1 (drop n xs)) → x ∷ quotes_twice xs ≡ take (1 + n) (x ∷ xs) ++ 39 ∷ 39 ∷ quotes_twice (drop 1 (drop (1 + n) (x ∷ xs)))
behind x xs n e = let next : 1 + n ≡ suc n = omega arith in rw next (ap (λ (t : List ℕ). x ∷ t) e)

-- The bytes up to the first quote stay as they are.
at_quote : (xs : List ℕ) → quote xs < length xs → quotes_twice xs ≡ take (quote xs) xs ++ 39 ∷ 39 ∷ quotes_twice (drop 1 (drop (quote xs) xs))
at_quote [] h = absurd (omega arith)
at_quote (x ∷ xs) h = elim (cases_Bool (eqb x 39)) [
  | inl t ↦ rw t refl
  | inr f ↦ let inside : quote xs < length xs = omega (arith, (rw f at h)) in rw f (behind x xs (quote xs) (at_quote xs inside))
]

-- Bytes without a quote stay as they are.
without : (xs : List ℕ) → length xs ≤ quote xs → quotes_twice xs ≡ xs
without [] h = refl
without (x ∷ xs) h = elim (cases_Bool (eqb x 39)) [
  | inl t ↦ let none : length (x ∷ xs) ≤ 0 = rw t at h in absurd (omega arith)
  | inr f ↦ let more : length xs ≤ quote xs = omega (arith, (rw f at h)) in rw f (ap (λ (t : List ℕ). x ∷ t) (without xs more))
]

pub record Cut (xs : List ℕ) (n : ℕ) : Type 0 where
  pub inside : n < length xs
  pub whole : quotes_twice xs ≡ take n xs ++ 39 ∷ 39 ∷ quotes_twice (drop 1 (drop n xs))

pub cut_at : (xs : List ℕ) (n : ℕ) → Some n ≡ position (λ c. eqb c 39) xs → Cut xs n
cut_at xs n e = elim (cases_Bool (nat_lt (quote xs) (length xs))) [
  | inl t ↦ let found : Some n ≡ Some (quote xs) = rw t at e in
      let same : n ≡ quote xs = cc in
      let inside : quote xs < length xs = grind (arith, nat_tests) in
      rw same (record { inside = inside; whole = at_quote xs inside })
  | inr f ↦ let none : Some n ≡ None = rw f at e in absurd cc
]

pub cut_nowhere : (xs : List ℕ) → None ≡ position (λ c. eqb c 39) xs → quotes_twice xs ≡ xs
cut_nowhere xs e = elim (cases_Bool (nat_lt (quote xs) (length xs))) [
  | inl t ↦ let found : None ≡ Some (quote xs) = rw t at e in absurd cc
  | inr f ↦ without xs (grind (arith, nat_tests))
]

-- What is written so far, and with what is left the whole.
pub record Told (sofar : Result (Unit {0}) Failed) (old now : Option (List ℕ)) (before after : ℕ) (written : Result (Unit {0}) Failed) (bytes rest : List ℕ) : Type 0 where
  pub front : List ℕ
  pub goes : Goes sofar old now before after written front
  pub whole : front ++ quotes_twice rest ≡ quotes_twice bytes

pub told_more : {s w r t : Result (Unit {0}) Failed} {a b c d : Option (List ℕ)} {i j k l : ℕ} {bytes rest : List ℕ} {n : ℕ} → Cut rest n → Told s a b i j w bytes rest → Goes w b c j k r (take n rest) → Goes r c d k l t (39 ∷ 39 ∷ []) → Told s a d i l t bytes (drop 1 (drop n rest))
told_more {rest} {n} cut told run quotes = record {
  front = told.front ++ (take n rest ++ 39 ∷ 39 ∷ []);
  goes = goes_then told.goes (goes_then run quotes);
  whole = append_assoc told.front (take n rest ++ 39 ∷ 39 ∷ []) (quotes_twice (drop 1 (drop n rest)))
      ∙ ap (λ (t : List ℕ). told.front ++ t) (append_assoc (take n rest) (39 ∷ 39 ∷ []) (quotes_twice (drop 1 (drop n rest))) ∙ sym cut.whole)
      ∙ told.whole;
}

pub told_all : {s w t : Result (Unit {0}) Failed} {a b c : Option (List ℕ)} {i j k : ℕ} {bytes rest : List ℕ} → quotes_twice rest ≡ rest → Told s a b i j w bytes rest → Goes w b c j k t rest → Goes s a c i k t (quotes_twice bytes)
told_all {s} {w} {t} {a} {b} {c} {i} {j} {k} {bytes} {rest} none told last =
    subst (λ x. Goes s a c i k t x) (sym (ap (λ (x : List ℕ). told.front ++ x) none) ∙ told.whole) (goes_then told.goes last)
