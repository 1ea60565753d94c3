-- The row numbers of tables, once one more was taken.
use Rattle.std.proofs.Common.{◌≡◌, ℕ, zero, suc, ◌+◌, ◌-◌, ◌<◌, ◌≤◌, List, [], ◌∷◌, ◌++◌, refl, ap, sym, ◌∙◌, arith, length, length-append, slice_set, nat_lt, inl, inr}
use Rattle.std.proofs.lemmas.Bool.{cases_Bool}
use Rattle.std.proofs.lemmas.Bool.Decides.{eqb_tells, nat_tests}
use Rattle.rv_model.specs.Transactions.{empty_lists, next_row, touched_in, with_number}

-- one more number of a table was taken, and no other
pub record TakesOne (table : ℕ) (old new : List (List ℕ)) : Type 0 where
  pub here : next_row new table ≡ next_row old table + 1
  pub others : (i : ℕ) → (i ≡ table → ⊥) → next_row new i ≡ next_row old i

set_here : (touched : List (List ℕ)) (table : ℕ) (xs : List ℕ) → table < length touched → touched_in (slice_set touched table xs) table ≡ xs
set_here [] table xs h = absurd (omega arith)
set_here (t ∷ ts) zero xs h = refl
set_here (t ∷ ts) (suc table) xs h = set_here ts table xs (omega arith)

set_other : (touched : List (List ℕ)) (table i : ℕ) (xs : List ℕ) → (i ≡ table → ⊥) → touched_in (slice_set touched table xs) i ≡ touched_in touched i
set_other [] table i xs h = refl
set_other (t ∷ ts) zero zero xs h = absurd (h refl)
set_other (t ∷ ts) zero (suc i) xs h = refl
set_other (t ∷ ts) (suc table) zero xs h = refl
set_other (t ∷ ts) (suc table) (suc i) xs h = set_other ts table i xs (λ e. h (ap (λ n. suc n) e))

new_here : (k : ℕ) → touched_in (empty_lists k ++ (0 ∷ []) ∷ []) k ≡ 0 ∷ []
new_here zero = refl
new_here (suc k) = new_here k

new_other : (k i : ℕ) → (i ≡ k → ⊥) → touched_in (empty_lists k ++ (0 ∷ []) ∷ []) i ≡ []
new_other zero zero h = absurd (h refl)
new_other zero (suc i) h = refl
new_other (suc k) zero h = refl
new_other (suc k) (suc i) h = new_other k i (λ e. h (ap (λ n. suc n) e))

past_here : (touched : List (List ℕ)) (k table : ℕ) → table ≡ length touched + k → touched_in (touched ++ empty_lists k ++ (0 ∷ []) ∷ []) table ≡ 0 ∷ []
past_here [] k table h = let e : table ≡ k = omega arith in rw e (new_here k)
past_here (t ∷ ts) k zero h = absurd (omega arith)
past_here (t ∷ ts) k (suc table) h = past_here ts k table (omega arith)

past_none : (touched : List (List ℕ)) (table : ℕ) → length touched ≤ table → touched_in touched table ≡ []
past_none [] table h = refl
past_none (t ∷ ts) zero h = absurd (omega arith)
past_none (t ∷ ts) (suc table) h = past_none ts table (omega arith)

past_other : (touched : List (List ℕ)) (k table i : ℕ) → table ≡ length touched + k → (i ≡ table → ⊥) → touched_in (touched ++ empty_lists k ++ (0 ∷ []) ∷ []) i ≡ touched_in touched i
past_other [] k table i h n = new_other k i (λ e. n (omega arith))
past_other (t ∷ ts) k zero i h n = absurd (omega arith)
past_other (t ∷ ts) k (suc table) zero h n = refl
past_other (t ∷ ts) k (suc table) (suc i) h n = past_other ts k table i (omega arith) (λ e. n (ap (λ n. suc n) e))

pub takes_one : (touched : List (List ℕ)) (table : ℕ) → TakesOne table touched (with_number touched table)
takes_one touched table = elim (cases_Bool (nat_lt table (length touched))) [
  | inl t ↦
      let within : table < length touched = grind (arith, nat_tests, t) in
      rw t (record {
        here = ap (λ (xs : List ℕ). length xs) (set_here touched table (touched_in touched table ++ 0 ∷ []) within) ∙ length-append (touched_in touched table) (0 ∷ []);
        others = λ i n. ap (λ (xs : List ℕ). length xs) (set_other touched table i (touched_in touched table ++ 0 ∷ []) n);
      })
  | inr f ↦
      let past : length touched ≤ table = grind (arith, nat_tests, f) in
      let at : table ≡ length touched + (table - length touched) = omega arith in
      let none = past_none touched table past in
      rw f (record {
        here = ap (λ (xs : List ℕ). length xs) (past_here touched (table - length touched) table at) ∙ sym (ap (λ (xs : List ℕ). length xs + 1) none);
        others = λ i n. ap (λ (xs : List ℕ). length xs) (past_other touched (table - length touched) table i at n);
      })
]

pub takes_more : (table : ℕ) (old new : List (List ℕ)) → TakesOne table old new → (i : ℕ) → next_row old i ≤ next_row new i
takes_more table old new one i = elim (eqb_tells i table) [
  | inl here ↦ let e : i ≡ table = here.1 in let h = one.here in rw e (omega arith)
  | inr other ↦ let e = one.others i other.1 in omega arith
]
