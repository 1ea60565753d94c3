-- A descent goes on in a child.
use Rattle.std.proofs.Common.{ℕ, zero, suc, true, false, inl, inr, ◌<◌, ◌≡◌, List, [], ◌∷◌, Option, Some, Bool, cond, refl, arith, length, drop, get_or}
use Rattle.std.proofs.lemmas.Bool.{cases_Bool}
use Rattle.rv_node.specs.Descent.{child_from, child_in, descend, descend_from}
use Rattle.rv_node.specs.Stored.{kids_at, EachOf}

pub child_from-stops : {E : Type 0} (goes : E → Bool) (id : ℕ) (lows : List E) (ids : List ℕ) (next : Option E) (at : ℕ) (d : E) → length lows ≡ length ids → at < length lows → goes (get_or lows at d) ≡ false
    → child_from goes id (drop at lows) (drop at ids) next ≡ (id, Some (get_or lows at d))
child_from-stops goes id [] ids next at d same l stops = absurd (omega arith)
child_from-stops goes id (low ∷ lows) [] next at d same l stops = absurd (omega arith)
child_from-stops goes id (low ∷ lows) (kid ∷ kids) next zero d same l stops = rw stops refl
child_from-stops goes id (low ∷ lows) (kid ∷ kids) next (suc at) d same l stops = child_from-stops goes id lows kids next at d (omega arith) (omega arith) stops

descend_from-child : {E T X : Type 0} (goes : E → Bool) (g : T → Option E → X) (h : ℕ → T) (id : ℕ) (lows : List E) (ids : List ℕ) (next : Option E) → length lows ≡ length ids
    → descend_from goes g (h id) (kids_at h lows ids) next ≡ g (h (child_from goes id lows ids next).0) (child_from goes id lows ids next).1
descend_from-child goes g h id [] ids next same = refl
descend_from-child goes g h id (low ∷ lows) [] next same = refl
descend_from-child goes g h id (low ∷ lows) (kid ∷ kids) next same = elim (cases_Bool (goes low)) [
  | inl goes_on ↦ rw goes_on (descend_from-child goes g h kid lows kids next (omega arith))
  | inr stops ↦ rw stops refl
]

-- a descent goes on in the child that was found
pub descend-child : {E T X : Type 0} (goes : E → Bool) (g : T → Option E → X) (none : X) (h : ℕ → T) (lows : List E) (ids : List ℕ) (next : Option E) → length lows ≡ length ids → 0 < length ids
    → descend goes g none (kids_at h lows ids) next ≡ g (h (child_in goes lows ids next).0) (child_in goes lows ids next).1
descend-child goes g none h [] [] next same some = absurd (omega arith)
descend-child goes g none h [] (id ∷ ids) next same some = absurd (omega arith)
descend-child goes g none h (low ∷ lows) [] next same some = absurd (omega arith)
descend-child goes g none h (low ∷ lows) (id ∷ ids) next same some = descend_from-child goes g h id lows ids next (omega arith)

each_from : {E : Type 0} (P : ℕ → Type 0) (goes : E → Bool) (id : ℕ) (lows : List E) (ids : List ℕ) (next : Option E) → P id → EachOf P ids → P (child_from goes id lows ids next).0
each_from P goes id [] ids next here all = here
each_from P goes id (low ∷ lows) [] next here all = here
each_from P goes id (low ∷ lows) (kid ∷ kids) next here all = elim (goes low) as (λ b. P (cond b (child_from goes kid lows kids next) (id, Some low)).0) [
  | true ↦ each_from P goes kid lows kids next all.0 all.1
  | false ↦ here
]

-- what holds of each child holds of the one that was found
pub each_child : {E : Type 0} (P : ℕ → Type 0) (goes : E → Bool) (lows : List E) (ids : List ℕ) (next : Option E) → length lows ≡ length ids → 0 < length ids → EachOf P ids → P (child_in goes lows ids next).0
each_child P goes [] [] next same some all = absurd (omega arith)
each_child P goes [] (id ∷ ids) next same some all = absurd (omega arith)
each_child P goes (low ∷ lows) [] next same some all = absurd (omega arith)
each_child P goes (low ∷ lows) (id ∷ ids) next same some all = each_from P goes id lows ids next all.0 all.1
