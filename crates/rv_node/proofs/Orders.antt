-- Steps in an order, and bounds.
use Rattle.std.proofs.Common.{true, false, inl, inr, ◌≡◌, Option, Some, None, Bool}
use Rattle.std.proofs.lemmas.Bool.{cases_Bool, both_ways, true_from_ne_false}
use Rattle.std.specs.Cmp.{IsStrictWeakOrder}
use Rattle.rv_node.specs.Sound.{AtLeast, Above, Below}

module _ {E : Type 0} (lt : E → E → Bool) (o : IsStrictWeakOrder lt) where
  pub lt_le : (a b c : E) → lt a b ≡ true → lt c b ≡ false → lt a c ≡ true
  lt_le a b c l n = true_from_ne_false (lt a c) (λ m. both_ways (lt a b) (o.chain a c b m n) l)

  pub le_lt : (a b c : E) → lt b a ≡ false → lt b c ≡ true → lt a c ≡ true
  le_lt a b c n l = true_from_ne_false (lt a c) (λ m. both_ways (lt b c) (o.chain b a c n m) l)

  pub lt_trans : (a b c : E) → lt a b ≡ true → lt b c ≡ true → lt a c ≡ true
  lt_trans a b c l m = lt_le a b c l (o.one_way b c m)

  pub Below-weaker : (x k : E) (high : Option E) → lt x k ≡ true → Below lt k high → Below lt x high
  Below-weaker x k None l b = tt
  Below-weaker x k (Some h) l b = lt_trans x k h l b

  pub AtLeast-weaker : (x k : E) (low : Option E) → lt x k ≡ false → Above lt low k → AtLeast lt low x
  AtLeast-weaker x k None l b = tt
  AtLeast-weaker x k (Some w) l b = o.chain x k w l (o.one_way w k b)

  pub Above-more : (low : Option E) (k q : E) → Above lt low k → lt k q ≡ true → Above lt low q
  Above-more None k q a l = tt
  Above-more (Some w) k q a l = lt_trans w k q a l

  pub irrefl : (a : E) → lt a a ≡ false
  irrefl a = elim (cases_Bool (lt a a)) [ inl goes_on ↦ o.one_way a a goes_on | inr stops ↦ stops ]
