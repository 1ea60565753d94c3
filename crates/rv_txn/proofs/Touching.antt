-- Row numbers of tables.
use Rattle.std.proofs.Common.{◌≡◌, ℕ, zero, suc, ◌+◌, ◌∷◌, ◌++◌, [], refl, ap, arith}
use Rattle.rv_model.specs.Transactions.{empty_lists}

pub untouched_more : (n : ℕ) → empty_lists n ++ [] ∷ [] ≡ empty_lists (n + 1)
untouched_more zero = refl
untouched_more (suc n) = let e : suc n + 1 ≡ suc (n + 1) = omega arith in rw e (ap (λ xs. [] ∷ xs) (untouched_more n))
