-- Lists of passes.
use Rattle.std.proofs.Common.{◌≡◌, ◌∷◌, List, All, subst, arith}

pub all_first : {X : Type 0} (P : X → Type 0) (l xs : List X) (x : X) → All P l → l ≡ x ∷ xs → P x
all_first P l xs x h e = subst (λ (m : List _). All P m) e h 0 x (omega arith)
