-- Keys that fall from push to push, as the program has them.
use Rattle.std.proofs.Common.{◌≡◌, ℕ, ◌+◌, ◌<◌, ◌++◌, ◌∷◌, [], ◌||◌, List, nat_eq, false, refl, ◌∙◌, arith}
use Rattle.std.proofs.lemmas.Bool.{or_from, ne_eqb}
use Rattle.std.proofs.lemmas.List.Folds.{list_any-append}
use Rattle.rv_keylist.specs.Keys.{has_key}

pub record IsFrom (low : ℕ) (keys : List ℕ) : Type 0 where
  pub none_below : (row : ℕ) → row < low → has_key row keys ≡ false

pub IsFrom-nil : (low : ℕ) → IsFrom low []
IsFrom-nil low = record { none_below = λ row below. refl }

pub IsFrom-push : (low key : ℕ) (keys : List ℕ) → IsFrom low keys → key + 1 ≡ low → IsFrom key (keys ++ key ∷ [])
IsFrom-push low key keys from next = record {
  none_below = λ row below.
      list_any-append (nat_eq row) keys (key ∷ [])
      ∙ or_from (has_key row keys) (nat_eq row key || false) (from.none_below row (omega arith))
      (or_from (nat_eq row key) false (ne_eqb row key (λ same. omega arith)) refl);
}
