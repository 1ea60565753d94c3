-- Rows that are owed.
use Rattle.std.proofs.Common.{◌≡◌, ℕ, List, [], ◌∷◌, Bool, true, false, ◌&&◌, ◌||◌, cond, refl, ap, nat_eq}
use Rattle.rv_value.specs.declared.record.Record.{Record}
use Rattle.rv_restrict.specs.declared.atom.Atom.{Atom}
use Rattle.rv_restrict.specs.Truth.{qualifies}
use Rattle.rv_final.specs.Rest.{has_row, qualifies_at, qualifying, rest_by}

pub all_qualifying : (only : List (List Atom)) (rows : List Record) → rest_by (λ n. true) only rows ≡ qualifying only rows
all_qualifying only [] = refl
all_qualifying only (r ∷ rows) = elim (qualifies only r.values) as (λ b. cond (b && true) (r ∷ rest_by (λ n. true) only rows) (rest_by (λ n. true) only rows) ≡ cond b (r ∷ qualifying only rows) (qualifying only rows)) [
  | true ↦ ap (λ (rs : List Record). r ∷ rs) (all_qualifying only rows)
  | false ↦ all_qualifying only rows
]

pub row_there : (only : List (List Atom)) (rows : List Record) (n : ℕ) → qualifies_at only rows n ≡ true → has_row n rows ≡ true
row_there only [] n q = q
row_there only (r ∷ rows) n q = either (nat_eq n r.row.0) (qualifies only r.values) (qualifies_at only rows n) (has_row n rows) q (row_there only rows n)
  where
    either : (a b c d : Bool) → ((a && b) || c) ≡ true → (c ≡ true → d ≡ true) → (a || d) ≡ true
    either true b c d h f = refl
    either false b c d h f = f h
