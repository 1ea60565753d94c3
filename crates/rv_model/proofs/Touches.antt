-- A commit that is written at changed rows takes no row number.
use Rattle.std.proofs.Common.{◌≡◌, ℕ, zero, suc, List, [], ◌∷◌, refl, ◌∙◌, slice_set, length-set}
use Rattle.rv_rows.specs.declared.changes.Change.{Change}
use Rattle.rv_model.specs.Transactions.{next_row, touch, touch_all, touched_in}

set_row : (touched : List (List ℕ)) (table row commit t : ℕ) → next_row (slice_set touched table (slice_set (touched_in touched table) row commit)) t ≡ next_row touched t
set_row [] table row commit t = refl
set_row (xs ∷ touched) zero row commit zero = length-set xs row commit
set_row (xs ∷ touched) zero row commit (suc t) = refl
set_row (xs ∷ touched) (suc table) row commit zero = refl
set_row (xs ∷ touched) (suc table) row commit (suc t) = set_row touched table row commit t

pub touch_all_same : (commit : ℕ) (cs : List Change) (touched : List (List ℕ)) (t : ℕ) → next_row (touch_all commit cs touched) t ≡ next_row touched t
touch_all_same commit [] touched t = refl
touch_all_same commit (c ∷ cs) touched t = touch_all_same commit cs (touch commit c touched) t ∙ set_row touched c.table c.row.0 commit t
