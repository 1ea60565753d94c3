-- A row put among others.
use Rattle.std.proofs.Common.{◌≡◌, ℕ, ◌<◌, List, [], ◌∷◌, ◌++◌, true, false, not, zero, suc, refl, ap, sym, ◌∙◌, arith, length, filter, take, drop}
use Rattle.std.specs.List.{insert, slice_set}
use Rattle.rv_value.specs.declared.record.Record.{Record}
use Rattle.rv_rows.specs.Rows.{Ascend, with_record}
use Rattle.rv_rows.specs.Merging.{above, below, begins, past}
use Rattle.rv_rows.proofs.Merges.{past_is}

pub set_is : {X : Type 0} (xs : List X) (i : ℕ) (x : X) → i < length xs → slice_set xs i x ≡ take i xs ++ x ∷ drop 1 (drop i xs)
set_is [] i x h = absurd (omega arith)
set_is (y ∷ ys) zero x h = refl
set_is (y ∷ ys) (suc i) x h = ap (λ zs. y ∷ zs) (set_is ys i x (omega arith))

-- something stands in a place where the rows from there on begin
inside : (number : ℕ) (rows : List Record) (i : ℕ) → begins number (drop i rows) ≡ true → i < length rows
inside number [] zero h = absurd cc
inside number [] (suc i) h = absurd cc
inside number (r ∷ rows) zero h = omega arith
inside number (r ∷ rows) (suc i) h = let rest = inside number rows i h in omega arith

past_first : (number : ℕ) (rows : List Record) → begins number rows ≡ true → past number rows ≡ drop 1 rows
past_first number [] h = absurd cc
past_first number (r ∷ rows) h = rw h refl

past_none : (number : ℕ) (rows : List Record) → begins number rows ≡ false → past number rows ≡ rows
past_none number [] h = refl
past_none number (r ∷ rows) h = rw h refl

-- The place of a row among others.
pub record IsPlace (number : ℕ) (rows : List Record) (place : ℕ) : Type 0 where
  pub front : take place rows ≡ filter (below number) rows
  pub back : drop place rows ≡ filter (λ (r : Record). not (below number r)) rows
  pub ascend : Ascend rows

behind : {number : ℕ} {rows : List Record} {place : ℕ} → IsPlace number rows place → past number (drop place rows) ≡ filter (above number) rows
behind {number} {rows} {place} p = ap (past number) p.back ∙ past_is number rows p.ascend

pub set_among : (new : Record) (rows : List Record) (place : ℕ) → IsPlace new.row.0 rows place → begins new.row.0 (drop place rows) ≡ true → slice_set rows place new ≡ with_record new rows
set_among new rows place p h =
    let within = inside new.row.0 rows place h in
    let rest : drop 1 (drop place rows) ≡ filter (above new.row.0) rows = sym (past_first new.row.0 (drop place rows) h) ∙ behind p in
    set_is rows place new within ∙ ap (λ xs. xs ++ new ∷ drop 1 (drop place rows)) p.front ∙ ap (λ xs. filter (below new.row.0) rows ++ new ∷ xs) rest

pub inserted_among : (new : Record) (rows : List Record) (place : ℕ) → IsPlace new.row.0 rows place → begins new.row.0 (drop place rows) ≡ false → insert rows place new ≡ with_record new rows
inserted_among new rows place p h =
    let rest : drop place rows ≡ filter (above new.row.0) rows = sym (past_none new.row.0 (drop place rows) h) ∙ behind p in
    ap (λ xs. xs ++ new ∷ drop place rows) p.front ∙ ap (λ xs. filter (below new.row.0) rows ++ new ∷ xs) rest
