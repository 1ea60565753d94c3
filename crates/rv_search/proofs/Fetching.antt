-- The rows of numbers that were found are the rows that were looked for.
use Rattle.std.proofs.Common.{◌≡◌, ◌==◌, List, [], ◌∷◌, ◌++◌, Bool, true, false, cond, Option, Some, None, refl, ap, ◌∙◌, arith, filter, nat_lt, ℕ}
use Rattle.std.specs.List.{list_all}
use Rattle.std.proofs.lemmas.Bool.Decides.{nat_tests}
use Rattle.std.proofs.lemmas.Bool.{and_parts}
use Rattle.rv_value.specs.declared.record.Record.{Record}
use Rattle.rv_value.specs.declared.record.RowNo.{RowNo}
use Rattle.rv_rows.specs.Rows.{Ascend, comes_below}
use Rattle.rv_rows.proofs.Filters.{all_filter}
use Rattle.rv_reader.specs.Tables.{row_at}
use Rattle.rv_search.specs.Searching.{numbers, rows_of, with_found}

found_front : (o : Option Record) (rows : List Record) → with_found o rows ≡ with_found o [] ++ rows
found_front None rows = refl
found_front (Some r) rows = refl

-- one number more
pub rows_next : (all : List Record) (n : RowNo) (ns : List RowNo) → rows_of all (n ∷ ns) ≡ rows_of all (n ∷ []) ++ rows_of all ns
rows_next all n ns = found_front (row_at all n.0) (rows_of all ns)

here : (r : Record) (rows : List Record) → row_at (r ∷ rows) r.row.0 ≡ Some r
here r rows =
    let same : r.row.0 == r.row.0 ≡ true = grind (arith, nat_tests) in
    rw same refl

not_here : (r : Record) (rows : List Record) (n : ℕ) → nat_lt r.row.0 n ≡ true → row_at (r ∷ rows) n ≡ row_at rows n
not_here r rows n low =
    let other : r.row.0 == n ≡ false = grind (arith, nat_tests) in
    rw other refl

-- rows behind the first one are found among the others
passed : (r : Record) (rows xs : List Record) → list_all (comes_below r) xs ≡ true → rows_of (r ∷ rows) (numbers xs) ≡ rows_of rows (numbers xs)
passed r rows [] all = refl
passed r rows (x ∷ xs) all =
    let parts = and_parts (comes_below r x) (list_all (comes_below r) xs) all in
    ap (λ (o : Option Record). with_found o (rows_of (r ∷ rows) (numbers xs))) (not_here r rows x.row.0 parts.0)
    ∙ ap (with_found (row_at rows x.row.0)) (passed r rows xs parts.1)

pub found_again : (p : Record → Bool) (rows : List Record) → Ascend rows → rows_of rows (numbers (filter p rows)) ≡ filter p rows
found_again p [] ascend = refl
found_again p (r ∷ rows) ascend =
    let rest = passed r rows (filter p rows) (all_filter (comes_below r) p rows ascend.0) ∙ found_again p rows ascend.1 in
    elim (p r) as (λ b. rows_of (r ∷ rows) (numbers (cond b (r ∷ filter p rows) (filter p rows))) ≡ cond b (r ∷ filter p rows) (filter p rows)) [
      | true ↦
          ap (λ (o : Option Record). with_found o (rows_of (r ∷ rows) (numbers (filter p rows)))) (here r rows)
          ∙ ap (λ l. r ∷ l) rest
      | false ↦ rest
    ]
