-- The pages of a table one after another are its rows.
use Rattle.std.proofs.Common.{◌≡◌, ℕ, ◌+◌, ◌*◌, ◌/◌, ◌<◌, ◌≤◌, List, [], ◌∷◌, ◌++◌, Bool, true, false, not, ◌&&◌, ◌==◌, refl, ap, sym, ◌∙◌, subst, arith, filter, nat_lt}
use Rattle.std.specs.List.{AllByRecursion}
use Rattle.std.proofs.lemmas.Bool.Decides.{nat_tests}
use Rattle.std.proofs.lemmas.List.Elements.{filter-append, filter_agree}
use Rattle.rv_value.specs.declared.record.Record.{Record}
use Rattle.rv_rows.specs.Rows.{Ascend, comes_below}
use Rattle.rv_rows.proofs.Filters.{rising_cut}
use Rattle.rv_judge.specs.declared.counting.Counts.{Counts}
use Rattle.rv_judge.specs.Counting.{one_more, page_read}
use Rattle.rv_reader.specs.Tables.{page_of}
use Rattle.rv_txn.specs.Changing.{OnlyPages}

-- the rows of the first pages
abbrev pub rows_up_to : ℕ → List Record → List Record
rows_up_to n rows = filter (λ (r : Record). nat_lt r.row.0 (32 * n)) rows

pub none_up_to : (rows : List Record) → rows_up_to 0 rows ≡ []
none_up_to [] = refl
none_up_to (r ∷ rows) = let here : nat_lt r.row.0 (32 * 0) ≡ false = grind (arith, nat_tests) in rw here (none_up_to rows)

pub all_up_to : (n pages : ℕ) (rows : List Record) → pages ≤ n → AllByRecursion (λ (r : Record). r.row.0 < 32 * pages) rows → rows_up_to n rows ≡ rows
all_up_to n pages [] h all = refl
all_up_to n pages (r ∷ rows) h all =
    let low = all.0 in
    let here : nat_lt r.row.0 (32 * n) ≡ true = grind (arith, nat_tests) in
    rw here (ap (λ rs. r ∷ rs) (all_up_to n pages rows h all.1))

pub page_more : (n : ℕ) (rows : List Record) → Ascend rows → rows_up_to (n + 1) rows ≡ rows_up_to n rows ++ page_of rows n
page_more n rows ascend =
    let cut = rising_cut comes_below (λ (r : Record). nat_lt r.row.0 (32 * (n + 1))) (λ (r : Record). nat_lt r.row.0 (32 * n)) (λ x y h f. let first = h in let second = f in grind (arith, nat_tests)) rows ascend in
    let front = filter_agree (λ (r : Record). nat_lt r.row.0 (32 * (n + 1)) && nat_lt r.row.0 (32 * n)) (λ (r : Record). nat_lt r.row.0 (32 * n)) (λ r. grind (arith, nat_tests)) rows in
    let back = filter_agree (λ (r : Record). nat_lt r.row.0 (32 * (n + 1)) && not (nat_lt r.row.0 (32 * n))) (λ (r : Record). r.row.0 / 32 == n) (λ r. grind (arith, nat_tests)) rows in
    cut ∙ (λ i. front i ++ back i)

-- One page more of the rows that a test passes.
pub kept_more : (q : Record → Bool) (n : ℕ) (rows kept page new : List Record) → Ascend rows → kept ≡ filter q (rows_up_to n rows) → page ≡ page_of rows n → new ≡ kept ++ filter q page → new ≡ filter q (rows_up_to (n + 1) rows)
kept_more q n rows kept page new ascend told here more =
    rw (more, told, here, page_more n rows ascend) (sym (filter-append q (rows_up_to n rows) (page_of rows n)))

-- What is counted of the first pages.

pub pages_none : (c : Counts) → OnlyPages 0 c c
pages_none c = record { pages = omega arith; leaves = refl; records = refl }

one_page : (n was have : ℕ) → have ≤ was + n → one_more have ≤ was + (n + 1)
one_page n was have few = omega (arith, few)

pub pages_more : (n : ℕ) (first c d : Counts) → OnlyPages n first c → d ≡ page_read c → OnlyPages (n + 1) first d
pages_more n first c d only read = subst (λ (x : Counts). OnlyPages (n + 1) first x) (sym read) (record { pages = one_page n first.pages c.pages only.pages; leaves = only.leaves; records = only.records })

pub pages_within : (n most : ℕ) (c d : Counts) → n ≤ most → OnlyPages n c d → OnlyPages most c d
pages_within n most c d low only = record { pages = more n most c.pages d.pages low only.pages; leaves = only.leaves; records = only.records }
  where
    more : (n most was have : ℕ) → n ≤ most → have ≤ was + n → have ≤ was + most
    more n most was have low few = omega (arith, low, few)
