-- Pages one after another are all rows, and leaves one after another a whole run.
use Rattle.std.proofs.Common.{◌≡◌, ℕ, ◌<◌, ◌≤◌, ◌+◌, ◌*◌, ◌/◌, List, [], ◌∷◌, ◌++◌, true, false, not, ◌&&◌, ◌==◌, Option, Some, None, IfSome, sym, ap, ◌∙◌, arith, length, refl, filter, nat_lt, append_assoc, append-nil}
use Rattle.std.proofs.lemmas.Bool.Decides.{nat_tests}
use Rattle.std.proofs.lemmas.Grind.{flat_map-append}
use Rattle.std.specs.List.{AllByRecursion, flat_map}
use Rattle.std.proofs.lemmas.List.Elements.{filter_agree}
use Rattle.rv_value.specs.declared.record.Record.{Record}
use Rattle.rv_value.specs.declared.record.IndexEntry.{IndexEntry}
use Rattle.rv_value.specs.declared.range.Bound.{Bound}
use Rattle.rv_value.specs.declared.range.Range.{Range}
use Rattle.rv_rows.specs.Rows.{Ascend, comes_below}
use Rattle.rv_reader.specs.Leaves.{run_from, run_after}
use Rattle.rv_reader.specs.Shown.{Shown, CanScan, Suits}
use Rattle.rv_reader.specs.Storing.{IsStored}
use Rattle.rv_reader.specs.Tables.{page_of}
use Rattle.rv_reader.proofs.Filters.{rising_cut}
use Rattle.rv_reader.proofs.Suiting.{suits_store}
use Rattle.rv_loading.specs.Laid.{IsNarrow}

-- the rows in the first pages
abbrev pub first_rows : ℕ → List Record → List Record
first_rows pages rows = filter (λ (r : Record). nat_lt r.row.0 (32 * pages)) rows

pub next_page : (page : ℕ) (rows : List Record) → Ascend rows → first_rows page rows ++ page_of rows page ≡ first_rows (page + 1) rows
next_page page rows ascend =
    let cut = rising_cut comes_below (λ (r : Record). nat_lt r.row.0 (32 * (page + 1))) (λ (r : Record). nat_lt r.row.0 (32 * page)) (λ x y h f. let first = h in let second = f in grind (arith, nat_tests)) rows ascend in
    let front = filter_agree (λ (r : Record). nat_lt r.row.0 (32 * (page + 1)) && nat_lt r.row.0 (32 * page)) (λ (r : Record). nat_lt r.row.0 (32 * page)) (λ r. grind (arith, nat_tests)) rows in
    let back = filter_agree (λ (r : Record). nat_lt r.row.0 (32 * (page + 1)) && not (nat_lt r.row.0 (32 * page))) (λ (r : Record). r.row.0 / 32 == page) (λ r. grind (arith, nat_tests)) rows in
    sym (cut ∙ (λ i. front i ++ back i))

pub no_pages : (rows : List Record) → first_rows 0 rows ≡ []
no_pages [] = refl
no_pages (r ∷ rows) = let here : nat_lt r.row.0 (32 * 0) ≡ false = grind (arith, nat_tests) in rw here (no_pages rows)

pub all_pages : (pages page : ℕ) (rows : List Record) → pages ≤ page → AllByRecursion (λ (r : Record). r.row.0 < 32 * pages) rows → first_rows page rows ≡ rows
all_pages pages page [] past all = refl
all_pages pages page (r ∷ rows) past all =
    let low = all.0 in
    let here : nat_lt r.row.0 (32 * page) ≡ true = grind (arith, nat_tests) in
    rw here (ap (λ rs. r ∷ rs) (all_pages pages page rows past all.1))

-- the entries of leaves, one after another
abbrev pub joined : List (List IndexEntry) → List IndexEntry
joined leaves = flat_map (λ leaf. leaf) leaves

pub suits_narrow : (shown : Shown) (index snap : ℕ) (range : Range) → IsStored shown → CanScan shown index snap → IsNarrow range → Suits shown index snap range
suits_narrow shown index snap range stored can narrow =
    let over = stored.over index can.there in
    let some = over.columns.some in
    let wide : (bound : Option Bound) → IfSome bound (λ b. length b.key ≤ 1) → IfSome bound (λ b. length b.key ≤ length (shown.keys index)) = wider (length (shown.keys index)) some in
    suits_store shown index snap range stored can (wide range.low narrow.low) (wide range.high narrow.high)
  where
    wider : (n : ℕ) → 1 ≤ n → (bound : Option Bound) → IfSome bound (λ b. length b.key ≤ 1) → IfSome bound (λ b. length b.key ≤ n)
    wider n l None short = tt
    wider n l (Some b) short = omega arith

pub leaf_more : (leaves : List (List IndexEntry)) (leaf : List IndexEntry) → joined (leaves ++ leaf ∷ []) ≡ joined leaves ++ leaf
leaf_more leaves leaf = flat_map-append (λ x. x) leaves (leaf ∷ []) ∙ ap (λ es. joined leaves ++ es) (append-nil leaf)

-- one more leaf of a run, with a following one or without
pub leaf_read : (entries : List IndexEntry) (range : Range) (start next : Option IndexEntry) (leaves : List (List IndexEntry)) (leaf all : List IndexEntry) → joined leaves ++ run_from entries range start ≡ all → run_from entries range start ≡ leaf ++ run_after entries range next → joined (leaves ++ leaf ∷ []) ++ run_after entries range next ≡ all
leaf_read entries range start next leaves leaf all so_far parts =
    ap (λ es. es ++ run_after entries range next) (leaf_more leaves leaf) ∙ append_assoc (joined leaves) leaf (run_after entries range next) ∙ ap (λ es. joined leaves ++ es) (sym parts) ∙ so_far
