-- The rows from a page on are that page, and the rows from the next one on.
use Rattle.std.proofs.Common.{◌≡◌, ℕ, ◌+◌, ◌*◌, ◌/◌, ◌<◌, ◌≤◌, List, [], ◌∷◌, ◌++◌, true, false, not, ◌&&◌, ◌==◌, refl, ap, sym, ◌∙◌, arith, length, zero, suc, drop, nat_le, nat_lt, subst, length-append, Some, Result, Ok, Err, IfOk, OnErr}
use Rattle.std.proofs.Math.Seq.{drop-drop, drop-append_seam}
use Rattle.std.proofs.lemmas.Bool.Decides.{nat_tests}
use Rattle.std.proofs.lemmas.List.Folds.{list_all-append}
use Rattle.std.proofs.lemmas.List.Elements.{filter-append, filter_agree}
use Rattle.std.specs.List.{AllByRecursion, slice_index_or}
use Rattle.std.proofs.lemmas.Bool.{and_parts}
use Rattle.std.proofs.lemmas.List.{drop-append-le}
use Rattle.rv_scan.proofs.Fetches.{length_drop}
use Rattle.rv_value.specs.declared.record.Record.{Record}
use Rattle.rv_rows.specs.Rows.{Ascend, comes_below}
use Rattle.rv_restrict.specs.declared.atom.Atom.{Atom}
use Rattle.rv_reader.specs.Tables.{page_of, IsTable}
use Rattle.rv_reader.proofs.Filters.{rising_cut}
use Rattle.rv_reader.specs.declared.step.Step.{Step}
use Rattle.rv_reader.specs.declared.step.Step.TheVariants.{Row, Working, End}
use Rattle.rv_scan.specs.Due.{Skipped, is_due, due, FindsDue, HaveColumns, StepsTo}
use Rattle.rv_scan.specs.Places.{PageTurns, Place, Turns, rows_from, Fits, rest, work}

pub split_page : (page : ℕ) (rows : List Record) → Ascend rows → rows_from rows page ≡ page_of rows page ++ rows_from rows (page + 1)
split_page page rows ascend =
    let cut = rising_cut comes_below (λ (r : Record). nat_le (32 * page) r.row.0) (λ (r : Record). nat_lt r.row.0 (32 * page + 32)) (λ x y h f. let first = h in let second = f in grind (arith, nat_tests)) rows ascend in
    let front = filter_agree (λ (r : Record). nat_le (32 * page) r.row.0 && nat_lt r.row.0 (32 * page + 32)) (λ (r : Record). r.row.0 / 32 == page) (λ r. grind (arith, nat_tests)) rows in
    let back = filter_agree (λ (r : Record). nat_le (32 * page) r.row.0 && not (nat_lt r.row.0 (32 * page + 32))) (λ (r : Record). nat_le (32 * (page + 1)) r.row.0) (λ r. grind (arith, nat_tests)) rows in
    cut ∙ (λ i. front i ++ back i)

pub none_from : (page pages : ℕ) (rows : List Record) → AllByRecursion (λ (r : Record). r.row.0 < 32 * pages) rows → pages ≤ page → rows_from rows page ≡ []
none_from page pages [] all h = refl
none_from page pages (r ∷ rows) all h =
    let low = all.0 in
    let here : nat_le (32 * page) r.row.0 ≡ false = grind (arith, nat_tests) in
    rw here (none_from page pages rows all.1 h)

pub all_from : (rows : List Record) → rows_from rows 0 ≡ rows
all_from [] = refl
all_from (r ∷ rows) = let here : nat_le (32 * 0) r.row.0 ≡ true = grind (arith, nat_tests) in rw here (ap (λ rs. r ∷ rs) (all_from rows))

columns_drop : (only : List (List Atom)) (k : ℕ) (rows : List Record) → HaveColumns only rows → HaveColumns only (drop k rows)
columns_drop only zero rows have = have
columns_drop only (suc k) [] have = have
columns_drop only (suc k) (r ∷ rows) have = columns_drop only k rows (and_parts _ _ have).1

-- what is held has the columns that all rows have
pub held_columns : (only : List (List Atom)) (place : Place) (rows : List Record) → Fits place rows → HaveColumns only rows → HaveColumns only place.held
held_columns only place rows fits have =
    let Columns : List Record → Type 0 = λ rs. HaveColumns only rs in
    let all : HaveColumns only (place.held ++ rows_from rows place.next) = subst Columns (sym fits.1) (columns_drop only fits.0 rows have) in
    (and_parts _ _ (sym (list_all-append _ place.held (rows_from rows place.next)) ∙ all)).0

-- a row given
pub given_fits : (place : Place) (at : ℕ) (rows : List Record) → at < length place.held → Fits place rows → Fits (record place { held = drop (at + 1) place.held }) rows
given_fits place at rows h fits =
    (fits.0 + (at + 1), sym (drop-append-le (at + 1) place.held (rows_from rows place.next) (omega arith)) ∙ ap (drop (at + 1)) fits.1 ∙ drop-drop (at + 1) fits.0 rows)

-- a page read
pub turned_unseen : (place : Place) (rows : List Record) → Ascend rows → page_of rows place.next ++ rows_from rows (place.next + 1) ≡ rows_from rows place.next
turned_unseen place rows ascend = sym (split_page place.next rows ascend)

pub turned_fits : (place : Place) (rows : List Record) → Ascend rows → Fits place rows → Fits (record place { held = page_of rows place.next; next = place.next + 1 }) rows
turned_fits place rows ascend fits =
    (fits.0 + length place.held, turned_unseen place rows ascend ∙ sym (drop-append_seam place.held (rows_from rows place.next)) ∙ ap (drop (length place.held)) fits.1 ∙ drop-drop (length place.held) fits.0 rows)

due_both : (only : List (List Atom)) (skip : Skipped) (xs ys : List Record) → due only skip (xs ++ ys) ≡ due only skip xs ++ due only skip ys
due_both only skip xs ys = filter-append (is_due only skip) xs ys

-- the first due row of the page that is held
pub given_step : (only : List (List Atom)) (skip : Skipped) (place : Place) (at : ℕ) (rows : List Record) (pages : ℕ) (r : Record) → FindsDue only skip place.held (Some at) → ((d : Record) → r ≡ slice_index_or place.held at d)
    → StepsTo (Row r) (rest place rows only skip) (work place rows pages) (rest (record place { held = drop (at + 1) place.held }) rows only skip) (work (record place { held = drop (at + 1) place.held }) rows pages)
given_step only skip place at rows pages r found is =
    let behind = rows_from rows place.next in
    let here : due only skip place.held ≡ r ∷ due only skip (drop (at + 1) place.held) = found.1 r ∙ ap (λ (x : Record). x ∷ due only skip (drop (at + 1) place.held)) (sym (is r)) in
    let less = length_drop at place.held found.0 in
    let before = length-append place.held behind in
    let after = length-append (drop (at + 1) place.held) behind in
    (due_both only skip place.held behind ∙ ap (λ rs. rs ++ due only skip behind) here ∙ ap (λ rs. r ∷ rs) (sym (due_both only skip (drop (at + 1) place.held) behind)), omega arith)

-- a page read, or none left
pub turned_step : (scanned : Step Record) (only : List (List Atom)) (skip : Skipped) (old new : Place) (rows : List Record) (pages : ℕ) → IsTable rows pages → due only skip old.held ≡ [] → Turns old new rows pages scanned
    → StepsTo scanned (rest old rows only skip) (work old rows pages) (rest new rows only skip) (work new rows pages)
turned_step (Row r) only skip old new rows pages table none turns = elim turns [ ]
turned_step Working only skip old new rows pages table none turns =
    let behind = rows_from rows old.next in
    let page = turned_unseen old rows table.ascend in
    let inside = turns.0 in
    let before = length-append old.held behind in
    let after = ap length page in
    let same : rest old rows only skip ≡ due only skip behind = due_both only skip old.held behind ∙ ap (λ rs. rs ++ due only skip behind) none in
    rw turns.1 (ap (due only skip) page ∙ sym same, omega arith)
turned_step End only skip old new rows pages table none turns =
    let behind = none_from old.next pages rows table.within turns.0 in
    let nothing : rest old rows only skip ≡ [] = due_both only skip old.held (rows_from rows old.next) ∙ ap (λ rs. rs ++ due only skip (rows_from rows old.next)) none ∙ ap (due only skip) behind in
    rw turns.1 (nothing, nothing, refl)

turned_keeps : (scanned : Step Record) (old new : Place) (rows : List Record) (pages : ℕ) → IsTable rows pages → Fits old rows → Turns old new rows pages scanned → Fits new rows
turned_keeps (Row r) old new rows pages table fits turns = elim turns [ ]
turned_keeps Working old new rows pages table fits turns = rw turns.1 (turned_fits old rows table.ascend fits)
turned_keeps End old new rows pages table fits turns = rw turns.1 fits

turned_page : (scanned : Step Record) (old new : Place) (rows : List Record) (pages : ℕ) → Turns old new rows pages scanned → PageTurns scanned old new pages
turned_page (Row r) old new rows pages turns = elim turns [ ]
turned_page Working old new rows pages turns = (turns.0, ap (λ (p : Place). p.next) turns.1)
turned_page End old new rows pages turns = ap (λ (p : Place). p.next) turns.1

pub pages_after : {E : Type 0} (r : Result (Step Record) E) (old new : Place) (rows : List Record) (pages : ℕ) → IfOk r (Turns old new rows pages) → IfOk r (λ scanned. PageTurns scanned old new pages)
pages_after (Ok scanned) old new rows pages turns = turned_page scanned old new rows pages turns
pages_after (Err e) old new rows pages turns = tt

pub fits_after : {E : Type 0} (r : Result (Step Record) E) (old new : Place) (rows : List Record) (pages : ℕ) → IsTable rows pages → Fits old rows → IfOk r (Turns old new rows pages) → OnErr r (new ≡ old) → Fits new rows
fits_after (Ok scanned) old new rows pages table fits turns err = turned_keeps scanned old new rows pages table fits turns
fits_after (Err e) old new rows pages table fits turns err = rw err fits

pub step_after : {E : Type 0} (r : Result (Step Record) E) (only : List (List Atom)) (skip : Skipped) (old new : Place) (rows : List Record) (pages : ℕ) → IsTable rows pages → due only skip old.held ≡ [] → IfOk r (Turns old new rows pages)
    → IfOk r (λ scanned. StepsTo scanned (rest old rows only skip) (work old rows pages) (rest new rows only skip) (work new rows pages))
step_after (Ok scanned) only skip old new rows pages table none turns = turned_step scanned only skip old new rows pages table none turns
step_after (Err e) only skip old new rows pages table none turns = tt
