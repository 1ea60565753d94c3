-- The rows of entries, one fetched after another.
use Rattle.std.proofs.Common.{◌≡◌, ℕ, ◌+◌, ◌<◌, List, [], ◌∷◌, ◌++◌, Bool, true, false, not, ◌==◌, cond, refl, ap, sym, ◌∙◌, inl, inr, arith, length, zero, suc, drop, take, Option, Some, None, IfSome, Result, Ok, Err, IfOk, OnOk, OnErr, length-append}
use Rattle.std.proofs.Math.Seq.{drop-drop, drop-append_seam}
use Rattle.std.proofs.lemmas.Bool.{cases_Bool, and_parts, not-true}
use Rattle.std.specs.List.{list_all, slice_index_or, cons_option}
use Rattle.std.proofs.lemmas.List.{drop-append-le}
use Rattle.rv_reader.proofs.Rows.{found_row}
use Rattle.rv_value.specs.declared.record.Record.{Record}
use Rattle.rv_value.specs.declared.record.RowNo.{RowNo}
use Rattle.rv_value.specs.declared.record.IndexEntry.{IndexEntry}
use Rattle.rv_judge.specs.Counting.{record_read}
use Rattle.rv_judge.specs.declared.counting.Counts.{Counts}
use Rattle.rv_restrict.specs.declared.atom.Atom.{Atom}
use Rattle.rv_restrict.specs.Truth.{names_only, qualifies, row_has}
use Rattle.rv_reader.specs.Entries.{run}
use Rattle.rv_reader.specs.Tables.{row_at}
use Rattle.rv_reader.specs.declared.step.Step.{Step}
use Rattle.rv_reader.specs.declared.step.Step.TheVariants.{Row, Working, End}
use Rattle.rv_scan.specs.Due.{Skipped, due, skips, HaveColumns, StepsTo}
use Rattle.rv_scan.specs.Alongs.{Along, FetchesDue, Fetching, Follows, FindsEntry, FindsGiven, Turned, fetched, fetch_rest, is_given, leaf_work, looked, to_come}

pub found_columns : (only : List (List Atom)) (rows : List Record) (number : ℕ) → HaveColumns only rows → IfSome (row_at rows number) (λ r. names_only (row_has r.values) only ≡ true)
found_columns only [] number have = tt
found_columns only (r ∷ rows) number have =
    let parts = and_parts (names_only (row_has r.values) only) (list_all (λ (x : Record). names_only (row_has x.values) only) rows) have in
    elim (r.row.0 == number) as (λ b. IfSome (cond b (Some r) (row_at rows number)) (λ (x : Record). names_only (row_has x.values) only ≡ true)) [
      | true ↦ parts.0
      | false ↦ found_columns only rows number parts.1
    ]

-- one entry: what its row adds
one_row : (only : List (List Atom)) (skip : Skipped) (e : IndexEntry) (rows more : List Record) (found : Option Record) → (found ≡ row_at rows e.row.0) → (skips skip e.row.0 ≡ true → due only skip (cons_option found more) ≡ due only skip more)
one_row only skip e rows more None is h = refl
one_row only skip e rows more (Some r) is h =
    let same : r.row.0 ≡ e.row.0 = found_row rows e.row.0 r (sym is) in
    let skipped : skips skip r.row.0 ≡ true = ap (skips skip) same ∙ h in
    rw skipped refl

skip_front : (only : List (List Atom)) (skip : Skipped) (rows : List Record) (xs ys : List IndexEntry) → list_all (λ (e : IndexEntry). not (is_given skip e)) xs ≡ true → due only skip (fetched rows (xs ++ ys)) ≡ due only skip (fetched rows ys)
skip_front only skip rows [] ys all = refl
skip_front only skip rows (e ∷ xs) ys all =
    let parts = and_parts (not (not (skips skip e.row.0))) (list_all (λ (x : IndexEntry). not (is_given skip x)) xs) all in
    one_row only skip e rows (fetched rows (xs ++ ys)) (row_at rows e.row.0) refl (twice (skips skip e.row.0) parts.0) ∙ skip_front only skip rows xs ys parts.1
  where
    twice : (b : Bool) → not (not b) ≡ true → b ≡ true
    twice true h = refl
    twice false h = cc

looked_step : (only : List (List Atom)) (skip : Skipped) (e : IndexEntry) (rows more : List Record) (old new : ℕ) (found : Option Record) → found ≡ row_at rows e.row.0 → skips skip e.row.0 ≡ false → new < old → StepsTo (looked only found) (due only skip (cons_option found more)) old (due only skip more) new
looked_step only skip e rows more old new None is h less = (refl, less)
looked_step only skip e rows more old new (Some r) is h less =
    let same : r.row.0 ≡ e.row.0 = found_row rows e.row.0 r (sym is) in
    let given : skips skip r.row.0 ≡ false = ap (skips skip) same ∙ h in
    elim (cases_Bool (qualifies only r.values)) [
      | inl t ↦ rw (t, given) (refl, less)
      | inr f ↦ rw (f, given) (refl, less)
    ]

cut_front : (at : ℕ) (xs : List IndexEntry) (d : IndexEntry) → at < length xs → xs ≡ take at xs ++ slice_index_or xs at d ∷ drop (at + 1) xs
cut_front at [] d h = absurd (omega arith)
cut_front zero (x ∷ xs) d h = refl
cut_front (suc at) (x ∷ xs) d h =
    let e : suc at + 1 ≡ suc (at + 1) = omega arith in
    rw e (ap (λ ys. x ∷ ys) (cut_front at xs d (omega arith)))

pub length_drop : {A : Type 0} (at : ℕ) (xs : List A) → at < length xs → length (drop (at + 1) xs) < length xs
length_drop at [] h = absurd (omega arith)
length_drop zero (x ∷ xs) h = omega arith
length_drop (suc at) (x ∷ xs) h =
    let rest = length_drop at xs (omega arith) in
    let e : suc at + 1 ≡ suc (at + 1) = omega arith in
    rw e (omega arith)

append_both : (a b c : List IndexEntry) (e : IndexEntry) → (a ++ e ∷ b) ++ c ≡ a ++ e ∷ (b ++ c)
append_both [] b c e = refl
append_both (x ∷ a) b c e = ap (λ ys. x ∷ ys) (append_both a b c e)

-- an entry fetched
fetched_step : (only : List (List Atom)) (skip : Skipped) (walk : Along) (passed : ℕ) (row : RowNo) (d : IndexEntry) (entries cuts : List IndexEntry) (rows : List Record) → FindsEntry skip walk.held (Some (passed, row))
    → StepsTo (looked only (row_at rows row.0)) (fetch_rest walk entries rows only skip) (leaf_work walk entries cuts) (fetch_rest (record walk { held = drop (passed + 1) walk.held }) entries rows only skip) (leaf_work (record walk { held = drop (passed + 1) walk.held }) entries cuts)
fetched_step only skip walk passed row d entries cuts rows found =
    let coming = to_come walk.ahead entries walk.range in
    let e = slice_index_or walk.held passed d in
    let is_e = found.1 d in
    let split : walk.held ++ coming ≡ take passed walk.held ++ e ∷ (drop (passed + 1) walk.held ++ coming) =
    ap (λ es. es ++ coming) (cut_front passed walk.held d found.0.0) ∙ append_both (take passed walk.held) (drop (passed + 1) walk.held) coming e in
    let old : fetch_rest walk entries rows only skip ≡ due only skip (cons_option (row_at rows e.row.0) (fetched rows (drop (passed + 1) walk.held ++ coming))) =
    ap (λ es. due only skip (fetched rows es)) split ∙ skip_front only skip rows (take passed walk.held) (e ∷ (drop (passed + 1) walk.held ++ coming)) found.0.1 in
    let shorter = length_drop passed walk.held found.0.0 in
    let before = length-append walk.held coming in
    let after = length-append (drop (passed + 1) walk.held) coming in
    let number : row.0 ≡ e.row.0 = ap (λ (x : RowNo). x.0) is_e.1 in
    rw (old, number) (looked_step only skip e rows (fetched rows (drop (passed + 1) walk.held ++ coming)) (leaf_work walk entries cuts) (leaf_work (record walk { held = drop (passed + 1) walk.held }) entries cuts) (row_at rows e.row.0) refl (not-true (skips skip e.row.0) is_e.0) (omega arith))

pub fetched_follows : (walk : Along) (passed : ℕ) (entries : List IndexEntry) → passed < length walk.held → Follows walk entries → Follows (record walk { held = drop (passed + 1) walk.held }) entries
fetched_follows walk passed entries h fits =
    (fits.0 + (passed + 1), sym (drop-append-le (passed + 1) walk.held (to_come walk.ahead entries walk.range) (omega arith)) ∙ ap (drop (passed + 1)) fits.1 ∙ drop-drop (passed + 1) fits.0 (run entries walk.range))

-- a leaf read, or none left
turned_step : (scanned : Step Record) (only : List (List Atom)) (skip : Skipped) (old new : Fetching) (entries cuts : List IndexEntry) (rows : List Record) → FindsGiven skip old.walk.held None → Turned old new entries cuts scanned
    → StepsTo scanned (fetch_rest old.walk entries rows only skip) (leaf_work old.walk entries cuts) (fetch_rest new.walk entries rows only skip) (leaf_work new.walk entries cuts)
turned_step (Row r) only skip old new entries cuts rows none turned = elim turned [ ]
turned_step Working only skip old new entries cuts rows none turned =
    let moves = turned.1 in
    let coming = to_come old.walk.ahead entries old.walk.range in
    let before = length-append old.walk.held coming in
    let size = ap length moves.parts in
    let nearer = moves.nearer in
    (ap (λ es. due only skip (fetched rows es)) moves.parts ∙ sym (skip_front only skip rows old.walk.held coming none), omega arith)
turned_step End only skip old new entries cuts rows none turned =
    let coming : to_come old.walk.ahead entries old.walk.range ≡ [] = ap (λ ahead. to_come ahead entries old.walk.range) turned.0 in
    let nothing : fetch_rest old.walk entries rows only skip ≡ [] = skip_front only skip rows old.walk.held (to_come old.walk.ahead entries old.walk.range) none ∙ ap (λ es. due only skip (fetched rows es)) coming in
    rw turned.1 (nothing, nothing, refl)

turned_follows : (scanned : Step Record) (old new : Fetching) (entries cuts : List IndexEntry) → Follows old.walk entries → Turned old new entries cuts scanned → Follows new.walk entries
turned_follows (Row r) old new entries cuts fits turned = elim turned [ ]
turned_follows Working old new entries cuts fits turned =
    let moves = turned.1 in
    let coming = to_come old.walk.ahead entries old.walk.range in
    let here : coming ≡ drop (fits.0 + length old.walk.held) (run entries old.walk.range) = sym (drop-append_seam old.walk.held coming) ∙ ap (drop (length old.walk.held)) fits.1 ∙ drop-drop (length old.walk.held) fits.0 (run entries old.walk.range) in
    (fits.0 + length old.walk.held, moves.parts ∙ here ∙ ap (λ range. drop (fits.0 + length old.walk.held) (run entries range)) (sym moves.range))
turned_follows End old new entries cuts fits turned = rw turned.1 fits

pub step_turned : {E : Type 0} (r : Result (Step Record) E) (only : List (List Atom)) (skip : Skipped) (old new : Fetching) (entries cuts : List IndexEntry) (rows : List Record) → FindsGiven skip old.walk.held None → IfOk r (Turned old new entries cuts)
    → IfOk r (λ scanned. StepsTo scanned (fetch_rest old.walk entries rows only skip) (leaf_work old.walk entries cuts) (fetch_rest new.walk entries rows only skip) (leaf_work new.walk entries cuts))
step_turned (Ok scanned) only skip old new entries cuts rows none turned = turned_step scanned only skip old new entries cuts rows none turned
step_turned (Err e) only skip old new entries cuts rows none turned = tt

pub follows_turned : {E : Type 0} (r : Result (Step Record) E) (old new : Fetching) (entries cuts : List IndexEntry) → IfOk r (Turned old new entries cuts) → OnErr r (new ≡ old) → Follows old.walk entries → Follows new.walk entries
follows_turned (Ok scanned) old new entries cuts turned err fits = turned_follows scanned old new entries cuts fits turned
follows_turned (Err e) old new entries cuts turned err fits = rw err fits

pub step_fetched : (scanned : Step Record) (only : List (List Atom)) (skip : Skipped) (walk new : Along) (passed : ℕ) (row : RowNo) (d : IndexEntry) (entries cuts : List IndexEntry) (rows : List Record) → FindsEntry skip walk.held (Some (passed, row)) → scanned ≡ looked only (row_at rows row.0) → new ≡ record walk { held = drop (passed + 1) walk.held }
    → StepsTo scanned (fetch_rest walk entries rows only skip) (leaf_work walk entries cuts) (fetch_rest new entries rows only skip) (leaf_work new entries cuts)
step_fetched scanned only skip walk new passed row d entries cuts rows found is after = rw (is, after) (fetched_step only skip walk passed row d entries cuts rows found)

-- Which record a step reads.

pub fetches_row : (scanned : Step Record) (skip : Skipped) (only : List (List Atom)) (rows : List Record) (held : List IndexEntry) (passed : ℕ) (row : RowNo) (d : IndexEntry) (old new : Counts) → FindsEntry skip held (Some (passed, row)) → new ≡ record_read old → scanned ≡ looked only (row_at rows row.0) → FetchesDue skip only rows scanned old new
fetches_row scanned skip only rows held passed row d old new found read looks = inl (record {
  row = row.0;
  unskipped = let at = found.1 d in not-true (skips skip row.0) (ap (λ (n : RowNo). not (skips skip n.0)) at.1 ∙ at.0);
  read = read;
  looks = looks;
})

pub fetches_none : {E : Type 0} (r : Result (Step Record) E) (skip : Skipped) (only : List (List Atom)) (rows : List Record) (old new : Counts) → OnOk r (new.records ≡ old.records) → IfOk r (λ scanned. FetchesDue skip only rows scanned old new)
fetches_none (Ok scanned) skip only rows old new same = inr same
fetches_none (Err e) skip only rows old new same = tt
