-- The records that entries tell, one given after another.
use Rattle.std.proofs.Common.{◌≡◌, ℕ, ◌+◌, ◌<◌, List, [], ◌∷◌, ◌++◌, true, ◌==◌, refl, ap, sym, ◌∙◌, inl, inr, arith, length, drop, map, nat_lt, Some, None, Result, Ok, Err, IfOk, OnErr, length-append}
use Rattle.std.proofs.Math.Seq.{drop-drop, drop-append_seam}
use Rattle.std.proofs.lemmas.Bool.{cases_Bool, and_from}
use Rattle.std.proofs.lemmas.Bool.Decides.{nat_tests}
use Rattle.std.proofs.lemmas.List.{drop_more, map-append}
use Rattle.std.proofs.lemmas.List.FromFn.{get_or-map-range_with_len, length-map-range_with_len}
use Rattle.std.proofs.lemmas.List.Elements.{filter-append}
use Rattle.std.specs.List.{slice_index_or}
use Rattle.std.specs.Cmp.{first_so, second_so}
use Rattle.rv_value.specs.declared.value.Value.{Value}
use Rattle.rv_value.specs.declared.value.Value.TheVariants.{Null}
use Rattle.rv_value.specs.declared.record.Record.{Record}
use Rattle.rv_value.specs.declared.record.IndexEntry.{IndexEntry}
use Rattle.rv_judge.specs.declared.counting.Counts.{Counts}
use Rattle.rv_restrict.specs.declared.atom.ColRef.{ColRef}
use Rattle.rv_restrict.specs.declared.atom.Atom.{Atom}
use Rattle.rv_restrict.specs.Bind.{passes_home}
use Rattle.rv_restrict.specs.Parts.{stands_among, value_in}
use Rattle.rv_restrict.specs.Truth.{names_only, row_has, is_home, is_true, qualifies, row_reads}
use Rattle.rv_restrict.proofs.Names.{names_weaker, truth_same}
use Rattle.rv_reader.specs.Entries.{run, column_of, entry_of}
use Rattle.rv_reader.specs.declared.step.Step.{Step}
use Rattle.rv_reader.specs.declared.step.Step.TheVariants.{Row, Working, End}
use Rattle.rv_scan.specs.Due.{Skipped, is_due, due, StepsTo}
use Rattle.rv_scan.specs.Alongs.{Along, FetchesDue, Follows, leaf_work, to_come}
use Rattle.rv_scan.specs.Told.{FindsTold, Goes, KeyReads, NamesThese, Tells, told, told_rest, told_values, width}
use Rattle.rv_scan.proofs.Fetches.{length_drop}

pub below_width : (columns : List ℕ) (c : ℕ) → stands_among columns c ≡ true → c < width columns
below_width [] c h = cc
below_width (n ∷ ns) c h = elim (cases_Bool (n == c)) [
  | inl t ↦ let same : n ≡ c = grind (arith, nat_tests) in omega arith
  | inr f ↦ let further = below_width ns c (rw f at h) in omega arith
]

-- a record that an entry tells has the columns of its index
pub told_columns : (columns : List ℕ) (key : List Value) (only : List (List Atom)) → NamesThese columns only → names_only (row_has (told_values columns key)) only ≡ true
told_columns columns key only names = names_weaker (passes_home (stands_among columns)) (row_has (told_values columns key)) has only names
  where
    has : (c : ColRef) → passes_home (stands_among columns) c ≡ true → row_has (told_values columns key) c ≡ true
    has c h =
        let size : length (told_values columns key) ≡ width columns = length-map-range_with_len (value_in columns key) 0 (width columns) in
        let below = below_width columns c.column (second_so (is_home c) (stands_among columns c.column) h) in
        let there : nat_lt c.column (length (told_values columns key)) ≡ true = rw size (grind (arith, nat_tests)) in
        and_from (is_home c) (nat_lt c.column (length (told_values columns key))) (first_so (is_home c) (stands_among columns c.column) h) there

-- the record of the next entry is not due, or is given
pub told_passed : (columns : List ℕ) (only : List (List Atom)) (skip : Skipped) (entries : List IndexEntry) (at : ℕ) (e : IndexEntry) → at < length entries → e ≡ slice_index_or entries at e → Tells columns only skip e None
    → due only skip (map (told columns) (drop at entries)) ≡ due only skip (map (told columns) (drop (at + 1) entries))
told_passed columns only skip entries at e h is tells =
    let next : drop at entries ≡ e ∷ drop (at + 1) entries = drop_more entries at e h ∙ ap (λ (x : IndexEntry). x ∷ drop (at + 1) entries) (sym is) in
    ap (λ es. due only skip (map (told columns) es)) next ∙ rw tells refl

pub told_found : (columns : List ℕ) (only : List (List Atom)) (skip : Skipped) (entries : List IndexEntry) (at : ℕ) (e : IndexEntry) (r : Record) → at < length entries → e ≡ slice_index_or entries at e → Tells columns only skip e (Some r)
    → due only skip (map (told columns) (drop at entries)) ≡ r ∷ due only skip (map (told columns) (drop (at + 1) entries))
told_found columns only skip entries at e r h is tells =
    let next : drop at entries ≡ e ∷ drop (at + 1) entries = drop_more entries at e h ∙ ap (λ (x : IndexEntry). x ∷ drop (at + 1) entries) (sym is) in
    ap (λ es. due only skip (map (told columns) es)) next ∙ rw tells.0 (ap (λ (x : Record). x ∷ due only skip (map (told columns) (drop (at + 1) entries))) (sym tells.1))

due_told : (columns : List ℕ) (only : List (List Atom)) (skip : Skipped) (xs ys : List IndexEntry) → due only skip (map (told columns) (xs ++ ys)) ≡ due only skip (map (told columns) xs) ++ due only skip (map (told columns) ys)
due_told columns only skip xs ys = ap (due only skip) (map-append (told columns) xs ys) ∙ filter-append (is_due only skip) (map (told columns) xs) (map (told columns) ys)

-- a record given
pub told_step : (columns : List ℕ) (only : List (List Atom)) (skip : Skipped) (walk : Along) (passed : ℕ) (r : Record) (entries cuts : List IndexEntry) → FindsTold columns only skip walk.held (Some (passed, r))
    → StepsTo (Row r) (told_rest walk entries columns only skip) (leaf_work walk entries cuts) (told_rest (record walk { held = drop (passed + 1) walk.held }) entries columns only skip) (leaf_work (record walk { held = drop (passed + 1) walk.held }) entries cuts)
told_step columns only skip walk passed r entries cuts found =
    let coming = to_come walk.ahead entries walk.range in
    let less = length_drop passed walk.held found.0 in
    let before = length-append walk.held coming in
    let after = length-append (drop (passed + 1) walk.held) coming in
    (due_told columns only skip walk.held coming ∙ ap (λ rs. rs ++ due only skip (map (told columns) coming)) found.1 ∙ ap (λ rs. r ∷ rs) (sym (due_told columns only skip (drop (passed + 1) walk.held) coming)), omega arith)

-- a leaf read, or none left
gone_step : (scanned : Step Record) (columns : List ℕ) (only : List (List Atom)) (skip : Skipped) (old new : Along) (entries cuts : List IndexEntry) → FindsTold columns only skip old.held None → Goes old new entries cuts scanned
    → StepsTo scanned (told_rest old entries columns only skip) (leaf_work old entries cuts) (told_rest new entries columns only skip) (leaf_work new entries cuts)
gone_step (Row r) columns only skip old new entries cuts none goes = elim goes [ ]
gone_step Working columns only skip old new entries cuts none goes =
    let coming = to_come old.ahead entries old.range in
    let before = length-append old.held coming in
    let size = ap length goes.parts in
    let nearer = goes.nearer in
    (ap (λ es. due only skip (map (told columns) es)) goes.parts ∙ sym (due_told columns only skip old.held coming ∙ ap (λ rs. rs ++ due only skip (map (told columns) coming)) none), omega arith)
gone_step End columns only skip old new entries cuts none goes =
    let coming : to_come old.ahead entries old.range ≡ [] = ap (λ ahead. to_come ahead entries old.range) goes.0 in
    let nothing : told_rest old entries columns only skip ≡ [] = due_told columns only skip old.held (to_come old.ahead entries old.range) ∙ ap (λ rs. rs ++ due only skip (map (told columns) (to_come old.ahead entries old.range))) none ∙ ap (λ es. due only skip (map (told columns) es)) coming in
    rw goes.1 (nothing, nothing, refl)

gone_follows : (scanned : Step Record) (old new : Along) (entries cuts : List IndexEntry) → Follows old entries → Goes old new entries cuts scanned → Follows new entries
gone_follows (Row r) old new entries cuts fits goes = elim goes [ ]
gone_follows Working old new entries cuts fits goes =
    let coming = to_come old.ahead entries old.range in
    let here : coming ≡ drop (fits.0 + length old.held) (run entries old.range) = sym (drop-append_seam old.held coming) ∙ ap (drop (length old.held)) fits.1 ∙ drop-drop (length old.held) fits.0 (run entries old.range) in
    (fits.0 + length old.held, goes.parts ∙ here ∙ ap (λ range. drop (fits.0 + length old.held) (run entries range)) (sym goes.range))
gone_follows End old new entries cuts fits goes = rw goes.1 fits

pub step_gone : {E : Type 0} (r : Result (Step Record) E) (columns : List ℕ) (only : List (List Atom)) (skip : Skipped) (old new : Along) (entries cuts : List IndexEntry) → FindsTold columns only skip old.held None → IfOk r (Goes old new entries cuts)
    → IfOk r (λ scanned. StepsTo scanned (told_rest old entries columns only skip) (leaf_work old entries cuts) (told_rest new entries columns only skip) (leaf_work new entries cuts))
step_gone (Ok scanned) columns only skip old new entries cuts none goes = gone_step scanned columns only skip old new entries cuts none goes
step_gone (Err e) columns only skip old new entries cuts none goes = tt

pub follows_gone : {E : Type 0} (r : Result (Step Record) E) (old new : Along) (entries cuts : List IndexEntry) → IfOk r (Goes old new entries cuts) → OnErr r (new ≡ old) → Follows old entries → Follows new entries
follows_gone (Ok scanned) old new entries cuts goes err fits = gone_follows scanned old new entries cuts fits goes
follows_gone (Err e) old new entries cuts goes err fits = rw err fits

-- what an index has of a row is told as it stands in the row
told_value : (columns : List ℕ) (values : List Value) (c : ℕ) → stands_among columns c ≡ true → value_in columns (map (column_of values) columns) c ≡ column_of values c
told_value [] values c h = cc
told_value (n ∷ ns) values c h = elim (cases_Bool (n == c)) [
  | inl t ↦ let same : n ≡ c = grind (arith, nat_tests) in rw t (ap (column_of values) same)
  | inr f ↦ rw f (told_value ns values c (rw f at h))
]

pub told_reads : (columns : List ℕ) (row : Record) (c : ℕ) → stands_among columns c ≡ true → column_of (told columns (entry_of columns row)).values c ≡ column_of row.values c
told_reads columns row c h = get_or-map-range_with_len (value_in columns (entry_of columns row).key) 0 (width columns) c c Null (below_width columns c h) (omega arith) ∙ told_value columns row.values c h

-- an index tells a value of each of its columns
pub told_wide : (columns : List ℕ) (row : Record) (c : ℕ) → stands_among columns c ≡ true → c < length (told columns (entry_of columns row)).values
told_wide columns row c h =
    let size : length (told_values columns (entry_of columns row).key) ≡ width columns = length-map-range_with_len (value_in columns (entry_of columns row).key) 0 (width columns) in
    let below = below_width columns c h in
    omega arith

pub told_truth : (columns : List ℕ) (only : List (List Atom)) (row : Record) → NamesThese columns only → qualifies only (told columns (entry_of columns row)).values ≡ qualifies only row.values
told_truth columns only row names = ap is_true (truth_same (row_reads (told columns (entry_of columns row)).values) (row_reads row.values) (passes_home (stands_among columns)) (λ c h. told_reads columns row c.column (second_so (is_home c) (stands_among columns c.column) h)) only names)

-- an index alone fetches no record
pub told_fetches : {E : Type 0} (r : Result (Step Record) E) (skip : Skipped) (only : List (List Atom)) (rows : List Record) (old new : Counts) → IfOk r (λ scanned. KeyReads scanned old new) → IfOk r (λ scanned. FetchesDue skip only rows scanned old new)
told_fetches (Ok (Row r)) skip only rows old new reads = inr (ap (λ (c : Counts). c.records) reads)
told_fetches (Ok Working) skip only rows old new reads = inr (ap (λ (c : Counts). c.records) reads)
told_fetches (Ok End) skip only rows old new reads = inr (ap (λ (c : Counts). c.records) reads)
told_fetches (Err e) skip only rows old new reads = tt
