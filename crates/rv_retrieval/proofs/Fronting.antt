-- A step of the foreground's scan, said of each row number.
use Rattle.std.proofs.Common.{◌≡◌, ℕ, ◌⊎◌, List, map, Bool, true, false, not, ◌&&◌, ◌||◌, refl, ap, sym, ◌∙◌, arith, subst, Some, None, Option, inl, inr, Result, Ok, Err, IfOk}
use Rattle.std.specs.Prelude.{if◌then◌else◌}
use Rattle.std.proofs.lemmas.Bool.{not-false}
use Rattle.rv_value.specs.declared.record.Record.{Record}
use Rattle.rv_judge.specs.declared.counting.Counts.{Counts}
use Rattle.rv_keylist.specs.Marks.{may_key}
use Rattle.rv_value.specs.declared.record.IndexEntry.{IndexEntry}
use Rattle.rv_restrict.specs.declared.atom.Atom.{Atom}
use Rattle.rv_keylist.specs.Listed.{Listed}
use Rattle.rv_reader.specs.Shown.{Shown}
use Rattle.rv_reader.specs.Tables.{row_at}
use Rattle.rv_reader.specs.declared.step.Step.{Step}
use Rattle.rv_scan.specs.Alongs.{FetchesDue, Follows, looked, fetch_rest, fetched, leaf_work, left}
use Rattle.rv_scan.specs.Due.{Skipped, StepsTo, due, is_unlisted, skips, was_delivered}
use Rattle.rv_scan.specs.Told.{NamesThese, told, told_rest}
use Rattle.rv_jscan.specs.Entries.{has_entry, Apart}
use Rattle.rv_jscan.specs.Joint.{InCompleted, keys_of}
use Rattle.rv_jscan.specs.Pieces.{may}
use Rattle.rv_jscan.proofs.Fits.{covered_may}
use Rattle.rv_final.specs.Rest.{Agree, StepMarks, has_row, qualifies_at}
use Rattle.rv_retrieval.specs.Fronts.{front_left}
use Rattle.rv_scan.specs.Fronts.{Front, SameFront, front_rest, walk_of}
use Rattle.rv_jscan.proofs.Apart.{entries_apart}
use Rattle.rv_retrieval.specs.Shape.{RetrievalFits, Shape, front_entries, is_led, is_sorted, rows_of}
use Rattle.rv_retrieval.specs.Stepping.{WalkReads}
use Rattle.rv_final.proofs.Dues.{Looks, marks_move, open_in, step_marks}
use Rattle.rv_retrieval.proofs.Entered.{AreOf, Covering, entries_stand, fetched_looks, fetched_open, left_apart, left_stands, told_looks, told_open}

-- the records that a step looks through
abbrev pub front_items : Front → List IndexEntry → List Record → List Record
front_items f entries rows = if f.alone then map (told f.columns) (left f.telling entries) else fetched rows (left f.fetching.walk entries)

pub items_rest : (f : Front) (entries : List IndexEntry) (rows : List Record) (only : List (List Atom)) (skip : Skipped) → front_rest f entries rows only skip ≡ due only skip (front_items f entries rows)
items_rest f entries rows only skip = elim f.alone as (λ b. (if b then told_rest f.telling entries f.columns only skip else fetch_rest f.fetching.walk entries rows only skip) ≡ due only skip (if b then map (told f.columns) (left f.telling entries) else fetched rows (left f.fetching.walk entries))) [ true ↦ refl | false ↦ refl ]

items_has : (f : Front) (columns : List ℕ) (entries : List IndexEntry) (rows : List Record) (n : ℕ) → Follows (walk_of f) entries → AreOf columns rows entries → has_row n (front_items f entries rows) ≡ front_left f entries n
items_has f columns entries rows n =
    elim f.alone as (λ b. Follows (if b then f.telling else f.fetching.walk) entries → AreOf columns rows entries → has_row n (if b then map (told f.columns) (left f.telling entries) else fetched rows (left f.fetching.walk entries)) ≡ has_entry n (left (if b then f.telling else f.fetching.walk) entries)) [
      | true ↦ λ w a. told_open f.columns (left f.telling entries) n
      | false ↦ λ w a. fetched_open columns rows (left f.fetching.walk entries) n (left_stands f.fetching.walk columns rows entries w a)
    ]

items_look : (f : Front) (need : List ℕ) (only : List (List Atom)) (entries : List IndexEntry) (rows : List Record) → (f.alone ≡ true → NamesThese f.columns only) → (f.alone ≡ true → Covering f.columns need) → Follows (walk_of f) entries → AreOf f.columns rows entries → Apart entries → Looks need only rows (front_items f entries rows)
items_look f need only entries rows =
    elim f.alone as (λ b. (b ≡ true → NamesThese f.columns only) → (b ≡ true → Covering f.columns need) → Follows (if b then f.telling else f.fetching.walk) entries → AreOf f.columns rows entries → Apart entries → Looks need only rows (if b then map (told f.columns) (left f.telling entries) else fetched rows (left f.fetching.walk entries))) [
      | true ↦ λ names covering w a d. told_looks need only f.columns rows (left f.telling entries) (names refl) (covering refl) (left_stands f.telling f.columns rows entries w a) (left_apart f.telling entries w d)
      | false ↦ λ names covering w a d. fetched_looks need only f.columns rows (left f.fetching.walk entries) (left_stands f.fetching.walk f.columns rows entries w a) (left_apart f.fetching.walk entries w d)
    ]

-- a complete list hides no row that qualifies

pub in_completed : (v : Shape) (shown : Shown) (n : ℕ) → RetrievalFits v shown → qualifies_at v.query.only (rows_of v shown) n ≡ true → InCompleted v.joint shown n
in_completed v shown n f q i lt l = let w = f.joint.within in f.planned i (omega arith) n q

pub may_all : (v : Shape) (shown : Shown) (n : ℕ) → RetrievalFits v shown → qualifies_at v.query.only (rows_of v shown) n ≡ true → may v.joint.list n ≡ true
may_all v shown n f q = covered_may v.joint shown n f.joint.covers (in_completed v shown n f q)

-- what a step passes over: nothing, or what the complete list cannot have
abbrev pub SkipsBy : Shape → Skipped → Type 0
SkipsBy v skip = (skip.delivered ≡ None) × ((skip.list ≡ None) ⊎ (keys_of skip.list ≡ v.joint.list))

unlisted : (o : Option Listed) (list : Option (List ℕ)) (n : ℕ) → keys_of o ≡ list → may list n ≡ true → is_unlisted o n ≡ false
unlisted None list n e m = refl
unlisted (Some l) list n e m = ap not (ap (λ (x : Option (List ℕ)). may x n) e ∙ m)

pub unskipped : (v : Shape) (shown : Shown) (skip : Skipped) (n : ℕ) → RetrievalFits v shown → SkipsBy v skip → qualifies_at v.query.only (rows_of v shown) n ≡ true → skips skip n ≡ false
unskipped v shown skip n f s q = ap (λ (d : Option (List ℕ)). was_delivered d n || is_unlisted skip.list n) s.0 ∙ by s.1
  where
    by : ((skip.list ≡ None) ⊎ (keys_of skip.list ≡ v.joint.list)) → is_unlisted skip.list n ≡ false
    by (inl e) = ap (λ (l : Option Listed). is_unlisted l n) e
    by (inr e) = unlisted skip.list v.joint.list n e (may_all v shown n f q)

open_is : (need : List ℕ) (f : Front) (only : List (List Atom)) (columns : List ℕ) (entries : List IndexEntry) (rows : List Record) (skip : Skipped) → Follows (walk_of f) entries → AreOf columns rows entries → ((n : ℕ) → qualifies_at only rows n ≡ true → skips skip n ≡ false) → Agree only rows (open_in (front_items f entries rows) skip) (front_left f entries)
open_is need f only columns entries rows skip w a clear n q = sym (items_has f columns entries rows n w a) ∙ sym (keeps _ _ (clear n q))
  where
    keeps : (x s : Bool) → s ≡ false → (x && not s) ≡ x
    keeps x s h = grind arith

pub front_steps : (v : Shape) (new : Front) (shown : Shown) (skip : Skipped) (s : Step Record) (w u : ℕ) → RetrievalFits v shown → is_led v.strategy ≡ true → SkipsBy v skip → SameFront v.front new → Follows (walk_of new) (front_entries v shown)
    → StepsTo s (front_rest v.front (front_entries v shown) (rows_of v shown) v.query.only skip) w (front_rest new (front_entries v shown) (rows_of v shown) v.query.only skip) u
    → StepMarks v.query.need v.query.only (rows_of v shown) s (front_left v.front (front_entries v shown)) (front_left new (front_entries v shown))
front_steps v new shown skip s w u f led by same follows step =
    let ff = f.front led in
    let entries = front_entries v shown in
    let rows = rows_of v shown in
    let only = v.query.only in
    let need = v.query.need in
    let columns = v.front.columns in
    let stands : AreOf columns rows entries = subst (AreOf columns rows) (sym ff.entries) (entries_stand columns rows f.ascend) in
    let apart : Apart entries = subst Apart (sym ff.entries) (entries_apart columns rows f.ascend) in
    let old_look = items_look v.front need only entries rows ff.can.names ff.covering ff.follows stands apart in
    let new_look = items_look new need only entries rows (λ e. subst (λ (c : List ℕ). NamesThese c only) (sym same.columns) (ff.can.names (sym same.alone ∙ e))) (λ e. subst (λ (c : List ℕ). Covering c need) (sym same.columns) (ff.covering (sym same.alone ∙ e))) follows (subst (λ (c : List ℕ). AreOf c rows entries) (sym same.columns) stands) apart in
    let told : StepsTo s (due only skip (front_items v.front entries rows)) w (due only skip (front_items new entries rows)) u = subst (λ (x : List Record). StepsTo s (due only skip (front_items v.front entries rows)) w x u) (items_rest new entries rows only skip) (subst (λ (x : List Record). StepsTo s x w (front_rest new entries rows only skip) u) (items_rest v.front entries rows only skip) step) in
    let clear = unskipped v shown skip in
    marks_move need only rows s (open_in (front_items v.front entries rows) skip) (open_in (front_items new entries rows) skip) (front_left v.front entries) (front_left new entries) f.ascend
    (open_is need v.front only columns entries rows skip ff.follows stands (λ n q. clear n f by q))
    (open_is need new only columns entries rows skip follows stands (λ n q. clear n f by q))
    (step_marks need only rows skip (front_items v.front entries rows) (front_items new entries rows) s w u f.ascend old_look new_look told)

-- In the words of the call.

abbrev pub own_entries : Shape → Shown → List IndexEntry
own_entries v shown = shown.entries (walk_of v.front).index (walk_of v.front).snap

abbrev pub FrontStep : Shape → Front → Shown → Skipped → Step Record → Type 0
FrontStep v new shown skip s = StepsTo s (front_rest v.front (own_entries v shown) (shown.rows v.front.fetching.table (walk_of v.front).snap) v.query.only skip) (leaf_work (walk_of v.front) (own_entries v shown) (shown.cuts (walk_of v.front).index (walk_of v.front).snap)) (front_rest new (own_entries v shown) (shown.rows v.front.fetching.table (walk_of v.front).snap) v.query.only skip) (leaf_work (walk_of new) (own_entries v shown) (shown.cuts (walk_of v.front).index (walk_of v.front).snap))

pub skips_by : (v : Shape) (o l : Option Listed) → o ≡ (if is_sorted v.strategy then l else None) → keys_of l ≡ v.joint.list → SkipsBy v (record { delivered = None; list = o })
skips_by v o l h k = (
  refl,
  elim (is_sorted v.strategy) as (λ b. o ≡ (if b then l else None) → ((o ≡ None) ⊎ (keys_of o ≡ v.joint.list))) [
    | true ↦ λ e. inr (ap keys_of e ∙ k)
    | false ↦ λ e. inl e
  ] h,
)

pub own_follows : (v : Shape) (new : Front) (shown : Shown) → RetrievalFits v shown → is_led v.strategy ≡ true → (Follows (walk_of v.front) (own_entries v shown) → Follows (walk_of new) (own_entries v shown)) → Follows (walk_of new) (front_entries v shown)
own_follows v new shown f led follows =
    let ff = f.front led in
    let at : own_entries v shown ≡ front_entries v shown = ap (shown.entries (walk_of v.front).index) ff.can.at_snap in
    subst (Follows (walk_of new)) at (follows (subst (Follows (walk_of v.front)) (sym at) ff.follows))

one_marks : (v : Shape) (new : Front) (shown : Shown) (skip : Skipped) (s : Step Record) → RetrievalFits v shown → is_led v.strategy ≡ true → SkipsBy v skip → SameFront v.front new → Follows (walk_of new) (front_entries v shown) → FrontStep v new shown skip s → StepMarks v.query.need v.query.only (rows_of v shown) s (front_left v.front (front_entries v shown)) (front_left new (front_entries v shown))
one_marks v new shown skip s f led by same follows step =
    let ff = f.front led in
    let at : own_entries v shown ≡ front_entries v shown = ap (shown.entries (walk_of v.front).index) ff.can.at_snap in
    let rows : shown.rows v.front.fetching.table (walk_of v.front).snap ≡ rows_of v shown = ap (λ (t : ℕ). shown.rows t (walk_of v.front).snap) ff.can.of_table ∙ ap (shown.rows v.query.table) ff.can.at_snap in
    let w = leaf_work (walk_of v.front) (own_entries v shown) (shown.cuts (walk_of v.front).index (walk_of v.front).snap) in
    let u = leaf_work (walk_of new) (own_entries v shown) (shown.cuts (walk_of v.front).index (walk_of v.front).snap) in
    let by_rows : StepsTo s (front_rest v.front (own_entries v shown) (rows_of v shown) v.query.only skip) w (front_rest new (own_entries v shown) (rows_of v shown) v.query.only skip) u = subst (λ (rs : List Record). StepsTo s (front_rest v.front (own_entries v shown) rs v.query.only skip) w (front_rest new (own_entries v shown) rs v.query.only skip) u) rows step in
    let by_entries : StepsTo s (front_rest v.front (front_entries v shown) (rows_of v shown) v.query.only skip) w (front_rest new (front_entries v shown) (rows_of v shown) v.query.only skip) u = subst (λ (es : List IndexEntry). StepsTo s (front_rest v.front es (rows_of v shown) v.query.only skip) w (front_rest new es (rows_of v shown) v.query.only skip) u) at by_rows in
    front_steps v new shown skip s w u f led by same follows by_entries

pub front_marks : {E : Type 0} (r : Result (Step Record) E) (v : Shape) (new : Front) (shown : Shown) (skip : Skipped) → RetrievalFits v shown → is_led v.strategy ≡ true → SkipsBy v skip → SameFront v.front new → Follows (walk_of new) (front_entries v shown) → IfOk r (FrontStep v new shown skip) → IfOk r (λ s. StepMarks v.query.need v.query.only (rows_of v shown) s (front_left v.front (front_entries v shown)) (front_left new (front_entries v shown)))
front_marks (Ok s) v new shown skip f led by same follows step = one_marks v new shown skip s f led by same follows step
front_marks (Err e) v new shown skip f led by same follows step = tt

-- Which record a step reads.

pub walk_reads : {E : Type 0} (r : Result (Step Record) E) (v : Shape) (shown : Shown) (o l : Option Listed) (c d : Counts) → RetrievalFits v shown → is_led v.strategy ≡ true → o ≡ (if is_sorted v.strategy then l else None) → keys_of l ≡ v.joint.list → IfOk r (λ s. FetchesDue (record { delivered = None; list = o }) v.query.only (shown.rows v.front.fetching.table (walk_of v.front).snap) s c d) → IfOk r (WalkReads v shown c d)
walk_reads (Err e) v shown o l c d f led hides keys reads = tt
walk_reads (Ok s) v shown o l c d f led hides keys (inr same) = inr same
walk_reads (Ok s) v shown o l c d f led hides keys (inl one) =
    let ff = f.front led in
    let rows : shown.rows v.front.fetching.table (walk_of v.front).snap ≡ rows_of v shown = ap (λ (t : ℕ). shown.rows t (walk_of v.front).snap) ff.can.of_table ∙ ap (shown.rows v.query.table) ff.can.at_snap in
    inl (record {
      row = one.row;
      listed = λ h. listed one.row h one.unskipped;
      read = one.read;
      looks = one.looks ∙ ap (λ (rs : List Record). looked v.query.only (row_at rs one.row)) rows;
    })
  where
    unhidden : (l : Option Listed) (n : ℕ) → is_unlisted l n ≡ false → may (keys_of l) n ≡ true
    unhidden None n h = refl
    unhidden (Some x) n h = not-false (may_key n x.keys) h

    listed : (n : ℕ) → is_sorted v.strategy ≡ true → skips (record { delivered = None; list = o }) n ≡ false → may v.joint.list n ≡ true
    listed n h clear =
        let same : o ≡ l = hides ∙ ap (λ (b : Bool). if b then l else None) h in
        subst (λ (k : Option (List ℕ)). may k n ≡ true) (ap keys_of same ∙ keys) (unhidden o n clear)
