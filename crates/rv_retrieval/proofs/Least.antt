-- An index scan gives the least of the records that are left in the columns with which its index begins.
use Rattle.std.proofs.Common.{◌≡◌, ℕ, List, [], ◌∷◌, map, take, filter, length, Bool, true, false, not, cond, ◌&&◌, ◌||◌, refl, ap, sym, ◌∙◌, arith, subst, Some, nat_eq, zero, suc, inl, inr, Result, Ok, Err, IfOk}
use Rattle.std.specs.Prelude.{if◌then◌else◌, ◌==◌}
use Rattle.std.specs.List.{AllByRecursion, list_all}
use Rattle.std.specs.Cmp.{tied_itself}
use Rattle.std.specs.Ordering.{is_lt, ordering_then}
use Rattle.std.specs.declared.cmp.Ordering.{Ordering}
use Rattle.std.specs.declared.cmp.Ordering.TheVariants.{Less, Equal, Greater}
use Rattle.std.proofs.lemmas.Bool.{cases_Bool, and_parts, not_from_false, eqb-true, or_left, or_right, and_from}
use Rattle.std.proofs.lemmas.Bool.Decides.{nat_tests}
use Rattle.rv_retrieval.proofs.Controls.{sorted_is_led}
use Rattle.rv_reader.proofs.Rows.{found_row}
use Rattle.rv_value.specs.declared.value.Value.{Value}
use Rattle.rv_value.specs.declared.record.Record.{Record}
use Rattle.rv_value.specs.declared.record.IndexEntry.{IndexEntry}
use Rattle.rv_value.specs.Order.{value_cmp, values_cmp}
use Rattle.rv_value.specs.Orders.{values_cmp_total}
use Rattle.rv_rows.specs.Rising.{Rising}
use Rattle.rv_rows.proofs.Puts.{rising_filter}
use Rattle.rv_restrict.specs.declared.atom.Atom.{Atom}
use Rattle.rv_restrict.specs.Parts.{stands_among}
use Rattle.rv_restrict.specs.Truth.{qualifies}
use Rattle.rv_rows.proofs.Cuts.{rising_drop}
use Rattle.rv_reader.specs.Entries.{column_of, comes_before, entry_of, is_in, run}
use Rattle.rv_reader.specs.Shown.{Shown}
use Rattle.rv_reader.specs.Tables.{row_at}
use Rattle.rv_reader.proofs.Orders.{key_not, one_way}
use Rattle.rv_reader.proofs.Sorting.{entries_ascend}
use Rattle.rv_reader.specs.declared.step.Step.{Step}
use Rattle.rv_reader.specs.declared.step.Step.TheVariants.{Row, Working, End}
use Rattle.rv_scan.specs.Alongs.{Along, Follows, fetched, left}
use Rattle.rv_scan.specs.Due.{Skipped, due, is_due, skips}
use Rattle.rv_scan.specs.Told.{NamesThese, told}
use Rattle.rv_scan.proofs.Telling.{told_wide, told_reads, told_truth}
use Rattle.rv_jscan.specs.Entries.{has_entry}
use Rattle.rv_final.specs.Rest.{order_of, qualifies_at}
use Rattle.rv_retrieval.specs.Fronts.{front_left}
use Rattle.rv_scan.specs.Fronts.{Front, front_rest, walk_of}
use Rattle.rv_retrieval.specs.Shape.{LeastOf, RetrievalFits, Shape, front_entries, is_sorted, rows_of}
use Rattle.rv_final.proofs.Rests.{rows_found, told_by}
use Rattle.rv_final.proofs.Dues.{StandsFor}
use Rattle.rv_retrieval.proofs.Entered.{AreOf, Covering, EntryOf, entries_stand, left_stands}
use Rattle.rv_retrieval.proofs.Fronting.{FrontStep, SkipsBy, front_items, items_rest, own_entries, unskipped}

-- the records that a scan looks through, beside their entries
abbrev pub ItemsOf : List ℕ → List (List Atom) → List Record → List IndexEntry → List Record → Type 0
ItemsOf need only rows [] [] = Unit {0}
ItemsOf need only rows [] (x ∷ xs) = ⊥
ItemsOf need only rows (e ∷ es) [] = ⊥
ItemsOf need only rows (e ∷ es) (x ∷ xs) = (x.row.0 ≡ e.row.0) × StandsFor need only rows x × ItemsOf need only rows es xs

fetched_items : (need : List ℕ) (only : List (List Atom)) (columns : List ℕ) (rows : List Record) (es : List IndexEntry) → AreOf columns rows es → ItemsOf need only rows es (fetched rows es)
fetched_items need only columns rows [] a = tt
fetched_items need only columns rows (e ∷ es) a =
    let o = a.0 in
    let number = found_row rows e.row.0 o.row o.there in
    rw o.there (number, record { row = o.row; there = ap (row_at rows) number ∙ o.there; agrees = λ c h. refl; wide = λ c h l. l; same = refl }, fetched_items need only columns rows es a.1)

told_items : (need : List ℕ) (only : List (List Atom)) (columns : List ℕ) (rows : List Record) (es : List IndexEntry) → NamesThese columns only → Covering columns need → AreOf columns rows es → ItemsOf need only rows es (map (told columns) es)
told_items need only columns rows [] names covering a = tt
told_items need only columns rows (e ∷ es) names covering a =
    let o = a.0 in (
      refl,
      subst (λ (x : IndexEntry). row_at rows x.row.0 ≡ Some o.row → StandsFor need only rows (told columns x)) (sym o.is) (λ there. record {
        row = o.row;
        there = there;
        agrees = λ c h. told_reads columns o.row c (covering c h);
        wide = λ c h l. told_wide columns o.row c (covering c h);
        same = told_truth columns only o.row names;
      }) o.there,
      told_items need only columns rows es names covering a.1,
    )

front_itemsof : (f : Front) (need : List ℕ) (only : List (List Atom)) (entries : List IndexEntry) (rows : List Record) → (f.alone ≡ true → NamesThese f.columns only) → (f.alone ≡ true → Covering f.columns need) → Follows (walk_of f) entries → AreOf f.columns rows entries → ItemsOf need only rows (left (walk_of f) entries) (front_items f entries rows)
front_itemsof f need only entries rows =
    elim f.alone as (λ b. (b ≡ true → NamesThese f.columns only) → (b ≡ true → Covering f.columns need) → Follows (if b then f.telling else f.fetching.walk) entries → AreOf f.columns rows entries → ItemsOf need only rows (left (if b then f.telling else f.fetching.walk) entries) (if b then map (told f.columns) (left f.telling entries) else fetched rows (left f.fetching.walk entries))) [
      | true ↦ λ names covering w a. told_items need only f.columns rows (left f.telling entries) (names refl) (covering refl) (left_stands f.telling f.columns rows entries w a)
      | false ↦ λ names covering w a. fetched_items need only f.columns rows (left f.fetching.walk entries) (left_stands f.fetching.walk f.columns rows entries w a)
    ]

-- the entry of a row among entries of which each has a property
entry_find : (P : IndexEntry → Bool) (columns : List ℕ) (rows : List Record) (n : ℕ) (es : List IndexEntry) → AreOf columns rows es → list_all P es ≡ true → has_entry n es ≡ true → (e : IndexEntry) × EntryOf columns rows e × (P e ≡ true) × (n ≡ e.row.0)
entry_find P columns rows n [] a all h = absurd (cc)
entry_find P columns rows n (e ∷ es) a all h =
    let parts = and_parts (P e) (list_all P es) all in
    elim (cases_Bool (nat_eq n e.row.0)) [
      | inl here ↦ (e, a.0, parts.0, eqb-true n e.row.0 here)
      | inr other ↦ entry_find P columns rows n es a.1 parts.1 (later (nat_eq n e.row.0) (has_entry n es) other h)
    ]
  where
    later : (a b : Bool) → a ≡ false → (a || b) ≡ true → b ≡ true
    later a b h i = grind arith

-- keys by fewer of their columns
prefix_not : (f g : ℕ → Value) (k : ℕ) (columns : List ℕ) → is_lt (values_cmp (map f columns) (map g columns)) ≡ false → is_lt (values_cmp (map f (take k columns)) (map g (take k columns))) ≡ false
prefix_not f g zero columns h = refl
prefix_not f g (suc k) [] h = refl
prefix_not f g (suc k) (c ∷ columns) h = by (value_cmp (f c) (g c)) h (prefix_not f g k columns)
  where
    by : (o : Ordering) → is_lt (ordering_then o (values_cmp (map f columns) (map g columns))) ≡ false → (is_lt (values_cmp (map f columns) (map g columns)) ≡ false → is_lt (values_cmp (map f (take k columns)) (map g (take k columns))) ≡ false) → is_lt (ordering_then o (values_cmp (map f (take k columns)) (map g (take k columns)))) ≡ false
    by Less h more = absurd (cc)
    by Equal h more = more h
    by Greater h more = refl

order_agrees : (order : List ℕ) (x y : Record) → ((c : ℕ) → stands_among order c ≡ true → column_of x.values c ≡ column_of y.values c) → order_of order x ≡ order_of order y
order_agrees [] x y a = refl
order_agrees (c ∷ order) x y a =
    let first = a c (or_left (c == c) (stands_among order c) (itself c)) in
    let rest = order_agrees order x y (λ d h. a d (or_right (c == d) (stands_among order d) h)) in
    λ i. first i ∷ rest i
  where
    itself : (n : ℕ) → (n == n) ≡ true
    itself n = grind (arith, nat_tests)

record Leads (need order columns : List ℕ) : Type 0 where
  needs : (c : ℕ) → stands_among order c ≡ true → stands_among need c ≡ true
  begins : take (length order) columns ≡ order

-- two entries in their order, by the order columns of their rows
entries_least : (order columns : List ℕ) (rows : List Record) (e f : IndexEntry) (x y : Record) → take (length order) columns ≡ order → e ≡ entry_of columns x → f ≡ entry_of columns y → comes_before e f ≡ true → is_lt (values_cmp (order_of order y) (order_of order x)) ≡ false
entries_least order columns rows e f x y begins ex fy h =
    let turned = one_way e f h in
    let keys = key_not e f turned in
    let whole : is_lt (values_cmp (map (column_of y.values) columns) (map (column_of x.values) columns)) ≡ false = subst (λ (a : IndexEntry). is_lt (values_cmp (map (column_of y.values) columns) a.key) ≡ false) ex (subst (λ (a : IndexEntry). is_lt (values_cmp a.key e.key) ≡ false) fy keys) in
    subst (λ (o : List ℕ). is_lt (values_cmp (map (column_of y.values) o) (map (column_of x.values) o)) ≡ false) begins (prefix_not (column_of y.values) (column_of x.values) (length order) columns whole)

same_row : (rows : List Record) (n m : ℕ) (x y : Record) → n ≡ m → row_at rows n ≡ Some x → row_at rows m ≡ Some y → x ≡ y
same_row rows n m x y e a b = some (sym a ∙ ap (row_at rows) e ∙ b)
  where
    some : Some x ≡ Some y → x ≡ y
    some h = cc

least_of : (need order columns : List ℕ) (only : List (List Atom)) (rows : List Record) (skip : Skipped) (es : List IndexEntry) (xs more : List Record) (r y : Record) (n : ℕ) → Leads need order columns → Rising comes_before es → AreOf columns rows es → ItemsOf need only rows es xs → due only skip xs ≡ r ∷ more → row_at rows n ≡ Some y → qualifies only y.values ≡ true → skips skip n ≡ false → has_entry n es ≡ true → is_lt (values_cmp (order_of order y) (order_of order r)) ≡ false
least_of need order columns only rows skip [] xs more r y n l up a items e there q s h = absurd (cc)
least_of need order columns only rows skip (f ∷ es) [] more r y n l up a items e there q s h = absurd items
least_of need order columns only rows skip (f ∷ es) (x ∷ xs) more r y n l up a items e there q s h =
    let stands = items.1 in
    elim (is_due only skip x) as (λ b. is_due only skip x ≡ b → cond b (x ∷ due only skip xs) (due only skip xs) ≡ r ∷ more → is_lt (values_cmp (order_of order y) (order_of order r)) ≡ false) [
      | true ↦ λ d e.
          let is : x ≡ r = cc in
          let mine : order_of order x ≡ order_of order stands.row = order_agrees order x stands.row (λ c k. stands.agrees c (l.needs c k)) in
          let told : is_lt (values_cmp (order_of order y) (order_of order stands.row)) ≡ false =
          elim (cases_Bool (nat_eq n f.row.0)) [
            | inl here ↦
                let same : y ≡ stands.row = same_row rows n x.row.0 y stands.row (eqb-true n f.row.0 here ∙ sym items.0) there stands.there in
                ap (λ (z : Record). is_lt (values_cmp (order_of order z) (order_of order stands.row))) same ∙ ap is_lt (tied_itself values_cmp_total (order_of order stands.row))
            | inr other ↦
                let found = entry_find (comes_before f) columns rows n es a.1 up.0 (later (nat_eq n f.row.0) (has_entry n es) other h) in
                let its = found.1 in
                let mine_row : a.0.row ≡ stands.row = same_row rows f.row.0 x.row.0 a.0.row stands.row (sym items.0) a.0.there stands.there in
                let its_row : its.row ≡ y = same_row rows found.0.row.0 n its.row y (sym found.3) its.there there in
                subst (λ (z : Record). is_lt (values_cmp (order_of order z) (order_of order stands.row)) ≡ false) its_row (subst (λ (z : Record). is_lt (values_cmp (order_of order its.row) (order_of order z)) ≡ false) mine_row (entries_least order columns rows f found.0 a.0.row its.row l.begins a.0.is its.is found.2))
          ] in
          ap (λ (z : Record). is_lt (values_cmp (order_of order y) (order_of order z))) (sym is) ∙ ap (λ (o : List Value). is_lt (values_cmp (order_of order y) o)) mine ∙ told
      | false ↦ λ d e.
          elim (cases_Bool (nat_eq n f.row.0)) [
            | inl here ↦ absurd (
                let at : n ≡ x.row.0 = eqb-true n f.row.0 here ∙ sym items.0 in
                let same : y ≡ stands.row = same_row rows n x.row.0 y stands.row at there stands.there in
                let passes : qualifies only x.values ≡ true = stands.same ∙ ap (λ (z : Record). qualifies only z.values) (sym same) ∙ q in
                let unskipped_row : skips skip x.row.0 ≡ false = ap (skips skip) (sym at) ∙ s in
                let bad : true ≡ false = sym (both_true (skips skip x.row.0) (qualifies only x.values) unskipped_row passes) ∙ d in cc)
            | inr other ↦ least_of need order columns only rows skip es xs more r y n l up.1 a.1 items.2 e there q s (later (nat_eq n f.row.0) (has_entry n es) other h)
          ]
    ] refl e
  where
    later : (a b : Bool) → a ≡ false → (a || b) ≡ true → b ≡ true
    later a b h i = grind arith

    both_true : (a b : Bool) → a ≡ false → b ≡ true → (not a && b) ≡ true
    both_true a b h i = grind arith

all_rest : (p : Record → Bool) (test : Record → Bool) (rows some : List Record) → AllByRecursion (λ (x : Record). row_at rows x.row.0 ≡ Some x) some → ((x : Record) → row_at rows x.row.0 ≡ Some x → test x ≡ true → p x ≡ true) → list_all p (filter test some) ≡ true
all_rest p test rows [] a h = refl
all_rest p test rows (x ∷ some) a h =
    let tail = all_rest p test rows some a.1 h in
    elim (test x) as (λ b. test x ≡ b → list_all p (cond b (x ∷ filter test some) (filter test some)) ≡ true) [
      | true ↦ λ t. and_from (p x) (list_all p (filter test some)) (h x a.0 t) tail
      | false ↦ λ t. tail
    ] refl

left_rising : (along : Along) (entries : List IndexEntry) → Follows along entries → Rising comes_before entries → Rising comes_before (left along entries)
left_rising along entries f up = subst (Rising comes_before) (sym f.1) (rising_drop comes_before f.0 (run entries along.range) (rising_filter comes_before (is_in along.range) entries up))

found_least : (v : Shape) (shown : Shown) (skip : Skipped) (r : Record) (more : List Record) → RetrievalFits v shown → is_sorted v.strategy ≡ true → SkipsBy v skip → front_rest v.front (front_entries v shown) (rows_of v shown) v.query.only skip ≡ r ∷ more → LeastOf v shown (Row r)
found_least v shown skip r more f sorted by e =
    let led = sorted_is_led v.strategy sorted in
    let ff = f.front led in
    let entries = front_entries v shown in
    let rows = rows_of v shown in
    let only = v.query.only in
    let need = v.query.need in
    let order = v.query.order in
    let columns = v.front.columns in
    let stands : AreOf columns rows entries = subst (AreOf columns rows) (sym ff.entries) (entries_stand columns rows f.ascend) in
    let up : Rising comes_before entries = subst (Rising comes_before) (sym ff.entries) (entries_ascend columns rows f.ascend) in
    let es = left (walk_of v.front) entries in
    let xs = front_items v.front entries rows in
    let items = front_itemsof v.front need only entries rows ff.can.names ff.covering ff.follows stands in
    let first : due only skip xs ≡ r ∷ more = sym (items_rest v.front entries rows only skip) ∙ e in
    let leads : Leads need order columns = record { needs = ff.needs; begins = ff.begins sorted } in
    all_rest (λ (x : Record). not (is_lt (values_cmp (order_of order x) (order_of order r)))) (λ (x : Record). qualifies only x.values && front_left v.front entries x.row.0) rows rows (rows_found rows f.ascend) (λ x there t.
    let parts = and_parts (qualifies only x.values) (front_left v.front entries x.row.0) t in
    let q : qualifies_at only rows x.row.0 ≡ true = told_by only rows x.row.0 x f.ascend there ∙ parts.0 in
    not_from_false _ (least_of need order columns only rows skip es xs more r x x.row.0 leads (left_rising (walk_of v.front) entries ff.follows up) (left_stands (walk_of v.front) columns rows entries ff.follows stands) items first there parts.0 (unskipped v shown skip x.row.0 f by q) parts.1))

one_least : (v : Shape) (new : Front) (shown : Shown) (skip : Skipped) (s : Step Record) → RetrievalFits v shown → is_sorted v.strategy ≡ true → SkipsBy v skip → FrontStep v new shown skip s → LeastOf v shown s
one_least v new shown skip (Row r) f sorted by step =
    let ff = f.front (sorted_is_led v.strategy sorted) in
    let at : own_entries v shown ≡ front_entries v shown = ap (shown.entries (walk_of v.front).index) ff.can.at_snap in
    let rows : shown.rows v.front.fetching.table (walk_of v.front).snap ≡ rows_of v shown = ap (λ (t : ℕ). shown.rows t (walk_of v.front).snap) ff.can.of_table ∙ ap (shown.rows v.query.table) ff.can.at_snap in
    found_least v shown skip r _ f sorted by (sym (ap (λ (rs : List Record). front_rest v.front (own_entries v shown) rs v.query.only skip) rows ∙ ap (λ (es : List IndexEntry). front_rest v.front es (rows_of v shown) v.query.only skip) at) ∙ step.0)
one_least v new shown skip Working f sorted by step = tt
one_least v new shown skip End f sorted by step = tt

pub front_least : {E : Type 0} (r : Result (Step Record) E) (v : Shape) (new : Front) (shown : Shown) (skip : Skipped) → RetrievalFits v shown → is_sorted v.strategy ≡ true → SkipsBy v skip → IfOk r (FrontStep v new shown skip) → IfOk r (LeastOf v shown)
front_least (Ok s) v new shown skip f sorted by step = one_least v new shown skip s f sorted by step
front_least (Err e) v new shown skip f sorted by step = tt
