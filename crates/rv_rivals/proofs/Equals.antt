-- Rows that equal an earlier one.
use Rattle.std.proofs.Common.{◌≡◌, ℕ, zero, suc, ◌+◌, List, [], ◌∷◌, ◌++◌, Bool, true, false, not, ◌&&◌, ◌||◌, ◌==◌, cond, Option, Some, inl, inr, refl, ap, sym, subst, ◌∙◌, find, filter, map, length, drop, arith, nat_lt, None, take}
use Rattle.std.specs.Prelude.{slice_get}
use Rattle.std.proofs.lemmas.Bool.{cases_Bool, and_parts}
use Rattle.std.proofs.lemmas.Bool.Decides.{nat_tests}
use Rattle.std.proofs.lemmas.List.Elements.{filter-append}
use Rattle.std.specs.List.{list_all, list_any}
use Rattle.rv_value.specs.declared.value.Value.{Value}
use Rattle.rv_value.specs.declared.record.Record.{Record}
use Rattle.rv_value.specs.declared.record.IndexEntry.{IndexEntry}
use Rattle.rv_value.specs.declared.range.Range.{Range}
use Rattle.std.specs.Option.{option_map}
use Rattle.std.proofs.lemmas.List.{length-map}
use Rattle.std.proofs.Math.Bool.{and-false}
use Rattle.rv_value.proofs.Lists.{passes_take}
use Rattle.rv_value.specs.declared.record.RowNo.{RowNo}
use Rattle.rv_value.proofs.Same.{equal_values, values_turned}
use Rattle.rv_catalog.specs.declared.def.IndexDef.{IndexDef}
use Rattle.rv_rows.specs.Rising.{put_in}
use Rattle.rv_rows.specs.Rows.{Ascend, comes_below}
use Rattle.rv_rows.proofs.Puts.{rising_filter}
use Rattle.rv_reader.specs.Entries.{comes_before, entries_of, entry_of, is_in, run}
use Rattle.rv_model.specs.Offers.{same_values}
use Rattle.rv_model.specs.Rivals.{are_equal, equals_lower, first_equal, has_key, is_null, key_of}
use Rattle.rv_rivals.specs.Lookups.{is_whole}
use Rattle.rv_rivals.specs.Points.{has_entry, point}
use Rattle.rv_rivals.proofs.Entries.{put_more}
use Rattle.rv_rivals.proofs.Finding.{find_same}
use Rattle.rv_rivals.proofs.Points.{point_runs}

-- Equal keys.

-- A row with NULL in its key equals none.

null_apart : (columns : List ℕ) (s r : Record) → list_any is_null (key_of columns r.values) ≡ true → are_equal columns s r ≡ false
null_apart columns s r null = elim (cases_Bool (same_values (key_of columns r.values) (key_of columns s.values))) [
  | inl t ↦
      let is = equal_values (key_of columns r.values) (key_of columns s.values) t in
      let null_too : list_any is_null (key_of columns s.values) ≡ true = ap (list_any is_null) (sym is) ∙ null in
      rw null_too refl
  | inr f ↦ rw f (and-false (not (list_any is_null (key_of columns s.values))))
]

pub null_none : (columns : List ℕ) (r : Record) (rows : List Record) → list_any is_null (key_of columns r.values) ≡ true → false ≡ list_any (λ (s : Record). are_equal columns s r) rows
null_none columns r [] null = refl
null_none columns r (s ∷ rows) null = rw (null_apart columns s r null) (null_none columns r rows null)

-- Of a row without NULL: whether an entry of an earlier one has its key.

equal_any : (columns : List ℕ) (r : Record) (rows : List Record) → list_any (λ (s : Record). are_equal columns s r) rows ≡ list_any (has_key columns (key_of columns r.values)) (filter (is_whole columns) rows)
equal_any columns r [] = refl
equal_any columns r (s ∷ rows) =
    let rest = equal_any columns r rows in
    let turned = values_turned (key_of columns r.values) (key_of columns s.values) in
    elim (cases_Bool (list_any is_null (key_of columns s.values))) [
      | inl t ↦ rw t rest
      | inr f ↦ rw f (λ i. turned i || rest i)
    ]

any_mapped : (columns : List ℕ) (p : IndexEntry → Bool) (rows : List Record) → list_any p (map (entry_of columns) rows) ≡ list_any (λ (r : Record). p (entry_of columns r)) rows
any_mapped columns p [] = refl
any_mapped columns p (r ∷ rows) = ap (λ b. p (entry_of columns r) || b) (any_mapped columns p rows)

any_some : {X : Type 0} (p : X → Bool) (xs : List X) → list_any (λ (x : X). true) (filter p xs) ≡ list_any p xs
any_some p [] = refl
any_some p (x ∷ xs) = elim (cases_Bool (p x)) [ inl t ↦ rw t refl | inr f ↦ rw f (any_some p xs) ]

any_all : (columns : List ℕ) (rows : List Record) → list_any (λ (e : IndexEntry). true) (map (entry_of columns) rows) ≡ list_any (λ (r : Record). true) rows
any_all columns rows = any_mapped columns (λ (e : IndexEntry). true) rows

pub entry_any : (columns : List ℕ) (key : List Value) (rows : List Record) → Ascend rows → length key ≡ length columns → has_entry key (entries_of columns rows) ≡ list_any (has_key columns key) rows
entry_any columns key rows ascend long =
    sym (any_some (is_in (point key)) (entries_of columns rows)) ∙ ap (list_any (λ (e : IndexEntry). true)) (point_runs columns key rows ascend long)
    ∙ any_all columns (filter (has_key columns key) rows) ∙ any_some (has_key columns key) rows

pub met_is : (columns : List ℕ) (r : Record) (rows : List Record) (seen : List IndexEntry) (key : List Value) (has : Bool) → Ascend rows → seen ≡ entries_of columns (filter (is_whole columns) rows) → key ≡ key_of columns r.values → has ≡ has_entry key seen
    → has ≡ list_any (λ (s : Record). are_equal columns s r) rows
met_is columns r rows seen key has ascend is at told =
    told ∙ (λ i. has_entry (at i) (is i)) ∙ entry_any columns (key_of columns r.values) (filter (is_whole columns) rows) (rising_filter comes_below (is_whole columns) rows ascend) (length-map columns _)
    ∙ sym (equal_any columns r rows)

-- A row more was seen.

pub whole_more : (columns : List ℕ) (rows : List Record) (r : Record) (seen next : List IndexEntry) → Ascend (rows ++ r ∷ []) → list_any is_null (key_of columns r.values) ≡ false → seen ≡ entries_of columns (filter (is_whole columns) rows)
    → next ≡ put_in comes_before (entry_of columns r) seen → next ≡ entries_of columns (filter (is_whole columns) (rows ++ r ∷ []))
whole_more columns rows r seen next ascend whole is put =
    let its : filter (is_whole columns) (r ∷ []) ≡ r ∷ [] = rw whole refl in
    let more : filter (is_whole columns) (rows ++ r ∷ []) ≡ filter (is_whole columns) rows ++ r ∷ [] = filter-append (is_whole columns) rows (r ∷ []) ∙ ap (λ rs. filter (is_whole columns) rows ++ rs) its in
    put ∙ ap (put_in comes_before (entry_of columns r)) is
    ∙ put_more columns (filter (is_whole columns) rows) r (subst Ascend more (rising_filter comes_below (is_whole columns) (rows ++ r ∷ []) ascend))
    ∙ ap (entries_of columns) (sym more)

pub null_more : (columns : List ℕ) (rows : List Record) (r : Record) (seen next : List IndexEntry) → list_any is_null (key_of columns r.values) ≡ true → seen ≡ entries_of columns (filter (is_whole columns) rows)
    → next ≡ seen → next ≡ entries_of columns (filter (is_whole columns) (rows ++ r ∷ []))
null_more columns rows r seen next null is same =
    let its : filter (is_whole columns) (r ∷ []) ≡ [] = rw null refl in
    let more : filter (is_whole columns) (rows ++ r ∷ []) ≡ filter (is_whole columns) rows ++ [] = filter-append (is_whole columns) rows (r ∷ []) ∙ ap (λ rs. filter (is_whole columns) rows ++ rs) its in
    same ∙ is ∙ ap (entries_of columns) (joined_none (filter (is_whole columns) rows) ∙ sym more)
  where
    joined_none : (xs : List Record) → xs ≡ xs ++ []
    joined_none [] = refl
    joined_none (x ∷ xs) = ap (λ ys. x ∷ ys) (joined_none xs)

-- Lower rows are those in front.

none_lower : (f : Record → Bool) (r : Record) (rows : List Record) → list_all (comes_below r) rows ≡ true → list_any (λ (s : Record). nat_lt s.row.0 r.row.0 && f s) rows ≡ false
none_lower f r [] all = refl
none_lower f r (s ∷ rows) all =
    let parts = and_parts (comes_below r s) (list_all (comes_below r) rows) all in
    let not_lower : nat_lt s.row.0 r.row.0 ≡ false = (let above = parts.0 in grind (arith, nat_tests)) in
    rw not_lower (none_lower f r rows parts.1)

pub lower_front : (f : Record → Bool) (front : List Record) (r : Record) (back : List Record) → Ascend (front ++ r ∷ back) → list_any (λ (s : Record). nat_lt s.row.0 r.row.0 && f s) (front ++ r ∷ back) ≡ list_any f front
lower_front f [] r back ascend =
    let not_lower : nat_lt r.row.0 r.row.0 ≡ false = grind (arith, nat_tests) in
    rw not_lower (none_lower f r back ascend.0)
lower_front f (s ∷ front) r back ascend =
    let below : comes_below s r ≡ true = passes front ascend.0 in
    rw below (ap (λ b. f s || b) (lower_front f front r back ascend.1))
  where
    passes : (xs : List Record) → list_all (comes_below s) (xs ++ r ∷ back) ≡ true → comes_below s r ≡ true
    passes [] all = (and_parts (comes_below s r) (list_all (comes_below s) back) all).0
    passes (x ∷ xs) all = passes xs (and_parts (comes_below s x) (list_all (comes_below s) (xs ++ r ∷ back)) all).1

-- one row further: it was not found
pub find_next : (p : Record → Bool) (rows : List Record) (k : ℕ) (r : Record) (whole : Option Record) → slice_get rows k ≡ Some r → p r ≡ false → find p (drop k rows) ≡ whole → find p (drop (suc k) rows) ≡ whole
find_next p [] k r whole is f h = cc
find_next p (x ∷ xs) zero r whole is f h =
    let own : x ≡ r = cc in
    let not_here : p x ≡ false = ap p own ∙ f in
    sym (ap (λ b. cond b (Some x) (find p xs)) not_here) ∙ h
find_next p (x ∷ xs) (suc k) r whole is f h = find_next p xs k r whole is f h

-- and where it is found
pub find_here : (p : Record → Bool) (rows : List Record) (k : ℕ) (r : Record) (whole : Option Record) → slice_get rows k ≡ Some r → p r ≡ true → find p (drop k rows) ≡ whole → Some r ≡ whole
find_here p [] k r whole is t h = cc
find_here p (x ∷ xs) zero r whole is t h =
    let own : x ≡ r = cc in
    let here : p x ≡ true = ap p own ∙ t in
    ap (λ (y : Record). Some y) (sym own) ∙ sym (ap (λ b. cond b (Some x) (find p xs)) here) ∙ h
find_here p (x ∷ xs) (suc k) r whole is t h = find_here p xs k r whole is t h

-- a count of entries in the range of a key

none_zero : (n : ℕ) → not (suc n == 0) ≡ true
none_zero n = (let some : (suc n == 0) ≡ false = grind (arith, nat_tests) in ap not some)

step : {X : Type 0} (p : X → Bool) (x : X) (xs : List X) (b : Bool) → not (length (filter p xs) == 0) ≡ list_any p xs → not (length (cond b (x ∷ filter p xs) (filter p xs)) == 0) ≡ (b || list_any p xs)
step p x xs true rest = none_zero (length (filter p xs))
step p x xs false rest = rest

pub counted_any : (key : List Value) (range : Range) (entries : List IndexEntry) (n : ℕ) → range ≡ point key → n ≡ length (run entries range) → not (n == 0) ≡ has_entry key entries
counted_any key range entries n is count = ap (λ m. not (m == 0)) (count ∙ ap (λ r. length (run entries r)) is) ∙ some_counted (is_in (point key)) entries
  where
    some_counted : (p : IndexEntry → Bool) (xs : List IndexEntry) → not (length (filter p xs) == 0) ≡ list_any p xs
    some_counted p [] = refl
    some_counted p (x ∷ xs) = step p x xs (p x) (some_counted p xs)

-- ---- steps of the functions

pub null_key : (columns : List ℕ) (values key : List Value) (b : Bool) → key ≡ key_of columns values → b ≡ list_any is_null key → list_any is_null (key_of columns values) ≡ b
null_key columns values key b is told = ap (list_any is_null) (sym is) ∙ sym told

pub ascend_taken : (k : ℕ) (rows : List Record) → Ascend rows → Ascend (take k rows)
ascend_taken zero rows ascend = tt
ascend_taken (suc k) [] ascend = tt
ascend_taken (suc k) (r ∷ rows) ascend = (passes_take (comes_below r) k rows ascend.0, ascend_taken k rows ascend.1)

split_at : (rows : List Record) (k : ℕ) (r : Record) → slice_get rows k ≡ Some r → rows ≡ take k rows ++ r ∷ drop (suc k) rows
split_at [] k r is = cc
split_at (x ∷ xs) zero r is = (let own : x ≡ r = cc in λ i. own i ∷ xs)
split_at (x ∷ xs) (suc k) r is = ap (λ ys. x ∷ ys) (split_at xs k r is)

pub lower_at : (columns : List ℕ) (rows : List Record) (k : ℕ) (r : Record) → Ascend rows → slice_get rows k ≡ Some r → equals_lower columns rows r ≡ list_any (λ (s : Record). are_equal columns s r) (take k rows)
lower_at columns rows k r ascend is =
    let split = split_at rows k r is in
    ap (λ xs. list_any (λ (s : Record). nat_lt s.row.0 r.row.0 && are_equal columns s r) xs) split
    ∙ lower_front (λ (s : Record). are_equal columns s r) (take k rows) r (drop (suc k) rows) (subst Ascend split ascend)

none_unless : (p : Record → Bool) (b : Bool) (rows : List Record) → b ≡ false → find (λ (r : Record). b && p r) rows ≡ None
none_unless p b [] off = refl
none_unless p b (r ∷ rows) off = ap (λ c. cond (c && p r) (Some r) (find (λ (s : Record). b && p s) rows)) off ∙ none_unless p b rows off

pub not_unique : (def : IndexDef) (rows : List Record) → def.unique ≡ false → None ≡ option_map (λ (r : Record). r.row) (first_equal def rows)
not_unique def rows off = ap (option_map (λ (r : Record). r.row)) (sym (none_unless (equals_lower def.columns rows) def.unique rows off))

pub equal_found : (def : IndexDef) (rows seen : List Record) (columns : List ℕ) (row : Option RowNo) → def.unique ≡ true → columns ≡ def.columns → seen ≡ rows → row ≡ option_map (λ (r : Record). r.row) (find (equals_lower columns seen) seen)
    → row ≡ option_map (λ (r : Record). r.row) (first_equal def rows)
equal_found def rows seen columns row on is same found =
    found ∙ (λ i. option_map (λ (r : Record). r.row) (find (equals_lower (is i) (same i)) (same i)))
    ∙ ap (option_map (λ (r : Record). r.row)) (find_same (equals_lower def.columns rows) (λ r. def.unique && equals_lower def.columns rows r) rows (λ r. sym (ap (λ b. b && equals_lower def.columns rows r) on)))
