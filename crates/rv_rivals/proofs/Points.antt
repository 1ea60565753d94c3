-- The range of a key.
use Rattle.std.proofs.Common.{◌≡◌, ℕ, List, [], ◌∷◌, Bool, true, false, not, cond, inl, inr, refl, ap, sym, ◌∙◌, filter, map, length, arith, nat_lt}
use Rattle.std.proofs.lemmas.Bool.{cases_Bool, and_parts, not-true}
use Rattle.std.proofs.lemmas.Bool.Decides.{nat_tests}
use Rattle.std.specs.List.{list_all}
use Rattle.std.specs.Ordering.{is_eq, is_lt, nat_cmp}
use Rattle.std.specs.declared.cmp.Ordering.{Ordering}
use Rattle.std.specs.declared.cmp.Ordering.TheVariants.{Less, Equal, Greater}
use Rattle.rv_value.specs.declared.value.Value.{Value}
use Rattle.rv_value.specs.declared.record.Record.{Record}
use Rattle.rv_value.specs.declared.record.IndexEntry.{IndexEntry}
use Rattle.rv_value.specs.Order.{prefix_cmp, values_cmp}
use Rattle.rv_value.specs.Ranges.{falls_under, goes_over, in_side, place}
use Rattle.rv_rows.specs.Rows as rows_by_number
use Rattle.rv_rows.specs.Rows.{comes_below}
use Rattle.rv_reader.specs.Entries.{column_of, comes_before, entries_of, entry_of, is_in, run, sorted_in, Ascend}
use Rattle.rv_reader.proofs.Filters.{all_filter}
use Rattle.std.proofs.lemmas.List.{length-map}
use Rattle.rv_value.proofs.Same.{values_itself, equal_values, prefix_whole}
use Rattle.rv_value.specs.declared.range.Side.TheVariants.{Before, In, After}
use Rattle.rv_reader.proofs.Sorting.{entries_ascend, none_before}
use Rattle.rv_model.specs.Rivals.{has_key}
use Rattle.rv_rivals.specs.Points.{point}

-- the key of a row
abbrev key_in : List ℕ → Record → List Value
key_in columns r = map (column_of r.values) columns

-- A key is in the range exactly where it is equal to that of the bounds.

point_in : (key other : List Value) → in_side (place (point key) other) ≡ is_eq (prefix_cmp other key)
point_in key other = by (prefix_cmp other key)
  where
    by : (o : Ordering) → in_side (cond (falls_under o true) Before (cond (goes_over o true) After In)) ≡ is_eq o
    by Less = refl
    by Equal = refl
    by Greater = refl

entry_in : (columns : List ℕ) (key : List Value) (r : Record) → length key ≡ length columns → is_in (point key) (entry_of columns r) ≡ has_key columns key r
entry_in columns key r e = point_in key (key_in columns r) ∙ ap is_eq (prefix_whole (key_in columns r) key (length-map columns (column_of r.values) ∙ sym e))

-- A filter of a sorted list.

front_in : (e : IndexEntry) (ys : List IndexEntry) → list_all (λ y. not (comes_before y e)) ys ≡ true → sorted_in e ys ≡ e ∷ ys
front_in e [] all = refl
front_in e (y ∷ ys) all =
    let parts = and_parts (not (comes_before y e)) (list_all (λ x. not (comes_before x e)) ys) all in
    let no : comes_before y e ≡ false = not-true (comes_before y e) parts.0 in
    rw no refl

filter_in : (p : IndexEntry → Bool) (e : IndexEntry) (xs : List IndexEntry) → Ascend xs → filter p (sorted_in e xs) ≡ cond (p e) (sorted_in e (filter p xs)) (filter p xs)
filter_in p e [] ascend = refl
filter_in p e (x ∷ xs) ascend = elim (cases_Bool (comes_before x e)) [
  | inl t ↦ rw t (elim (cases_Bool (p x)) [
    | inl u ↦ rw (u, filter_in p e xs ascend.1) (elim (p e) as (λ b. x ∷ cond b (sorted_in e (filter p xs)) (filter p xs) ≡ cond b (sorted_in e (x ∷ filter p xs)) (x ∷ filter p xs)) [ true ↦ rw t refl | false ↦ refl ])
    | inr v ↦ rw v (filter_in p e xs ascend.1)
  ])
  | inr f ↦
      let none : list_all (λ y. not (comes_before y e)) (x ∷ xs) ≡ true = rw (f, none_before e x xs f ascend.0) refl in
      let front = front_in e (filter p (x ∷ xs)) (all_filter (λ y. not (comes_before y e)) p (x ∷ xs) none) in
      rw f (elim (p e) as (λ b. cond b (e ∷ filter p (x ∷ xs)) (filter p (x ∷ xs)) ≡ cond b (sorted_in e (filter p (x ∷ xs))) (filter p (x ∷ xs))) [ true ↦ sym front | false ↦ refl ])
]

-- Entries of one key come in the order of their rows.

later_not : (columns : List ℕ) (key : List Value) (r s : Record) → has_key columns key r ≡ true → has_key columns key s ≡ true → comes_below r s ≡ true → comes_before (entry_of columns s) (entry_of columns r) ≡ false
later_not columns key r s hr hs below =
    let kr : key_in columns r ≡ key = equal_values (key_in columns r) key hr in
    let ks : key_in columns s ≡ key = equal_values (key_in columns s) key hs in
    let same : values_cmp (key_in columns s) (key_in columns r) ≡ Equal = ap (λ k. values_cmp k (key_in columns r)) (ks ∙ sym kr) ∙ values_itself (key_in columns r) in
    rw same (number_not r.row.0 s.row.0 below)
  where
    number_not : (m n : ℕ) → nat_lt m n ≡ true → is_lt (nat_cmp n m) ≡ false
    number_not m n h = grind (arith, nat_tests)

rest_not : (columns : List ℕ) (key : List Value) (r : Record) (rows : List Record) → has_key columns key r ≡ true → list_all (comes_below r) rows ≡ true → list_all (λ y. not (comes_before y (entry_of columns r))) (map (entry_of columns) (filter (has_key columns key) rows)) ≡ true
rest_not columns key r [] h all = refl
rest_not columns key r (s ∷ rows) h all =
    let parts = and_parts (comes_below r s) (list_all (comes_below r) rows) all in
    let rest = rest_not columns key r rows h parts.1 in
    elim (cases_Bool (has_key columns key s)) [
      | inl t ↦ rw t (rw (later_not columns key r s h t parts.0) rest)
      | inr f ↦ rw f rest
    ]

pub point_runs : (columns : List ℕ) (key : List Value) (rows : List Record) → rows_by_number.Ascend rows → length key ≡ length columns → run (entries_of columns rows) (point key) ≡ map (entry_of columns) (filter (has_key columns key) rows)
point_runs columns key [] ascend e = refl
point_runs columns key (r ∷ rows) ascend e =
    let rest = point_runs columns key rows ascend.1 e in
    filter_in (is_in (point key)) (entry_of columns r) (entries_of columns rows) (entries_ascend columns rows ascend.1)
    ∙ rw (entry_in columns key r e, rest) (elim (cases_Bool (has_key columns key r)) [
      | inl t ↦ rw t (front_in (entry_of columns r) (map (entry_of columns) (filter (has_key columns key) rows)) (rest_not columns key r rows t ascend.0))
      | inr f ↦ rw f refl
    ])
