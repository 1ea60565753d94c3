-- The sorted list of entries: what a sort makes of them, and what holds of the entries of a table's rows.
use Rattle.std.proofs.Common.{◌≡◌, ℕ, List, [], ◌∷◌, Bool, true, false, not, ◌==◌, cond, refl, ap, ◌∙◌, inl, inr, arith, length, map, suc, filter}
use Rattle.std.proofs.lemmas.Bool.{cases_Bool, and_parts}
use Rattle.std.proofs.lemmas.Bool.Decides.{nat_tests}
use Rattle.std.specs.List.{list_all, AllByRecursion}
use Rattle.std.specs.List.Sorted.{IsPermutation, IsSorted}
use Rattle.std.specs.Ordering.{nat_cmp, is_eq}
use Rattle.std.specs.declared.cmp.Ordering.TheVariants.{Equal}
use Rattle.std.proofs.lemmas.List.{length-map}
use Rattle.rv_value.specs.declared.record.Record.{Record}
use Rattle.rv_value.specs.declared.record.IndexEntry.{IndexEntry}
use Rattle.rv_value.specs.Entries.{entry_cmp}
use Rattle.rv_value.specs.Order.{values_cmp}
use Rattle.rv_value.specs.Orders.{entry_cmp_total}
use Rattle.rv_value.proofs.Same.{both_equal, numbers_same, values_same}
use Rattle.rv_value.proofs.Sorting as sorts
use Rattle.rv_value.proofs.Sorting.{IsSort}
use Rattle.rv_value.proofs.Tests.{equal_is}
use Rattle.rv_value.proofs.Lists.{all_filter}
use Rattle.rv_rows.specs.Rows as rows_by_number
use Rattle.rv_rows.specs.Rows.{comes_below}
use Rattle.rv_reader.specs.Entries.{comes_before, Ascend, column_of, entry_of, sorted_in, sorted, entries_of}
use Rattle.rv_reader.specs.Storing.{AreKeys}
use Rattle.rv_reader.proofs.Orders.{follows, stays_above}

-- Entries that compare as equal are the same.
entry_same : (a b : IndexEntry) → entry_cmp a b ≡ Equal → a ≡ b
entry_same a b e =
    let parts = both_equal (values_cmp a.key b.key) (nat_cmp a.row.0 b.row.0) e in
    let key = values_same a.key b.key parts.0 in
    let number = numbers_same a.row.0 b.row.0 parts.1 in
    λ i. record { key = key i; row = record { 0 = number i } }

-- the same, where equality is a test
pub equal_entries : (a b : IndexEntry) → is_eq (entry_cmp a b) ≡ true → a ≡ b
equal_entries a b h = entry_same a b (equal_is (entry_cmp a b) h)

pub sort_of_entries : IsSort entry_cmp sorted_in sorted
sort_of_entries = record {
  total = entry_cmp_total;
  one = entry_same;
  put_first = λ a. refl;
  put_next = λ a x xs. refl;
  none = refl;
  more = λ x xs. refl;
}

pub same : (a b : IndexEntry) → comes_before a b ≡ false → comes_before b a ≡ false → a ≡ b
same = sorts.same sort_of_entries

-- A list in order with the entries of another, each as often, is the other sorted.
pub sorted_is : (xs ys : List IndexEntry) → IsPermutation xs ys → IsSorted entry_cmp ys → ys ≡ sorted xs
sorted_is = sorts.sorted_is sort_of_entries

-- What holds of the entries of rows.

-- no entry has the number
abbrev others : ℕ → List IndexEntry → Bool
others number = list_all (λ (e : IndexEntry). not (e.row.0 == number))

apart : (a b : IndexEntry) → not (a.row.0 == b.row.0) ≡ true → comes_before a b ≡ false → comes_before b a ≡ true
apart a b h f = elim (cases_Bool (comes_before b a)) [
  | inl t ↦ t
  | inr g ↦
      let e : a.row.0 ≡ b.row.0 = ap (λ (x : IndexEntry). x.row.0) (same a b f g) in
      grind (arith, nat_tests)
]

pub all_in : (P : IndexEntry → Type 0) (e : IndexEntry) (xs : List IndexEntry) → P e → AllByRecursion P xs → AllByRecursion P (sorted_in e xs)
all_in P e [] here all = (here, tt)
all_in P e (x ∷ xs) here all =
    elim (comes_before x e) as (λ b. AllByRecursion P (cond b (x ∷ sorted_in e xs) (e ∷ x ∷ xs))) [
      | true ↦ (all.0, all_in P e xs here all.1)
      | false ↦ (here, all)
    ]

pub all_sorted_in : (p : IndexEntry → Bool) (e : IndexEntry) (xs : List IndexEntry) → p e ≡ true → list_all p xs ≡ true → list_all p (sorted_in e xs) ≡ true
all_sorted_in p e [] h all = rw h refl
all_sorted_in p e (x ∷ xs) h all =
    let parts = and_parts (p x) (list_all p xs) all in
    elim (comes_before x e) as (λ b. list_all p (cond b (x ∷ sorted_in e xs) (e ∷ x ∷ xs)) ≡ true) [
      | true ↦ rw parts.0 (all_sorted_in p e xs h parts.1)
      | false ↦ rw (h, parts.0) parts.1
    ]

pub all_sorted : (p : IndexEntry → Bool) (xs : List IndexEntry) → list_all p xs ≡ true → list_all p (sorted xs) ≡ true
all_sorted p [] all = refl
all_sorted p (x ∷ xs) all =
    let parts = and_parts (p x) (list_all p xs) all in
    all_sorted_in p x (sorted xs) parts.0 (all_sorted p xs parts.1)

pub all_behind : (e x : IndexEntry) (xs : List IndexEntry) → comes_before e x ≡ true → list_all (comes_before x) xs ≡ true → list_all (comes_before e) xs ≡ true
all_behind e x [] h all = refl
all_behind e x (y ∷ ys) h all =
    let parts = and_parts (comes_before x y) (list_all (comes_before x) ys) all in
    rw (follows e x y h parts.0) (all_behind e x ys h parts.1)

-- those behind an entry that is not before one are not before it
pub none_before : (e x : IndexEntry) (xs : List IndexEntry) → comes_before x e ≡ false → list_all (comes_before x) xs ≡ true → list_all (λ y. not (comes_before y e)) xs ≡ true
none_before e x [] f all = refl
none_before e x (y ∷ ys) f all =
    let parts = and_parts (comes_before x y) (list_all (comes_before x) ys) all in
    rw (stays_above e x y parts.0 f) (none_before e x ys f parts.1)

ascend_in : (e : IndexEntry) (xs : List IndexEntry) → others e.row.0 xs ≡ true → Ascend xs → Ascend (sorted_in e xs)
ascend_in e [] o a = (refl, tt)
ascend_in e (x ∷ xs) o a =
    let parts = and_parts (not (x.row.0 == e.row.0)) (others e.row.0 xs) o in
    elim (cases_Bool (comes_before x e)) [
      | inl t ↦ rw t (all_sorted_in (comes_before x) e xs t a.0, ascend_in e xs parts.1 a.1)
      | inr f ↦
          let h : comes_before e x ≡ true = apart x e parts.0 f in
          rw f ((let all = all_behind e x xs h a.0 in rw h all), a)
    ]

rows_others : (columns : List ℕ) (r : Record) (rows : List Record) → list_all (comes_below r) rows ≡ true → others r.row.0 (map (entry_of columns) rows) ≡ true
rows_others columns r [] all = refl
rows_others columns r (s ∷ rows) all =
    let parts = and_parts (comes_below r s) (list_all (comes_below r) rows) all in
    let rest = rows_others columns r rows parts.1 in
    let here : not (s.row.0 == r.row.0) ≡ true = (let below = parts.0 in grind (arith, nat_tests)) in
    rw here rest

pub entries_ascend : (columns : List ℕ) (rows : List Record) → rows_by_number.Ascend rows → Ascend (entries_of columns rows)
entries_ascend columns [] a = tt
entries_ascend columns (r ∷ rows) a =
    ascend_in (entry_of columns r) (entries_of columns rows) (all_sorted (λ (e : IndexEntry). not (e.row.0 == r.row.0)) (map (entry_of columns) rows) (rows_others columns r rows a.0)) (entries_ascend columns rows a.1)

-- keys of one length, of those that pass a test
pub keys_filter : (n : ℕ) (p : IndexEntry → Bool) (es : List IndexEntry) → AreKeys n es → AreKeys n (filter p es)
keys_filter n p es all = all_filter (λ (e : IndexEntry). length e.key ≡ n) p es all

pub entries_keys : (columns : List ℕ) (rows : List Record) → AreKeys (length columns) (entries_of columns rows)
entries_keys columns [] = tt
entries_keys columns (r ∷ rows) = all_in (λ (e : IndexEntry). length e.key ≡ length columns) (entry_of columns r) (entries_of columns rows) (length-map columns (column_of r.values)) (entries_keys columns rows)

count_in : (e : IndexEntry) (xs : List IndexEntry) → length (sorted_in e xs) ≡ suc (length xs)
count_in e [] = refl
count_in e (x ∷ xs) =
    elim (comes_before x e) as (λ b. length (cond b (x ∷ sorted_in e xs) (e ∷ x ∷ xs)) ≡ suc (suc (length xs))) [
      | true ↦ ap (λ n. suc n) (count_in e xs)
      | false ↦ refl
    ]

pub entries_count : (columns : List ℕ) (rows : List Record) → length (entries_of columns rows) ≡ length rows
entries_count columns [] = refl
entries_count columns (r ∷ rows) = count_in (entry_of columns r) (entries_of columns rows) ∙ ap (λ n. suc n) (entries_count columns rows)
