-- Rows of a table, looked up by number, and what filters, joins and changes do to them; how many there are.
use Rattle.std.proofs.Common.{◌≡◌, ℕ, ◌≤◌, List, [], ◌∷◌, ◌++◌, Bool, true, false, ◌==◌, cond, refl, ap, sym, ◌∙◌, inl, inr, filter, Option, Some, None, arith, ◌+◌, ◌*◌, ◌<◌, length, nat_lt}
use Rattle.std.proofs.lemmas.Bool.{cases_Bool, and_parts, ltb-true}
use Rattle.std.proofs.lemmas.Bool.Decides.{nat_tests}
use Rattle.std.specs.List.{list_all, AllByRecursion}
use Rattle.std.specs.Cmp.{first_so}
use Rattle.rv_value.specs.declared.value.Value.{Value}
use Rattle.rv_value.specs.declared.record.Record.{Record}
use Rattle.rv_rows.specs.declared.changes.Change.{Change}
use Rattle.rv_rows.specs.Changes.{rows_with_changes}
use Rattle.rv_rows.specs.Rows.{Ascend, comes_below, with_values}
use Rattle.rv_rows.proofs.Chains.{ascends_without, record_ascends}
use Rattle.rv_reader.specs.Tables.{row_at, IsTable}

pub row_behind : (number : ℕ) (r : Record) (rows : List Record) → list_all (comes_below r) rows ≡ true → number ≤ r.row.0 → row_at rows number ≡ None
row_behind number r [] all h = refl
row_behind number r (s ∷ rows) all h =
    let parts = and_parts (comes_below r s) (list_all (comes_below r) rows) all in
    let first = parts.0 in
    let rest = row_behind number r rows parts.1 h in
    let other : s.row.0 == number ≡ false = grind (arith, nat_tests) in
    rw other rest

pub found_row : (rows : List Record) (k : ℕ) (r : Record) → row_at rows k ≡ Some r → r.row.0 ≡ k
found_row [] k r f = absurd (cc)
found_row (x ∷ rows) k r f =
    elim (x.row.0 == k) as (λ b. (x.row.0 == k) ≡ b → cond b (Some x) (row_at rows k) ≡ Some r → r.row.0 ≡ k) [
      | true ↦ λ e f. let own : x ≡ r = cc in ap (λ (y : Record). y.row.0) (sym own) ∙ same _ _ e
      | false ↦ λ e f. found_row rows k r f
    ] refl f
  where
    same : (a b : ℕ) → (a == b) ≡ true → a ≡ b
    same a b e = grind (arith, nat_tests)

pub find_kept : (t : Record → Bool) (number : ℕ) → ((r : Record) → r.row.0 == number ≡ true → t r ≡ true) → (rows : List Record) → row_at (filter t rows) number ≡ row_at rows number
find_kept t number keeps [] = refl
find_kept t number keeps (r ∷ rows) =
    let rest = find_kept t number keeps rows in
    elim (cases_Bool (r.row.0 == number)) [
      | inl h ↦ rw (keeps r h, h) refl
      | inr f ↦ elim (cases_Bool (t r)) [ inl k ↦ rw (k, f) rest | inr g ↦ rw (g, f) rest ]
    ]

pub find_left : (t : Record → Bool) (number : ℕ) → ((r : Record) → r.row.0 == number ≡ true → t r ≡ false) → (rows : List Record) → row_at (filter t rows) number ≡ None
find_left t number leaves [] = refl
find_left t number leaves (r ∷ rows) =
    let rest = find_left t number leaves rows in
    elim (cases_Bool (r.row.0 == number)) [
      | inl h ↦ rw (leaves r h) rest
      | inr f ↦ elim (cases_Bool (t r)) [ inl k ↦ rw (k, f) rest | inr g ↦ rw g rest ]
    ]

pub find_front : (xs ys : List Record) (number : ℕ) → row_at ys number ≡ None → row_at (xs ++ ys) number ≡ row_at xs number
find_front [] ys number none = none
find_front (x ∷ xs) ys number none =
    let rest = find_front xs ys number none in
    elim (x.row.0 == number) as (λ b. cond b (Some x) (row_at (xs ++ ys) number) ≡ cond b (Some x) (row_at xs number)) [ true ↦ refl | false ↦ rest ]

pub find_back : (xs ys : List Record) (number : ℕ) → row_at xs number ≡ None → row_at (xs ++ ys) number ≡ row_at ys number
find_back [] ys number none = refl
find_back (x ∷ xs) ys number none = elim (cases_Bool (x.row.0 == number)) [
  | inl t ↦ (let no = rw t at none in cc)
  | inr f ↦ (let rest = rw f at none in rw f (find_back xs ys number rest))
]

pub ascend_with : (number : ℕ) (values : Option (List Value)) (rows : List Record) → Ascend rows → Ascend (with_values number values rows)
ascend_with number (Some vs) rows ascend = record_ascends (record { row = record { 0 = number }; values = vs }) rows ascend
ascend_with number None rows ascend = ascends_without number rows ascend

pub applied_ascends : (table : ℕ) (cs : List Change) (rows : List Record) → Ascend rows → Ascend (rows_with_changes table cs rows)
applied_ascends table [] rows ascend = ascend
applied_ascends table (c ∷ cs) rows ascend = elim (cases_Bool (c.table == table)) [
  | inl t ↦ rw t (applied_ascends table cs (with_values c.row.0 c.values rows) (ascend_with c.row.0 c.values rows ascend))
  | inr f ↦ rw f (applied_ascends table cs rows ascend)
]

-- How many rows ascend below a number.

rows_above : (rows : List Record) (low high : ℕ) → Ascend rows → AllByRecursion (λ (r : Record). r.row.0 < high) rows → list_all (λ (r : Record). nat_lt low r.row.0) rows ≡ true → low < high → length rows + low + 1 ≤ high
rows_above [] low high ascend below above l = omega arith
rows_above (r ∷ rows) low high ascend below above l =
    let first : low < r.row.0 = ltb-true low r.row.0 (first_so _ _ above) in
    let more = rows_above rows r.row.0 high ascend.1 below.1 ascend.0 below.0 in
    omega arith

pub rows_within : (rows : List Record) (high : ℕ) → Ascend rows → AllByRecursion (λ (r : Record). r.row.0 < high) rows → length rows ≤ high
rows_within [] high ascend below = omega arith
rows_within (r ∷ rows) high ascend below = let more = rows_above rows r.row.0 high ascend.1 below.1 ascend.0 below.0 in omega arith

-- they are at most as many as a table's pages have places
pub rows_few : (rows : List Record) (pages : ℕ) → IsTable rows pages → length rows ≤ 32 * pages
rows_few rows pages table = rows_within rows (32 * pages) table.ascend table.within
