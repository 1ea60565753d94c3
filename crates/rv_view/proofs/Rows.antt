-- Rows under one change more.
use Rattle.std.proofs.Common.{◌≡◌, ℕ, suc, ◌+◌, ◌-◌, ◌/◌, ◌<◌, ◌≤◌, List, [], ◌∷◌, ◌++◌, Bool, true, false, ◌&&◌, ◌||◌, ◌==◌, cond, Option, Some, None, is_some, inl, inr, refl, ap, sym, ◌∙◌, filter, length, nat_lt, arith, length-append}
use Rattle.std.specs.Prelude.{max}
use Rattle.std.proofs.lemmas.Bool.{cases_Bool, cases_lt}
use Rattle.std.proofs.lemmas.Bool.Decides.{nat_tests}
use Rattle.std.specs.List.{AllByRecursion, list_all, list_any}
use Rattle.std.proofs.lemmas.Option.{same_Some}
use Rattle.rv_reader.proofs.Rows.{applied_ascends, ascend_with, row_behind}
use Rattle.rv_value.specs.declared.value.Value.{Value}
use Rattle.rv_value.specs.declared.record.Record.{Record}
use Rattle.rv_rows.specs.declared.changes.Change.{Change}
use Rattle.rv_rows.specs.Changes.{Rise, is_before, is_of, rows_with_changes, touches, with_change}
use Rattle.rv_rows.specs.Rows.{Ascend, comes_below, with_values}
use Rattle.rv_rows.specs.Merging.{above, below}
use Rattle.rv_rows.proofs.Chains.{by_row, change_rises}
use Rattle.rv_rows.proofs.Merges.{without_cut}
use Rattle.rv_rows.proofs.Puts.{put_first, put_more, put_same}
use Rattle.rv_reader.specs.Storing.{pages_after}
use Rattle.rv_reader.specs.Tables.{row_at}
use Rattle.rv_overlay.specs.Rows.{changed_row}
use Rattle.rv_overlay.proofs.Moving.{put_other, put_own}
use Rattle.rv_overlay.proofs.Tabling.{row_applied, row_with_other, row_with_own}
use Rattle.rv_view.specs.Making.{one_if}

-- Ascending rows are told by what stands at each number.

own_at : (r : Record) (rows : List Record) (n : ℕ) → r.row.0 ≡ n → row_at (r ∷ rows) n ≡ Some r
own_at r rows n is = let here : r.row.0 == n ≡ true = grind (arith, nat_tests) in rw here refl

other_at : (r : Record) (rows : List Record) (n : ℕ) → r.row.0 == n ≡ false → row_at (r ∷ rows) n ≡ row_at rows n
other_at r rows n f = rw f refl

-- a row is not there where the first one of the other list, or all of it, is behind it
missing : (x : Record) (xs ys : List Record) → row_at (x ∷ xs) x.row.0 ≡ row_at ys x.row.0 → row_at ys x.row.0 ≡ None → true ≡ false
missing x xs ys h none = let no : Some x ≡ None = sym (own_at x xs x.row.0 refl) ∙ h ∙ none in cc

none_first : (y : Record) (ys : List Record) (n : ℕ) → list_all (comes_below y) ys ≡ true → n < y.row.0 → row_at (y ∷ ys) n ≡ None
none_first y ys n all low =
    let apart : y.row.0 == n ≡ false = grind (arith, nat_tests) in
    rw apart (row_behind n y ys all (omega (arith, low)))

rows_same : (x y : Record) (xs ys : List Record) (n : ℕ) → x.row.0 ≡ y.row.0 → list_all (comes_below x) xs ≡ true → list_all (comes_below y) ys ≡ true → row_at (x ∷ xs) n ≡ row_at (y ∷ ys) n → row_at xs n ≡ row_at ys n
rows_same x y xs ys n even ax ay h = elim (cases_Bool (nat_lt x.row.0 n)) [
  | inl t ↦
      let fx : x.row.0 == n ≡ false = grind (arith, nat_tests) in
      let fy : y.row.0 == n ≡ false = grind (arith, nat_tests) in
      sym (other_at x xs n fx) ∙ h ∙ other_at y ys n fy
  | inr f ↦
      let lx : n ≤ x.row.0 = grind (arith, nat_tests) in
      row_behind n x xs ax lx ∙ sym (row_behind n y ys ay (omega (arith, lx, even)))
]

pub rows_tell : (xs ys : List Record) → Ascend xs → Ascend ys → ((n : ℕ) → row_at xs n ≡ row_at ys n) → xs ≡ ys
rows_tell [] [] ax ay h = refl
rows_tell [] (y ∷ ys) ax ay h = let no = missing y ys [] (sym (h y.row.0)) refl in cc
rows_tell (x ∷ xs) [] ax ay h = let no = missing x xs [] (h x.row.0) refl in cc
rows_tell (x ∷ xs) (y ∷ ys) ax ay h = elim (cases_lt x.row.0 y.row.0) [
  | inl low ↦ let no = missing x xs (y ∷ ys) (h x.row.0) (none_first y ys x.row.0 ay.0 low) in cc
  | inr high ↦ elim (cases_lt y.row.0 x.row.0) [
    | inl up ↦ let no = missing y ys (x ∷ xs) (sym (h y.row.0)) (none_first x xs y.row.0 ax.0 up) in cc
    | inr down ↦
        let even : x.row.0 ≡ y.row.0 = omega (arith, high, down) in
        let is = same_Some x y (sym (own_at x xs x.row.0 refl) ∙ h x.row.0 ∙ own_at y ys x.row.0 (sym even)) in
        let rest = rows_tell xs ys ax.1 ay.1 (λ n. rows_same x y xs ys n even ax.0 ay.0 (h n)) in
        λ i. is i ∷ rest i
  ]
]

-- The rows of the changed table, and those of another one.

pub applied_own : (c : Change) (cs : List Change) (rows : List Record) → Ascend rows → Rise cs → rows_with_changes c.table (with_change c cs) rows ≡ with_values c.row.0 c.values (rows_with_changes c.table cs rows)
applied_own c cs rows ascend rise =
    let mid = rows_with_changes c.table cs rows in
    let mid_ascends = applied_ascends c.table cs rows ascend in
    rows_tell (rows_with_changes c.table (with_change c cs) rows) (with_values c.row.0 c.values mid)
    (applied_ascends c.table (with_change c cs) rows ascend) (ascend_with c.row.0 c.values mid mid_ascends)
    (λ n. row_applied c.table n (with_change c cs) rows (change_rises c cs rise) ∙ elim (cases_Bool (c.row.0 == n)) [
      | inl t ↦
          let same : c.row.0 ≡ n = grind (arith, nat_tests) in
          let its : is_of c.table n c ≡ true = grind (arith, nat_tests) in
          ap (λ o. changed_row o (row_at rows n)) (put_own c.table n c cs its) ∙ sym (row_with_own c mid) ∙ ap (row_at (with_values c.row.0 c.values mid)) same
      | inr f ↦
          let its : is_of c.table n c ≡ false = grind (arith, nat_tests) in
          ap (λ o. changed_row o (row_at rows n)) (put_other c.table n c cs its) ∙ sym (row_applied c.table n cs rows rise) ∙ sym (row_with_other c.row.0 n c.values mid f)
    ])

pub applied_other : (table : ℕ) (c : Change) (cs : List Change) (rows : List Record) → c.table == table ≡ false → Ascend rows → Rise cs → rows_with_changes table (with_change c cs) rows ≡ rows_with_changes table cs rows
applied_other table c cs rows f ascend rise =
    rows_tell (rows_with_changes table (with_change c cs) rows) (rows_with_changes table cs rows)
    (applied_ascends table (with_change c cs) rows ascend) (applied_ascends table cs rows ascend)
    (λ n.
    let its : is_of table n c ≡ false = grind (arith, nat_tests) in
    row_applied table n (with_change c cs) rows (change_rises c cs rise) ∙ ap (λ o. changed_row o (row_at rows n)) (put_other table n c cs its) ∙ sym (row_applied table n cs rows rise))

-- Their pages, and whether they are changed.

behind_same : (x c : Change) (xs : List Change) → x.table ≡ c.table → x.row.0 ≡ c.row.0 → list_all (is_before x) xs ≡ true → list_all (is_before c) xs ≡ true
behind_same x c xs t r all =
    let same : is_before x ≡ is_before c = λ i y. nat_lt (t i) y.table || ((t i == y.table) && nat_lt (r i) y.row.0) in
    sym (ap (λ (p : Change → Bool). list_all p xs) same) ∙ all

pages_step : (table : ℕ) (c : Change) (cs : List Change) (pages : ℕ) → c.table == table ≡ false → pages_after table (c ∷ cs) pages ≡ pages_after table cs pages
pages_step table c cs pages f = ap (λ b. pages_after table cs (cond (b && is_some c.values) (max pages (c.row.0 / 32 + 1)) pages)) f

pub pages_other : (table : ℕ) (c : Change) (cs : List Change) (pages : ℕ) → c.table == table ≡ false → Rise cs → pages_after table (with_change c cs) pages ≡ pages_after table cs pages
pages_other table c [] pages f rise = pages_step table c [] pages f
pages_other table c (x ∷ xs) pages f rise = elim (cases_Bool (is_before x c)) [
  | inl t ↦ ap (λ ds. pages_after table ds pages) (put_more is_before by_row c x xs t) ∙ pages_other table c xs (cond ((x.table == table) && is_some x.values) (max pages (x.row.0 / 32 + 1)) pages) f rise.1
  | inr g ↦ elim (cases_Bool (is_before c x)) [
    | inl u ↦ ap (λ ds. pages_after table ds pages) (put_first is_before by_row c x xs u rise.0) ∙ pages_step table c (x ∷ xs) pages f
    | inr v ↦
        let same : x.table ≡ c.table = grind (arith, nat_tests) in
        let row : x.row.0 ≡ c.row.0 = grind (arith, nat_tests) in
        let fx : x.table == table ≡ false = grind (arith, nat_tests) in
        ap (λ ds. pages_after table ds pages) (put_same is_before by_row c x xs v g (behind_same x c xs same row rise.0)) ∙ pages_step table c xs pages f ∙ sym (pages_step table x xs pages fx)
  ]
]

none_kept : {X : Type 0} (p q : X → Bool) (xs : List X) → list_any p xs ≡ false → list_any p (filter q xs) ≡ false
none_kept p q [] none = refl
none_kept p q (x ∷ xs) none = elim (cases_Bool (p x)) [
  | inl t ↦ (let no = rw t at none in cc)
  | inr f ↦ elim (cases_Bool (q x)) [
    | inl k ↦ (let rest = rw f at none in rw (k, f) (none_kept p q xs rest))
    | inr g ↦ (let rest = rw f at none in rw g (none_kept p q xs rest))
  ]
]

none_joined : {X : Type 0} (p : X → Bool) (xs ys : List X) → list_any p xs ≡ false → list_any p ys ≡ false → list_any p (xs ++ ys) ≡ false
none_joined p [] ys h k = k
none_joined p (x ∷ xs) ys h k = elim (cases_Bool (p x)) [
  | inl t ↦ (let no = rw t at h in cc)
  | inr f ↦ (let rest = rw f at h in rw f (none_joined p xs ys rest k))
]

pub touches_other : (table : ℕ) (c : Change) (cs : List Change) → c.table == table ≡ false → touches table cs ≡ false → touches table (with_change c cs) ≡ false
touches_other table c cs f none =
    let back = none_kept (λ (d : Change). d.table == table) (λ d. is_before c d) cs none in
    none_joined (λ (d : Change). d.table == table) (filter (λ d. is_before d c) cs) (c ∷ filter (λ d. is_before c d) cs) (none_kept (λ (d : Change). d.table == table) (λ d. is_before d c) cs none) (rw f back)

-- How many rows there are.

three : (number : ℕ) (rows : List Record) → Ascend rows → length (filter (below number) rows) + one_if (row_at rows number) + length (filter (above number) rows) ≡ length rows
three number [] ascend = refl
three number (r ∷ rows) ascend =
    let rest = three number rows ascend.1 in
    elim (cases_Bool (r.row.0 == number)) [
      | inl t ↦
          let low : below number r ≡ false = grind (arith, nat_tests) in
          let high : above number r ≡ false = grind (arith, nat_tests) in
          let none : row_at rows number ≡ None = row_behind number r rows ascend.0 (grind (arith, nat_tests)) in
          let most = rw none at rest in
          rw (t, low, high) (omega (arith, most))
      | inr f ↦ elim (cases_Bool (below number r)) [
        | inl u ↦
            let high : above number r ≡ false = grind (arith, nat_tests) in
            rw (f, u, high) (omega (arith, rest))
        | inr v ↦
            let high : above number r ≡ true = grind (arith, nat_tests) in
            rw (f, v, high) (omega (arith, rest))
      ]
    ]

pub length_with : (c : Change) (rows : List Record) → Ascend rows → length (with_values c.row.0 c.values rows) + one_if (row_at rows c.row.0) ≡ length rows + one_if (changed_row (Some c) None)
length_with c rows ascend = by c.values
  where
    by : (values : Option (List Value)) → length (with_values c.row.0 values rows) + one_if (row_at rows c.row.0) ≡ length rows + one_if (changed_row (Some (record c { values = values })) None)
    by None =
        let all = three c.row.0 rows ascend in
        let front = filter (below c.row.0) rows in
        let back = filter (above c.row.0) rows in
        let joined = ap length (without_cut c.row.0 rows ascend) ∙ length-append front back in
        let sum : (length front + length back) + one_if (row_at rows c.row.0) ≡ length rows + 0 = omega (arith, all) in
        ap (λ n. n + one_if (row_at rows c.row.0)) joined ∙ sum
    by (Some vs) =
        let all = three c.row.0 rows ascend in
        let new : Record = record { row = record { 0 = c.row.0 }; values = vs } in
        let front = filter (below c.row.0) rows in
        let back = filter (above c.row.0) rows in
        let joined = length-append front (new ∷ back) in
        let sum : (length front + suc (length back)) + one_if (row_at rows c.row.0) ≡ length rows + 1 = omega (arith, all) in
        ap (λ n. n + one_if (row_at rows c.row.0)) joined ∙ sum

-- Pages under changes.

pub pages_fit : (table : ℕ) (cs : List Change) (pages : ℕ) → pages < 4294967296 → AllByRecursion (λ (c : Change). c.row.0 < 4294967296) cs → pages_after table cs pages < 4294967296
pages_fit table [] pages fit all = fit
pages_fit table (c ∷ cs) pages fit all =
    let low : c.row.0 < 4294967296 = all.0 in
    elim ((c.table == table) && is_some c.values) as (λ b. pages_after table cs (cond b (max pages (c.row.0 / 32 + 1)) pages) < 4294967296) [
      | true ↦ pages_fit table cs (max pages (c.row.0 / 32 + 1)) (omega (arith, fit, low)) all.1
      | false ↦ pages_fit table cs pages fit all.1
    ]

pub pages_more : (table : ℕ) (cs : List Change) (pages : ℕ) → pages ≤ pages_after table cs pages
pages_more table [] pages = omega arith
pages_more table (c ∷ cs) pages = elim ((c.table == table) && is_some c.values) as (λ b. pages ≤ pages_after table cs (cond b (max pages (c.row.0 / 32 + 1)) pages)) [
  | true ↦ (let rest = pages_more table cs (max pages (c.row.0 / 32 + 1)) in omega (arith, rest))
  | false ↦ pages_more table cs pages
]
