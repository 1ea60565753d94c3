-- Rows under changes, by number and by page.
use Rattle.std.proofs.Common.{◌≡◌, ℕ, ◌/◌, List, [], ◌∷◌, ◌++◌, Bool, true, false, not, cond, Option, Some, None, length, inl, inr, refl, ap, sym, subst, ◌∙◌, filter, arith, ◌==◌}
use Rattle.std.proofs.lemmas.Bool.{cases_Bool, cases_lt, and_parts}
use Rattle.std.proofs.lemmas.Bool.Decides.{nat_tests}
use Rattle.std.specs.List.{list_all}
use Rattle.rv_reader.proofs.Rows.{ascend_with, find_back, find_front, find_kept, find_left}
use Rattle.rv_value.specs.declared.value.Value.{Value}
use Rattle.rv_value.specs.declared.record.Record.{Record}
use Rattle.rv_rows.specs.declared.changes.Change.{Change}
use Rattle.rv_rows.specs.Changes.{Rise, is_before, is_of, rows_with_changes, touches}
use Rattle.rv_rows.specs.Rows.{Ascend, comes_below, with_values, without_row}
use Rattle.rv_rows.specs.Merging.{Passes}
use Rattle.rv_rows.proofs.Filters.{all_filter, filters_turn}
use Rattle.rv_rows.proofs.Merges.{without_cut}
use Rattle.rv_rows.proofs.Puts.{rising_filter}
use Rattle.rv_reader.specs.Storing.{pages_after}
use Rattle.rv_reader.specs.Tables.{IsTable, row_at}
use Rattle.rv_overlay.specs.declared.frozen.Frozen.{Frozen}
use Rattle.rv_overlay.specs.Overlaid.{LaysTable, size_of}
use Rattle.rv_overlay.specs.Fronts.{is_on}
use Rattle.rv_overlay.specs.Rows.{PassesOn, change_of, changed_row, on_page}

-- Pages: a test on row numbers.

module _ (q : ℕ → Bool) where
  p : Record → Bool
  p r = q r.row.0

  swap : (t : Record → Bool) (rows : List Record) → filter (λ (r : Record). q r.row.0) (filter t rows) ≡ filter t (filter (λ (r : Record). q r.row.0) rows)
  swap t rows = filters_turn (λ (r : Record). q r.row.0) t rows

  joined : (xs ys : List Record) → filter (λ (r : Record). q r.row.0) (xs ++ ys) ≡ filter (λ (r : Record). q r.row.0) xs ++ filter (λ (r : Record). q r.row.0) ys
  joined [] ys = refl
  joined (x ∷ xs) ys = elim (q x.row.0) as (λ b. cond b (x ∷ filter (λ (r : Record). q r.row.0) (xs ++ ys)) (filter (λ (r : Record). q r.row.0) (xs ++ ys)) ≡ cond b (x ∷ filter (λ (r : Record). q r.row.0) xs) (filter (λ (r : Record). q r.row.0) xs) ++ filter (λ (r : Record). q r.row.0) ys) [ true ↦ ap (λ zs. x ∷ zs) (joined xs ys) | false ↦ joined xs ys ]

  own : (rows : List Record) → list_all (λ (r : Record). q r.row.0) (filter (λ (r : Record). q r.row.0) rows) ≡ true
  own [] = refl
  own (r ∷ rows) = elim (cases_Bool (q r.row.0)) [ inl t ↦ rw t (rw t (own rows)) | inr f ↦ rw f (own rows) ]

  all_others : (number : ℕ) (rows : List Record) → q number ≡ false → list_all (λ (r : Record). q r.row.0) rows ≡ true → without_row number rows ≡ rows
  all_others number [] out all = refl
  all_others number (r ∷ rows) out all =
      let parts = and_parts (q r.row.0) (list_all (λ (r : Record). q r.row.0) rows) all in
      elim (cases_Bool (r.row.0 == number)) [
        | inl t ↦ let same : r.row.0 ≡ number = grind (arith, nat_tests) in let no : true ≡ false = sym parts.0 ∙ ap q same ∙ out in cc
        | inr f ↦ rw f (ap (λ rs. r ∷ rs) (all_others number rows out parts.1))
      ]

  kept_with : (number : ℕ) (values : Option (List Value)) (rows : List Record) → Ascend rows → filter (λ (r : Record). q r.row.0) (with_values number values rows) ≡ cond (q number) (with_values number values (filter (λ (r : Record). q r.row.0) rows)) (filter (λ (r : Record). q r.row.0) rows)
  kept_with number None rows ascend = swap (λ (r : Record). not (r.row.0 == number)) rows ∙ elim (cases_Bool (q number)) [
    | inl t ↦ rw t refl
    | inr f ↦ rw f (all_others number (filter (λ (r : Record). q r.row.0) rows) f (own rows))
  ]
  kept_with number (Some vs) rows ascend =
      let new : Record = record { row = record { 0 = number }; values = vs } in
      let front = swap (λ (r : Record). comes_below r new) rows in
      let back = swap (λ (r : Record). comes_below new r) rows in
      joined (filter (λ (r : Record). comes_below r new) rows) (new ∷ filter (λ (r : Record). comes_below new r) rows)
      ∙ elim (cases_Bool (q number)) [
        | inl t ↦ rw (t, front, back) refl
        | inr f ↦ rw (f, front, back) (sym (without_cut number (filter (λ (r : Record). q r.row.0) rows) (rising_filter comes_below (λ (r : Record). q r.row.0) rows ascend)) ∙ all_others number (filter (λ (r : Record). q r.row.0) rows) f (own rows))
      ]

  -- a change of the table, or of another one, before those that are kept
  step_here : (table : ℕ) (c : Change) (ds : List Change) (rows : List Record) (b : Bool) → c.table == table ≡ true → rows_with_changes table ds (cond b (with_values c.row.0 c.values rows) rows) ≡ rows_with_changes table (cond b (c ∷ ds) ds) rows
  step_here table c ds rows true t = ap (λ (b : Bool). rows_with_changes table ds (cond b (with_values c.row.0 c.values rows) rows)) (sym t)
  step_here table c ds rows false t = refl

  pub step_other : (table : ℕ) (c : Change) (ds : List Change) (rows : List Record) (b : Bool) → c.table == table ≡ false → rows_with_changes table ds rows ≡ rows_with_changes table (cond b (c ∷ ds) ds) rows
  step_other table c ds rows true f = ap (λ (b : Bool). rows_with_changes table ds (cond b (with_values c.row.0 c.values rows) rows)) (sym f)
  step_other table c ds rows false f = refl

  pub kept_applied : (table : ℕ) (cs : List Change) (rows : List Record) → Ascend rows → filter (λ (r : Record). q r.row.0) (rows_with_changes table cs rows) ≡ rows_with_changes table (filter (λ (c : Change). q c.row.0) cs) (filter (λ (r : Record). q r.row.0) rows)
  kept_applied table [] rows ascend = refl
  kept_applied table (c ∷ cs) rows ascend = elim (cases_Bool (c.table == table)) [
    | inl t ↦
        ap (λ (b : Bool). filter (λ (r : Record). q r.row.0) (rows_with_changes table cs (cond b (with_values c.row.0 c.values rows) rows))) t
        ∙ kept_applied table cs (with_values c.row.0 c.values rows) (ascend_with c.row.0 c.values rows ascend)
        ∙ ap (rows_with_changes table (filter (λ (d : Change). q d.row.0) cs)) (kept_with c.row.0 c.values rows ascend)
        ∙ step_here table c (filter (λ (d : Change). q d.row.0) cs) (filter (λ (r : Record). q r.row.0) rows) (q c.row.0) t
    | inr f ↦
        ap (λ (b : Bool). filter (λ (r : Record). q r.row.0) (rows_with_changes table cs (cond b (with_values c.row.0 c.values rows) rows))) f
        ∙ kept_applied table cs rows ascend
        ∙ step_other table c (filter (λ (d : Change). q d.row.0) cs) (filter (λ (r : Record). q r.row.0) rows) (q c.row.0) f
  ]

pub page_applied : (table page : ℕ) (cs : List Change) (rows : List Record) → Ascend rows → filter (λ (r : Record). r.row.0 / 32 == page) (rows_with_changes table cs rows) ≡ rows_with_changes table (on_page page cs) (filter (λ (r : Record). r.row.0 / 32 == page) rows)
page_applied table page cs rows ascend = kept_applied (λ n. n / 32 == page) table cs rows ascend

-- the changes of the rows of a page of the table do what those of the rows of a page do
pub on_applied : (table page : ℕ) (cs : List Change) (rows : List Record) → rows_with_changes table (on_page page (filter (is_on table page) cs)) rows ≡ rows_with_changes table (on_page page cs) rows
on_applied table page [] rows = refl
on_applied table page (c ∷ cs) rows = elim (cases_Bool (c.table == table)) [
  | inl t ↦ elim (cases_Bool (c.row.0 / 32 == page)) [
    | inl u ↦
        let on : is_on table page c ≡ true = rw (t, u) refl in
        rw (on, u) (on_applied table page cs (cond (c.table == table) (with_values c.row.0 c.values rows) rows))
    | inr v ↦
        let off : is_on table page c ≡ false = rw (t, v) refl in
        rw (off, v) (on_applied table page cs rows)
  ]
  | inr f ↦
      let off : is_on table page c ≡ false = rw f refl in
      rw off (on_applied table page cs rows ∙ step_other (λ n. n / 32 == page) table c (on_page page cs) rows (c.row.0 / 32 == page) f)
]

-- Rows by number.

pub row_with_other : (number other : ℕ) (values : Option (List Value)) (rows : List Record) → number == other ≡ false → row_at (with_values number values rows) other ≡ row_at rows other
row_with_other number other None rows apart = find_kept (λ (r : Record). not (r.row.0 == number)) other (λ r t. grind (arith, nat_tests)) rows
row_with_other number other (Some vs) rows apart =
    let new : Record = record { row = record { 0 = number }; values = vs } in
    let front = filter (λ (r : Record). comes_below r new) rows in
    let back = filter (λ (r : Record). comes_below new r) rows in
    elim (cases_lt other number) [
      | inl low ↦
          let none : row_at back other ≡ None = find_left (λ (r : Record). comes_below new r) other (λ r t. grind (arith, nat_tests)) rows in
          find_front front (new ∷ back) other (rw apart none) ∙ find_kept (λ (r : Record). comes_below r new) other (λ r t. grind (arith, nat_tests)) rows
      | inr high ↦
          let none : row_at front other ≡ None = find_left (λ (r : Record). comes_below r new) other (λ r t. grind (arith, nat_tests)) rows in
          find_back front (new ∷ back) other none ∙ rw apart (find_kept (λ (r : Record). comes_below new r) other (λ r t. grind (arith, nat_tests)) rows)
    ]

pub row_with_own : (c : Change) (rows : List Record) → row_at (with_values c.row.0 c.values rows) c.row.0 ≡ changed_row (Some c) None
row_with_own c rows = by c.values
  where
    by : (values : Option (List Value)) → row_at (with_values c.row.0 values rows) c.row.0 ≡ changed_row (Some (record c { values = values })) None
    by None = find_left (λ (r : Record). not (r.row.0 == c.row.0)) c.row.0 (λ r t. rw t refl) rows
    by (Some vs) =
        let new : Record = record { row = record { 0 = c.row.0 }; values = vs } in
        let front = filter (λ (r : Record). comes_below r new) rows in
        let none : row_at front c.row.0 ≡ None = find_left (λ (r : Record). comes_below r new) c.row.0 (λ r t. grind (arith, nat_tests)) rows in
        let here : c.row.0 == c.row.0 ≡ true = grind (arith, nat_tests) in
        find_back front (new ∷ filter (λ (r : Record). comes_below new r) rows) c.row.0 none ∙ rw here refl

-- no later change is of the same row
none_of : (table number : ℕ) (c : Change) (cs : List Change) → is_of table number c ≡ true → list_all (is_before c) cs ≡ true → change_of table number cs ≡ None
none_of table number c [] h all = refl
none_of table number c (d ∷ ds) h all =
    let parts = and_parts (is_before c d) (list_all (is_before c) ds) all in
    let here : is_of table number d ≡ false = (let first = parts.0 in grind (arith, nat_tests)) in
    rw here (none_of table number c ds h parts.1)

found_is : (table number : ℕ) (c : Change) (cs : List Change) (found : Option Record) (b : Bool) → is_of table number c ≡ b → changed_row (cond b (Some c) (change_of table number cs)) found ≡ changed_row (change_of table number (c ∷ cs)) found
found_is table number c cs found b e = ap (λ (x : Bool). changed_row (cond x (Some c) (change_of table number cs)) found) (sym e)

pub row_applied : (table number : ℕ) (cs : List Change) (rows : List Record) → Rise cs → row_at (rows_with_changes table cs rows) number ≡ changed_row (change_of table number cs) (row_at rows number)
row_applied table number [] rows rise = refl
row_applied table number (c ∷ cs) rows rise = elim (cases_Bool (c.table == table)) [
  | inl t ↦
      let rest = row_applied table number cs (with_values c.row.0 c.values rows) rise.1 in
      let first = ap (λ (b : Bool). row_at (rows_with_changes table cs (cond b (with_values c.row.0 c.values rows) rows)) number) t in
      elim (cases_Bool (c.row.0 == number)) [
        | inl u ↦
            let same : c.row.0 ≡ number = grind (arith, nat_tests) in
            let its : is_of table number c ≡ true = rw (t, u) refl in
            let none = none_of table number c cs its rise.0 in
            first ∙ rest ∙ ap (λ o. changed_row o (row_at (with_values c.row.0 c.values rows) number)) none
            ∙ ap (row_at (with_values c.row.0 c.values rows)) (sym same) ∙ row_with_own c rows
            ∙ found_is table number c cs (row_at rows number) true its
        | inr v ↦
            let its : is_of table number c ≡ false = rw (t, v) refl in
            first ∙ rest ∙ ap (changed_row (change_of table number cs)) (row_with_other c.row.0 number c.values rows v) ∙ found_is table number c cs (row_at rows number) false its
      ]
  | inr f ↦
      let its : is_of table number c ≡ false = rw f refl in
      ap (λ (b : Bool). row_at (rows_with_changes table cs (cond b (with_values c.row.0 c.values rows) rows)) number) f ∙ row_applied table number cs rows rise.1 ∙ found_is table number c cs (row_at rows number) false its
]

-- One change is laid over the rows that are left.
pub laid_on : (table page : ℕ) (c : Change) (old rows new rest : List Record) → c.row.0 / 32 ≡ page → c.table ≡ table → Passes table c old rows new rest → PassesOn table page c old rows new rest
laid_on table page c old rows new rest on here passes = record {
  same = λ ds rise.
      let its : c.row.0 / 32 == page ≡ true = grind (arith, nat_tests) in
      let next : on_page page (c ∷ ds) ≡ c ∷ on_page page ds = ap (λ (b : Bool). cond b (c ∷ on_page page ds) (on_page page ds)) its in
      let rises : Rise (c ∷ on_page page ds) = (all_filter (is_before c) (λ (d : Change). d.row.0 / 32 == page) ds rise.0, rising_filter is_before (λ (d : Change). d.row.0 / 32 == page) ds rise.1) in
      passes.same (on_page page ds) rises ∙ ap (λ cs. old ++ rows_with_changes table cs rows) (sym next);
}

pub past_page : (table page : ℕ) (c : Change) (old rows : List Record) → c.row.0 / 32 == page ≡ false → PassesOn table page c old rows old rows
past_page table page c old rows f = record {
  same = λ ds rise. ap (λ cs. old ++ rows_with_changes table cs rows) (sym (ap (λ (b : Bool). cond b (c ∷ on_page page ds) (on_page page ds)) f));
}

pub past_table : (table page : ℕ) (c : Change) (old rows : List Record) → c.table == table ≡ false → PassesOn table page c old rows old rows
past_table table page c old rows f = record {
  same = λ ds rise. ap (λ rs. old ++ rs) (step_other (λ n. n / 32 == page) table c (on_page page ds) rows (c.row.0 / 32 == page) f);
}

-- No change, and a table that no change touches.

pub none_laid : (table n : ℕ) (cs : List Change) (rows : List Record) → length cs == 0 ≡ true → rows ≡ rows_with_changes table (on_page n cs) rows
none_laid table n [] rows h = refl
none_laid table n (c ∷ cs) rows h = let none : length (c ∷ cs) ≡ 0 = grind (arith, nat_tests) in absurd (omega (arith, none))

pub rows_untouched : (table : ℕ) (cs : List Change) (rows : List Record) → touches table cs ≡ false → rows_with_changes table cs rows ≡ rows
rows_untouched table [] rows none = refl
rows_untouched table (c ∷ cs) rows none = elim (cases_Bool (c.table == table)) [
  | inl t ↦ (let no = rw t at none in cc)
  | inr f ↦ (let rest = rw f at none in rw f (rows_untouched table cs rows rest))
]

pub pages_untouched : (table : ℕ) (cs : List Change) (pages : ℕ) → touches table cs ≡ false → pages_after table cs pages ≡ pages
pages_untouched table [] pages none = refl
pages_untouched table (c ∷ cs) pages none = elim (cases_Bool (c.table == table)) [
  | inl t ↦ (let no = rw t at none in cc)
  | inr f ↦ (let rest = rw f at none in rw f (pages_untouched table cs pages rest))
]

-- the size of a table in the view, by what is kept of it
pub record SizeIs (rows : List Record) (pages table : ℕ) (changes : List Change) (told_pages told_rows : ℕ) : Type 0 where
  pub pages_are : told_pages ≡ pages_after table changes pages
  pub rows_are : told_rows ≡ length (rows_with_changes table changes rows)
  pub stands : IsTable (rows_with_changes table changes rows) (pages_after table changes pages)

pub size_other : (rows : List Record) (pages table : ℕ) (f : Frozen) (told_pages told_rows : ℕ) → LaysTable rows pages table f → size_of table f.sizes ≡ None
    → told_pages ≡ pages → told_rows ≡ length rows → IsTable rows pages → SizeIs rows pages table f.changes told_pages told_rows
size_other rows pages table f told_pages told_rows lays is pages_are rows_are stands =
    let none = lays.other is in
    let same = rows_untouched table f.changes rows none in
    let up = pages_untouched table f.changes pages none in
    record {
      pages_are = pages_are ∙ sym up;
      rows_are = rows_are ∙ ap length (sym same);
      stands = subst (λ rs. IsTable rs (pages_after table f.changes pages)) (sym same) (subst (IsTable rows) (sym up) stands);
    }
