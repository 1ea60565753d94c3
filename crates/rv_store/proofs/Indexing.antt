-- What a change of a table's rows makes of the sorted entries of an index.
use Rattle.std.proofs.Common.{◌≡◌, ℕ, ◌≤◌, List, [], ◌∷◌, ◌++◌, Bool, true, false, not, ◌&&◌, ◌||◌, ◌==◌, cond, refl, ap, sym, ◌∙◌, inl, inr, arith, subst, filter, map, nat_lt, Option, Some, None}
use Rattle.std.proofs.lemmas.Bool.{cases_Bool, and_parts, not-true}
use Rattle.std.proofs.lemmas.Bool.Decides.{nat_tests}
use Rattle.std.proofs.lemmas.List.{map-append}
use Rattle.std.specs.List.{list_all}
use Rattle.std.proofs.lemmas.List.Elements.{filter_agree}
use Rattle.std.proofs.lemmas.Option.{same_Some}
use Rattle.rv_reader.proofs.Rows.{found_row}
use Rattle.rv_value.specs.declared.value.Value.{Value}
use Rattle.rv_value.specs.declared.record.Record.{Record}
use Rattle.rv_value.specs.declared.record.IndexEntry.{IndexEntry}
use Rattle.rv_value.proofs.Sorting.{swap_in}
use Rattle.rv_rows.specs.Rows as rows_by_number
use Rattle.rv_rows.specs.Rows.{comes_below, with_values, without_row}
use Rattle.rv_reader.specs.Tables.{row_at}
use Rattle.rv_reader.specs.Entries.{comes_before, Ascend, entry_of, sorted_in, sorted, entries_of, entry_at}
use Rattle.rv_node.specs.Trees.{differs}
use Rattle.rv_store.specs.Indexing.{taken_out, put_in, row_with}
use Rattle.rv_reader.proofs.Filters.{filter_same, filter_none, rising_cut}
use Rattle.rv_reader.proofs.Orders.{itself}
use Rattle.rv_reader.proofs.Sorting.{all_sorted, entries_ascend, same, sort_of_entries, none_before}

-- The order in which entries are put in does not matter.

pub sorted_middle : (xs ys : List IndexEntry) (e : IndexEntry) → sorted (xs ++ e ∷ ys) ≡ sorted_in e (sorted (xs ++ ys))
sorted_middle [] ys e = refl
sorted_middle (x ∷ xs) ys e = ap (sorted_in x) (sorted_middle xs ys e) ∙ swap_in sort_of_entries x e (sorted (xs ++ ys))

-- Rows without one.

abbrev is_other : ℕ → Record → Bool
is_other number r = not (r.row.0 == number)

abbrev pub is_others : ℕ → IndexEntry → Bool
is_others number e = not (e.row.0 == number)

abbrev below_row : ℕ → Record → Bool
below_row number r = nat_lt r.row.0 number

abbrev above_row : ℕ → Record → Bool
above_row number r = nat_lt number r.row.0

without_cut : (number : ℕ) (rows : List Record) → rows_by_number.Ascend rows → without_row number rows ≡ filter (below_row number) rows ++ filter (above_row number) rows
without_cut number rows ascend =
    let cut = rising_cut comes_below (is_other number) (below_row number) (λ x y h f. let first = h in let second = f in grind (arith, nat_tests)) rows ascend in
    let front = filter_agree (λ (r : Record). is_other number r && below_row number r) (below_row number) (λ r. grind (arith, nat_tests)) rows in
    let back = filter_agree (λ (r : Record). is_other number r && not (below_row number r)) (above_row number) (λ r. grind (arith, nat_tests)) rows in
    cut ∙ (λ i. front i ++ back i)

-- a row that was given values has its entry put in among those of the others
entries_with : (columns : List ℕ) (number : ℕ) (vs : List Value) (rows : List Record) → rows_by_number.Ascend rows
    → entries_of columns (with_values number (Some vs) rows) ≡ sorted_in (entry_of columns (record { row = record { 0 = number }; values = vs })) (entries_of columns (without_row number rows))
entries_with columns number vs rows ascend =
    let new : Record = record { row = record { 0 = number }; values = vs } in
    let front = filter (below_row number) rows in
    let back = filter (above_row number) rows in
    let apart : map (entry_of columns) (front ++ new ∷ back) ≡ map (entry_of columns) front ++ entry_of columns new ∷ map (entry_of columns) back = map-append (entry_of columns) front (new ∷ back) in
    let joined : map (entry_of columns) front ++ map (entry_of columns) back ≡ map (entry_of columns) (front ++ back) = sym (map-append (entry_of columns) front back) in
    ap sorted apart ∙ sorted_middle (map (entry_of columns) front) (map (entry_of columns) back) (entry_of columns new)
    ∙ ap (λ es. sorted_in (entry_of columns new) (sorted es)) joined
    ∙ ap (λ rs. sorted_in (entry_of columns new) (entries_of columns rs)) (sym (without_cut number rows ascend))

-- Entries without those that fail a test.

first_in : (e : IndexEntry) (p : IndexEntry → Bool) (xs : List IndexEntry) → list_all (λ y. not (comes_before y e)) xs ≡ true → sorted_in e (filter p xs) ≡ e ∷ filter p xs
first_in e p [] all = refl
first_in e p (x ∷ xs) all =
    let parts = and_parts (not (comes_before x e)) (list_all (λ y. not (comes_before y e)) xs) all in
    let rest = first_in e p xs parts.1 in
    elim (p x) as (λ b. sorted_in e (cond b (x ∷ filter p xs) (filter p xs)) ≡ e ∷ cond b (x ∷ filter p xs) (filter p xs)) [
      | true ↦ rw (not-true (comes_before x e) parts.0) refl
      | false ↦ rest
    ]

kept_in : (p : IndexEntry → Bool) (e : IndexEntry) (xs : List IndexEntry) → p e ≡ true → Ascend xs → filter p (sorted_in e xs) ≡ sorted_in e (filter p xs)
kept_in p e [] h ascend = rw h refl
kept_in p e (x ∷ xs) h ascend = elim (cases_Bool (comes_before x e)) [
  | inl t ↦ elim (cases_Bool (p x)) [
    | inl k ↦ rw (t, k, t) (ap (λ ys. x ∷ ys) (kept_in p e xs h ascend.1))
    | inr k ↦ rw (t, k) (kept_in p e xs h ascend.1)
  ]
  | inr f ↦ elim (cases_Bool (p x)) [
    | inl k ↦ rw (f, h, k, f) refl
    | inr k ↦ rw (f, h, k) (sym (first_in e p xs (none_before e x xs f ascend.0)))
  ]
]

left_in : (p : IndexEntry → Bool) (e : IndexEntry) (xs : List IndexEntry) → p e ≡ false → filter p (sorted_in e xs) ≡ filter p xs
left_in p e [] h = rw h refl
left_in p e (x ∷ xs) h =
    let rest = left_in p e xs h in
    elim (comes_before x e) as (λ b. filter p (cond b (x ∷ sorted_in e xs) (e ∷ x ∷ xs)) ≡ cond (p x) (x ∷ filter p xs) (filter p xs)) [
      | true ↦ elim (p x) as (λ b. cond b (x ∷ filter p (sorted_in e xs)) (filter p (sorted_in e xs)) ≡ cond b (x ∷ filter p xs) (filter p xs)) [ true ↦ ap (λ ys. x ∷ ys) rest | false ↦ rest ]
      | false ↦ rw h refl
    ]

-- rows without one have its entry taken out
entries_without : (columns : List ℕ) (number : ℕ) (rows : List Record) → rows_by_number.Ascend rows → entries_of columns (without_row number rows) ≡ filter (is_others number) (entries_of columns rows)
entries_without columns number [] ascend = refl
entries_without columns number (r ∷ rows) ascend =
    let rest = entries_without columns number rows ascend.1 in
    elim (cases_Bool (is_other number r)) [
      | inl k ↦ rw k (ap (sorted_in (entry_of columns r)) rest ∙ sym (kept_in (is_others number) (entry_of columns r) (entries_of columns rows) k (entries_ascend columns rows ascend.1)))
      | inr g ↦ rw g (rest ∙ sym (left_in (is_others number) (entry_of columns r) (entries_of columns rows) g))
    ]

-- The row of a number.

above_others : (number : ℕ) (r : Record) (rows : List Record) → number ≤ r.row.0 → list_all (comes_below r) rows ≡ true → list_all (λ (x : Record). nat_lt number x.row.0) rows ≡ true
above_others number r [] h all = refl
above_others number r (s ∷ rows) h all =
    let parts = and_parts (comes_below r s) (list_all (comes_below r) rows) all in
    let first = parts.0 in
    let here : nat_lt number s.row.0 ≡ true = grind (arith, nat_tests) in
    rw here (above_others number r rows h parts.1)

none_above : (number : ℕ) (rows : List Record) → list_all (λ (x : Record). nat_lt number x.row.0) rows ≡ true → row_at rows number ≡ None
none_above number [] all = refl
none_above number (r ∷ rows) all =
    let parts = and_parts (nat_lt number r.row.0) (list_all (λ (x : Record). nat_lt number x.row.0) rows) all in
    let first = parts.0 in
    let other : r.row.0 == number ≡ false = grind (arith, nat_tests) in
    rw other (none_above number rows parts.1)

-- where there is no row of the number, none is taken away
without_none : (number : ℕ) (rows : List Record) → row_at rows number ≡ None → without_row number rows ≡ rows
without_none number [] none = refl
without_none number (r ∷ rows) none = elim (cases_Bool (r.row.0 == number)) [
  | inl t ↦ (let no = rw t at none in cc)
  | inr f ↦ (let rest = rw f at none in rw f (ap (λ rs. r ∷ rs) (without_none number rows rest)))
]

-- the rows are those below it, it, and those above
row_cut : (number : ℕ) (old : Record) (rows : List Record) → rows_by_number.Ascend rows → row_at rows number ≡ Some old → rows ≡ filter (below_row number) rows ++ old ∷ filter (above_row number) rows
row_cut number old [] ascend found = cc
row_cut number old (r ∷ rows) ascend found = elim (cases_Bool (r.row.0 == number)) [
  | inl t ↦
      let e : r ≡ old = same_Some r old (rw t at found) in
      let low : nat_lt r.row.0 number ≡ false = grind (arith, nat_tests) in
      let high : nat_lt number r.row.0 ≡ false = grind (arith, nat_tests) in
      let above = above_others number r rows (grind (arith, nat_tests)) ascend.0 in
      let none = filter_none (above_row number) (below_row number) rows above (λ x h. let first = h in grind (arith, nat_tests)) in
      let all = all_pass (above_row number) rows above in
      rw (low, high, none, all) (ap (λ x. x ∷ rows) e)
  | inr f ↦
      let rest : row_at rows number ≡ Some old = rw f at found in
      elim (cases_Bool (nat_lt r.row.0 number)) [
        | inl low ↦
            let high : nat_lt number r.row.0 ≡ false = grind (arith, nat_tests) in
            rw (low, high) (ap (λ rs. r ∷ rs) (row_cut number old rows ascend.1 rest))
        | inr high ↦
            let above = above_others number r rows (grind (arith, nat_tests)) ascend.0 in
            let none = none_above number rows above in
            cc
      ]
]
  where
    all_pass : (p : Record → Bool) (xs : List Record) → list_all p xs ≡ true → filter p xs ≡ xs
    all_pass p [] all = refl
    all_pass p (x ∷ xs) all =
        let parts = and_parts (p x) (list_all p xs) all in
        rw (parts.0) (ap (λ ys. x ∷ ys) (all_pass p xs parts.1))

-- a row whose entry stays equal leaves the entries as they are
entries_equal : (columns : List ℕ) (number : ℕ) (vs : List Value) (old : Record) (rows : List Record) → rows_by_number.Ascend rows → row_at rows number ≡ Some old
    → entry_of columns (record { row = record { 0 = number }; values = vs }) ≡ entry_of columns old → entries_of columns (with_values number (Some vs) rows) ≡ entries_of columns rows
entries_equal columns number vs old rows ascend found e =
    let new : Record = record { row = record { 0 = number }; values = vs } in
    let front = filter (below_row number) rows in
    let back = filter (above_row number) rows in
    let with_new : map (entry_of columns) (front ++ new ∷ back) ≡ map (entry_of columns) front ++ entry_of columns new ∷ map (entry_of columns) back = map-append (entry_of columns) front (new ∷ back) in
    let with_old : map (entry_of columns) (front ++ old ∷ back) ≡ map (entry_of columns) front ++ entry_of columns old ∷ map (entry_of columns) back = map-append (entry_of columns) front (old ∷ back) in
    ap sorted (with_new ∙ ap (λ x. map (entry_of columns) front ++ x ∷ map (entry_of columns) back) e ∙ sym with_old)
    ∙ ap (λ rs. entries_of columns rs) (sym (row_cut number old rows ascend found))

-- An entry of another row, or the old one.

abbrev is_apart : IndexEntry → IndexEntry → Bool
is_apart = differs comes_before

abbrev is_either : ℕ → IndexEntry → IndexEntry → Bool
is_either number old e = is_others number e || not (is_apart old e)

either_others : (columns : List ℕ) (number : ℕ) (old : IndexEntry) (rows : List Record) → list_all (λ (x : Record). nat_lt number x.row.0) rows ≡ true → list_all (is_either number old) (map (entry_of columns) rows) ≡ true
either_others columns number old [] all = refl
either_others columns number old (r ∷ rows) all =
    let parts = and_parts (nat_lt number r.row.0) (list_all (λ (x : Record). nat_lt number x.row.0) rows) all in
    let first = parts.0 in
    let other : r.row.0 == number ≡ false = grind (arith, nat_tests) in
    rw other (either_others columns number old rows parts.1)

either_all : (columns : List ℕ) (number : ℕ) (old : Record) (rows : List Record) → rows_by_number.Ascend rows → row_at rows number ≡ Some old → list_all (is_either number (entry_of columns old)) (map (entry_of columns) rows) ≡ true
either_all columns number old [] ascend found = refl
either_all columns number old (r ∷ rows) ascend found = elim (cases_Bool (r.row.0 == number)) [
  | inl t ↦
      let e : old ≡ r = sym (same_Some r old (rw t at found)) in
      let rest = either_others columns number (entry_of columns r) rows (above_others number r rows (grind (arith, nat_tests)) ascend.0) in
      subst (λ (o : Record). list_all (is_either number (entry_of columns o)) (map (entry_of columns) (r ∷ rows)) ≡ true) (sym e) (rw (t, itself (entry_of columns r)) rest)
  | inr f ↦
      let rest : row_at rows number ≡ Some old = rw f at found in
      rw f (either_all columns number old rows ascend.1 rest)
]

either_way : (number : ℕ) (old e : IndexEntry) → old.row.0 ≡ number → is_either number old e ≡ true → is_others number e ≡ is_apart old e
either_way number old e own h = elim (cases_Bool (e.row.0 == number)) [
  | inl t ↦ (let apart = rw t at h in rw t (turn (is_apart old e) apart))
  | inr f ↦ elim (cases_Bool (comes_before e old)) [
    | inl low ↦ rw (f, low) refl
    | inr not_low ↦ elim (cases_Bool (comes_before old e)) [
      | inl high ↦ rw (f, not_low, high) refl
      | inr not_high ↦
          let one = ap (λ (x : IndexEntry). x.row.0) (same e old not_low not_high) in
          let no : e.row.0 == number ≡ true = grind (arith, nat_tests) in
          cc
    ]
  ]
]
  where
    turn : (b : Bool) → not b ≡ true → false ≡ b
    turn true h = cc
    turn false h = refl

-- the entries of other rows are those apart from the row's old one
others_apart : (columns : List ℕ) (number : ℕ) (old : Record) (rows : List Record) → rows_by_number.Ascend rows → row_at rows number ≡ Some old → filter (is_others number) (entries_of columns rows) ≡ filter (is_apart (entry_of columns old)) (entries_of columns rows)
others_apart columns number old rows ascend found =
    filter_same (is_either number (entry_of columns old)) (is_others number) (is_apart (entry_of columns old)) (entries_of columns rows)
    (all_sorted (is_either number (entry_of columns old)) (map (entry_of columns) rows) (either_all columns number old rows ascend found))
    (λ e h. either_way number (entry_of columns old) e (found_row rows number old found) h)

pub taken_is : (columns : List ℕ) (number : ℕ) (old : Option Record) (rows : List Record) → rows_by_number.Ascend rows → old ≡ row_at rows number → taken_out (entry_at columns old) (entries_of columns rows) ≡ entries_of columns (without_row number rows)
taken_is columns number None rows ascend found = ap (entries_of columns) (sym (without_none number rows (sym found)))
taken_is columns number (Some r) rows ascend found = sym (entries_without columns number rows ascend ∙ others_apart columns number r rows ascend (sym found))

-- the old entry of a row is taken out, and the new one put in
pub change_is : (columns : List ℕ) (number : ℕ) (old : Option Record) (values : Option (List Value)) (rows : List Record) → rows_by_number.Ascend rows → old ≡ row_at rows number
    → put_in (entry_at columns (row_with number values)) (taken_out (entry_at columns old) (entries_of columns rows)) ≡ entries_of columns (with_values number values rows)
change_is columns number old None rows ascend found = taken_is columns number old rows ascend found
change_is columns number old (Some vs) rows ascend found =
    ap (sorted_in (entry_of columns (record { row = record { 0 = number }; values = vs }))) (taken_is columns number old rows ascend found)
    ∙ sym (entries_with columns number vs rows ascend)

-- where both entries are the same, nothing changes
pub change_none : (columns : List ℕ) (number : ℕ) (old : Option Record) (values : Option (List Value)) (rows : List Record) → rows_by_number.Ascend rows → old ≡ row_at rows number
    → entry_at columns (row_with number values) ≡ entry_at columns old → entries_of columns rows ≡ entries_of columns (with_values number values rows)
change_none columns number None None rows ascend found e = ap (entries_of columns) (sym (without_none number rows (sym found)))
change_none columns number None (Some vs) rows ascend found e = cc
change_none columns number (Some r) None rows ascend found e = cc
change_none columns number (Some r) (Some vs) rows ascend found e = sym (entries_equal columns number vs r rows ascend (sym found) (entry_is _ _ e))
  where
    entry_is : (a b : IndexEntry) → Some a ≡ Some b → a ≡ b
    entry_is a b e = cc

-- no entry of the others is that of the row
pub others_all : (columns : List ℕ) (number : ℕ) (rows : List Record) → list_all (is_others number) (entries_of columns (without_row number rows)) ≡ true
others_all columns number rows = all_sorted (is_others number) (map (entry_of columns) (without_row number rows)) (others_rows rows)
  where
    others_rows : (rs : List Record) → list_all (is_others number) (map (entry_of columns) (without_row number rs)) ≡ true
    others_rows [] = refl
    others_rows (r ∷ rs) = elim (cases_Bool (r.row.0 == number)) [
      | inl t ↦ rw t (others_rows rs)
      | inr f ↦ rw (f, f) (others_rows rs)
    ]
