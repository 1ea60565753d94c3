-- Rows under changes of one's own and of others, by number.
use Rattle.std.proofs.Common.{◌≡◌, ℕ, List, [], ◌∷◌, Bool, true, false, not, ◌&&◌, ◌||◌, ◌==◌, cond, Option, Some, None, is_some, inl, inr, refl, ap, sym, ◌∙◌, find, filter, arith, nat_lt}
use Rattle.std.proofs.lemmas.Bool.{cases_Bool, and_parts}
use Rattle.std.proofs.lemmas.Bool.Decides.{nat_tests}
use Rattle.std.specs.List.{list_all, list_any}
use Rattle.std.specs.Option.{option_map}
use Rattle.std.proofs.Math.Bool.{or-false}
use Rattle.rv_reader.proofs.Rows.{applied_ascends}
use Rattle.rv_value.specs.declared.value.Value.{Value}
use Rattle.rv_value.specs.declared.record.Record.{Record}
use Rattle.rv_value.specs.declared.record.RowNo.{RowNo}
use Rattle.rv_rows.specs.declared.changes.Change.{Change}
use Rattle.rv_rows.specs.Changes.{Rise, has_change, is_of, rows_with_changes, touches, with_change, with_changes}
use Rattle.rv_rows.specs.Rows.{Ascend, comes_below, with_values}
use Rattle.rv_rows.proofs.Chains.{change_rises}
use Rattle.rv_rows.proofs.Filters.{all_filter}
use Rattle.rv_rows.proofs.Puts.{rising_filter}
use Rattle.rv_reader.specs.Tables.{row_at}
use Rattle.rv_overlay.specs.Rows.{change_of, changed_row}
use Rattle.rv_overlay.proofs.Moving.{put_other, put_own}
use Rattle.rv_overlay.proofs.Tabling.{row_applied, rows_untouched}
use Rattle.rv_view.proofs.Rows.{applied_other, applied_own, rows_tell}
use Rattle.rv_model.specs.Rivals.{has_key, rows_left, rows_written}
use Rattle.rv_rivals.specs.Lookups.{lower_row, other_than}
use Rattle.rv_rivals.specs.Points.{lowest_with}
use Rattle.rv_rivals.proofs.Finding.{find_filtered, find_same}

-- What stands at a number.

none_kept : (b : Bool) (none : Option Record) → none ≡ None → none ≡ cond b none None
none_kept true none is = refl
none_kept false none is = is

row_filtered : (q : ℕ → Bool) (rows : List Record) (n : ℕ) → row_at (filter (λ (r : Record). q r.row.0) rows) n ≡ cond (q n) (row_at rows n) None
row_filtered q [] n = none_kept (q n) (row_at [] n) refl
row_filtered q (r ∷ rows) n = elim (cases_Bool (r.row.0 == n)) [
  | inl t ↦
      let same : r.row.0 ≡ n = grind (arith, nat_tests) in
      elim (cases_Bool (q n)) [
        | inl k ↦ (let its : q r.row.0 ≡ true = ap q same ∙ k in rw (its, t, k) refl)
        | inr g ↦ (let its : q r.row.0 ≡ false = ap q same ∙ g in rw its (row_filtered q rows n ∙ ap (λ b. cond b (row_at rows n) None) g ∙ sym (ap (λ b. cond b (row_at (r ∷ rows) n) None) g)))
      ]
  | inr f ↦ elim (cases_Bool (q r.row.0)) [
    | inl k ↦ rw (k, f) (row_filtered q rows n)
    | inr g ↦ rw (g, f) (row_filtered q rows n)
  ]
]

some_any : {X : Type 0} (p : X → Bool) (xs : List X) → is_some (find p xs) ≡ list_any p xs
some_any p [] = refl
some_any p (x ∷ xs) = elim (cases_Bool (p x)) [ inl t ↦ rw t refl | inr f ↦ rw f (some_any p xs) ]

changed_where : (o : Option Change) (found : Option Record) → changed_row o found ≡ cond (is_some o) (changed_row o None) found
changed_where None found = refl
changed_where (Some c) found = refl

-- a row is the one written, where there is a change of it, and else as it was
row_changed : (table : ℕ) (cs : List Change) (rows : List Record) (n : ℕ) → Rise cs → row_at (rows_with_changes table cs rows) n ≡ cond (has_change table n cs) (row_at (rows_written table cs) n) (row_at rows n)
row_changed table cs rows n rise =
    row_applied table n cs rows rise ∙ changed_where (change_of table n cs) (row_at rows n)
    ∙ ap (λ b. cond b (changed_row (change_of table n cs) None) (row_at rows n)) (some_any (is_of table n) cs)
    ∙ ap (λ o. cond (has_change table n cs) o (row_at rows n)) (sym (row_applied table n cs [] rise))

written_ascends : (table : ℕ) (cs : List Change) → Ascend (rows_written table cs)
written_ascends table cs = applied_ascends table cs [] tt

twice : (b : Bool) (written other : Option Record) → written ≡ cond b written None → cond b (cond b written other) None ≡ written
twice true written other h = refl
twice false written other h = sym h

-- THE CHANGED ROWS are those written
pub changed_rows : (table : ℕ) (cs : List Change) (rows : List Record) → Ascend rows → Rise cs → filter (λ (r : Record). has_change table r.row.0 cs) (rows_with_changes table cs rows) ≡ rows_written table cs
changed_rows table cs rows ascend rise =
    let q : ℕ → Bool = λ n. has_change table n cs in
    rows_tell (filter (λ (r : Record). q r.row.0) (rows_with_changes table cs rows)) (rows_written table cs)
    (rising_filter comes_below (λ (r : Record). q r.row.0) (rows_with_changes table cs rows) (applied_ascends table cs rows ascend)) (written_ascends table cs)
    (λ n. row_filtered q (rows_with_changes table cs rows) n ∙ ap (λ o. cond (q n) o None) (row_changed table cs rows n rise)
    ∙ twice (q n) (row_at (rows_written table cs) n) (row_at rows n) (row_changed table cs [] n rise))

others_only : (b : Bool) (written other : Option Record) → cond (not b) (cond b written other) None ≡ cond (not b) other None
others_only true written other = refl
others_only false written other = refl

-- THE OTHER ROWS are as they were
pub unchanged_rows : (table : ℕ) (cs : List Change) (rows : List Record) → Ascend rows → Rise cs → rows_left table cs (rows_with_changes table cs rows) ≡ rows_left table cs rows
unchanged_rows table cs rows ascend rise =
    let q : ℕ → Bool = λ n. has_change table n cs in
    rows_tell (filter (λ (r : Record). not (q r.row.0)) (rows_with_changes table cs rows)) (filter (λ (r : Record). not (q r.row.0)) rows)
    (rising_filter comes_below (λ (r : Record). not (q r.row.0)) (rows_with_changes table cs rows) (applied_ascends table cs rows ascend))
    (rising_filter comes_below (λ (r : Record). not (q r.row.0)) rows ascend)
    (λ n. row_filtered (λ m. not (q m)) (rows_with_changes table cs rows) n ∙ ap (λ o. cond (not (q n)) o None) (row_changed table cs rows n rise)
    ∙ others_only (q n) (row_at (rows_written table cs) n) (row_at rows n) ∙ sym (row_filtered (λ m. not (q m)) rows n))

-- Further changes.

one_further : (table : ℕ) (c : Change) (cs : List Change) (rows : List Record) → Ascend rows → Rise cs → rows_with_changes table (with_change c cs) rows ≡ cond (c.table == table) (with_values c.row.0 c.values (rows_with_changes table cs rows)) (rows_with_changes table cs rows)
one_further table c cs rows ascend rise = elim (cases_Bool (c.table == table)) [
  | inl t ↦
      let same : c.table ≡ table = grind (arith, nat_tests) in
      rw t (ap (λ n. rows_with_changes n (with_change c cs) rows) (sym same) ∙ applied_own c cs rows ascend rise ∙ ap (λ n. with_values c.row.0 c.values (rows_with_changes n cs rows)) same)
  | inr f ↦ rw f (applied_other table c cs rows f ascend rise)
]

pub further_rows : (table : ℕ) (new cs : List Change) (rows : List Record) → Ascend rows → Rise cs → rows_with_changes table (with_changes new cs) rows ≡ rows_with_changes table new (rows_with_changes table cs rows)
further_rows table [] cs rows ascend rise = refl
further_rows table (c ∷ new) cs rows ascend rise =
    further_rows table new (with_change c cs) rows ascend (change_rises c cs rise) ∙ ap (rows_with_changes table new) (one_further table c cs rows ascend rise)

pub has_one : (table n : ℕ) (c : Change) (cs : List Change) → has_change table n (with_change c cs) ≡ (is_of table n c || has_change table n cs)
has_one table n c cs = elim (cases_Bool (is_of table n c)) [
  | inl t ↦ rw t (sym (some_any (is_of table n) (with_change c cs)) ∙ ap is_some (put_own table n c cs t))
  | inr f ↦ rw f (sym (some_any (is_of table n) (with_change c cs)) ∙ ap is_some (put_other table n c cs f) ∙ some_any (is_of table n) cs)
]

or_turned : (a b c : Bool) → ((a || b) || c) ≡ (b || (a || c))
or_turned true true c = refl
or_turned true false c = refl
or_turned false true c = refl
or_turned false false c = refl

pub has_further : (table n : ℕ) (new cs : List Change) → has_change table n (with_changes new cs) ≡ (has_change table n cs || has_change table n new)
has_further table n [] cs = sym (or-false (has_change table n cs))
has_further table n (c ∷ new) cs =
    has_further table n new (with_change c cs) ∙ ap (λ b. b || has_change table n new) (has_one table n c cs) ∙ or_turned (is_of table n c) (has_change table n cs) (has_change table n new)

-- The first of ascending rows that passes a test is the lower of the first ones on both sides of another test.

found_in : (t p : Record → Bool) (rows : List Record) (x : Record) → list_all t rows ≡ true → find p rows ≡ Some x → t x ≡ true
found_in t p [] x all is = cc
found_in t p (r ∷ rows) x all is =
    let parts = and_parts (t r) (list_all t rows) all in
    elim (cases_Bool (p r)) [
      | inl h ↦ (let same : Some r ≡ Some x = rw h at is in let own : r ≡ x = cc in ap t (sym own) ∙ parts.0)
      | inr f ↦ found_in t p rows x parts.1 (rw f at is)
    ]

abbrev pub number : Record → RowNo
number r = r.row

first_before : (r : Record) (found : Option Record) → ((x : Record) → found ≡ Some x → comes_below r x ≡ true) → Some r.row ≡ lower_row (Some r.row) (option_map number found)
first_before r None above = refl
first_before r (Some x) above =
    let not_lower : nat_lt x.row.0 r.row.0 ≡ false = (let low = above x refl in grind (arith, nat_tests)) in
    rw not_lower refl

first_behind : (r : Record) (found : Option Record) → ((x : Record) → found ≡ Some x → comes_below r x ≡ true) → Some r.row ≡ lower_row (option_map number found) (Some r.row)
first_behind r None above = refl
first_behind r (Some x) above =
    let lower : nat_lt r.row.0 x.row.0 ≡ true = above x refl in
    rw lower refl

pub lower_of_both : (p : Record → Bool) (q : ℕ → Bool) (rows : List Record) → Ascend rows
    → option_map number (find p rows) ≡ lower_row (option_map number (find p (filter (λ (r : Record). not (q r.row.0)) rows))) (option_map number (find p (filter (λ (r : Record). q r.row.0) rows)))
lower_of_both p q [] ascend = refl
lower_of_both p q (r ∷ rows) ascend =
    let rest = lower_of_both p q rows ascend.1 in
    elim (cases_Bool (q r.row.0)) [
      | inl k ↦ elim (cases_Bool (p r)) [
        | inl t ↦ rw (k, t) (first_behind r (find p (filter (λ (s : Record). not (q s.row.0)) rows)) (λ x is. found_in (comes_below r) p (filter (λ (s : Record). not (q s.row.0)) rows) x (all_filter (comes_below r) (λ (s : Record). not (q s.row.0)) rows ascend.0) is))
        | inr f ↦ rw (k, f) rest
      ]
      | inr g ↦ elim (cases_Bool (p r)) [
        | inl t ↦ rw (g, t) (first_before r (find p (filter (λ (s : Record). q s.row.0) rows)) (λ x is. found_in (comes_below r) p (filter (λ (s : Record). q s.row.0) rows) x (all_filter (comes_below r) (λ (s : Record). q s.row.0) rows ascend.0) is))
        | inr f ↦ rw (g, f) rest
      ]
    ]

-- THE THREE PLACES, each by a look-up.

unchanged_but : (a q e : Bool) → (e ≡ true → q ≡ true) → (not q && (a && not e)) ≡ (a && not q)
unchanged_but true true e h = refl
unchanged_but false true e h = refl
unchanged_but true false true h = let no : false ≡ true = h refl in cc
unchanged_but true false false h = refl
unchanged_but false false e h = refl

is_same : (table m n : ℕ) (cs : List Change) → has_change table m cs ≡ true → (n == m) ≡ true → has_change table n cs ≡ true
is_same table m n cs has e = (let same : n ≡ m = grind (arith, nat_tests) in ap (λ k. has_change table k cs) same ∙ has)

-- in the view with a statement's changes: of the rows seen now that it does not change, and of those that it writes
pub view_lowest : (columns : List ℕ) (key : List Value) (table row : ℕ) (new cs : List Change) (rows : List Record) → Ascend rows → Rise cs → Rise new → has_change table row new ≡ true
    → lowest_with columns key (other_than row) (rows_with_changes table (with_changes new cs) rows)
    ≡ lower_row (lowest_with columns key (λ n. not (has_change table n new)) (rows_with_changes table cs rows)) (lowest_with columns key (other_than row) (rows_written table new))
view_lowest columns key table row new cs rows ascend rise rises has =
    let q : ℕ → Bool = λ n. has_change table n new in
    let p : Record → Bool = λ r. has_key columns key r && not (r.row.0 == row) in
    let seen = rows_with_changes table cs rows in
    let seen_ascends = applied_ascends table cs rows ascend in
    ap (λ rs. option_map number (find p rs)) (further_rows table new cs rows ascend rise)
    ∙ lower_of_both p q (rows_with_changes table new seen) (applied_ascends table new seen seen_ascends)
    ∙ ap (λ rs. lower_row (option_map number (find p rs)) (option_map number (find p (filter (λ (r : Record). q r.row.0) (rows_with_changes table new seen))))) (unchanged_rows table new seen seen_ascends rises)
    ∙ ap (λ rs. lower_row (option_map number (find p (filter (λ (r : Record). not (q r.row.0)) seen))) (option_map number (find p rs))) (changed_rows table new seen seen_ascends rises)
    ∙ ap (λ o. lower_row (option_map number o) (option_map number (find p (rows_written table new))))
    (find_filtered p (λ (r : Record). not (q r.row.0)) seen ∙ find_same (λ (r : Record). not (q r.row.0) && p r) (λ r. has_key columns key r && not (q r.row.0)) seen
    (λ r. unchanged_but (has_key columns key r) (q r.row.0) (r.row.0 == row) (is_same table row r.row.0 new has)))

left_but : (a own new e : Bool) → (e ≡ true → new ≡ true) → (not (own || new) && (a && not e)) ≡ (a && not (own || new))
left_but true true new e h = refl
left_but false true new e h = refl
left_but true false true e h = refl
left_but false false true e h = refl
left_but true false false true h = let no : false ≡ true = h refl in cc
left_but true false false false h = refl
left_but false false false e h = refl

-- at the last commit
pub left_lowest : (columns : List ℕ) (key : List Value) (table row : ℕ) (new cs : List Change) (rows : List Record) → has_change table row new ≡ true
    → lowest_with columns key (other_than row) (rows_left table (with_changes new cs) rows) ≡ lowest_with columns key (λ n. not (has_change table n cs || has_change table n new)) rows
left_lowest columns key table row new cs rows has =
    let p : Record → Bool = λ r. has_key columns key r && not (r.row.0 == row) in
    ap (option_map number) (find_filtered p (λ (r : Record). not (has_change table r.row.0 (with_changes new cs))) rows
    ∙ find_same (λ (r : Record). not (has_change table r.row.0 (with_changes new cs)) && p r) (λ r. has_key columns key r && not (has_change table r.row.0 cs || has_change table r.row.0 new)) rows
    (λ r. ap (λ b. not b && p r) (has_further table r.row.0 new cs)
    ∙ left_but (has_key columns key r) (has_change table r.row.0 cs) (has_change table r.row.0 new) (r.row.0 == row) (is_same table row r.row.0 new has)))

and_turned : (a b c : Bool) → (a && (b && c)) ≡ (b && (a && c))
and_turned true true c = refl
and_turned true false c = refl
and_turned false true c = refl
and_turned false false c = refl

-- among the rows that another transaction has written
pub written_lowest : (columns : List ℕ) (key : List Value) (table row : ℕ) (cs : List Change) (rows : List Record) → Ascend rows → Rise cs
    → lowest_with columns key (other_than row) (rows_written table cs) ≡ lowest_with columns key (λ n. has_change table n cs && other_than row n) (rows_with_changes table cs rows)
written_lowest columns key table row cs rows ascend rise =
    let p : Record → Bool = λ r. has_key columns key r && not (r.row.0 == row) in
    let q : Record → Bool = λ r. has_change table r.row.0 cs in
    ap (λ rs. option_map number (find p rs)) (sym (changed_rows table cs rows ascend rise))
    ∙ ap (option_map number) (find_filtered p q (rows_with_changes table cs rows)
    ∙ find_same (λ (r : Record). q r && p r) (λ r. has_key columns key r && (q r && not (r.row.0 == row))) (rows_with_changes table cs rows)
    (λ r. and_turned (q r) (has_key columns key r) (not (r.row.0 == row))))

-- where it has written none
pub none_written : (columns : List ℕ) (key : List Value) (table row : ℕ) (cs : List Change) → touches table cs ≡ false → lowest_with columns key (other_than row) (rows_written table cs) ≡ None
none_written columns key table row cs none = ap (lowest_with columns key (other_than row)) (rows_untouched table cs [] none)
