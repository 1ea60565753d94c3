-- The entries of the rows that a statement writes, put in one after another.
use Rattle.std.proofs.Common.{◌≡◌, ℕ, zero, suc, List, [], ◌∷◌, ◌++◌, Bool, true, false, ◌&&◌, ◌||◌, ◌==◌, cond, Option, Some, None, inl, inr, refl, ap, sym, subst, ◌∙◌, take, arith, append-nil, append_assoc}
use Rattle.std.specs.Prelude.{slice_get}
use Rattle.std.proofs.lemmas.Bool.{cases_Bool, and_parts}
use Rattle.std.proofs.lemmas.Bool.Decides.{nat_tests}
use Rattle.std.specs.List.{AllByRecursion, list_all}
use Rattle.std.specs.Ordering.{is_eq}
use Rattle.std.proofs.lemmas.Option.{same_Some}
use Rattle.std.proofs.Math.Bool.{or-false}
use Rattle.rv_reader.proofs.Rows.{applied_ascends}
use Rattle.rv_value.specs.declared.value.Value.{Value}
use Rattle.rv_value.specs.declared.record.Record.{Record}
use Rattle.rv_value.specs.declared.record.IndexEntry.{IndexEntry}
use Rattle.rv_value.specs.Entries.{entry_cmp}
use Rattle.rv_value.proofs.Tests.{or_swapped}
use Rattle.rv_value.proofs.Lists.{all_take}
use Rattle.rv_rows.specs.declared.changes.Change.{Change}
use Rattle.rv_rows.specs.Changes.{Rise, has_change, is_before, is_of}
use Rattle.rv_rows.specs.Merging.{values_row}
use Rattle.rv_rows.specs.Rising.{put_in}
use Rattle.rv_rows.specs.Rows as rows_by_number
use Rattle.rv_rows.specs.Rows.{comes_below}
use Rattle.rv_rows.proofs.Merges.{passes_put}
use Rattle.rv_rows.proofs.Cuts.{rising_take}
use Rattle.rv_reader.specs.Entries.{Ascend, comes_before, entries_of, entry_of, entry_at}
use Rattle.rv_reader.specs.Tables.{row_at}
use Rattle.rv_reader.proofs.Sorting.{entries_ascend}
use Rattle.rv_model.specs.Rivals.{key_of, rows_written}
use Rattle.rv_overlay.specs.Keeping.{with_some}
use Rattle.rv_overlay.specs.Rows.{changed_row}
use Rattle.rv_overlay.specs.Views.{is_entry}
use Rattle.rv_overlay.proofs.Members.{has_put, members_tell}
use Rattle.rv_overlay.proofs.Placing.{put_ascends}
use Rattle.rv_overlay.proofs.Viewing.{has_entries, row_other}

pub take_next : {X : Type 0} (xs : List X) (k : ℕ) (x : X) → slice_get xs k ≡ Some x → take (suc k) xs ≡ take k xs ++ x ∷ []
take_next [] k x is = cc
take_next (y ∷ ys) zero x is = ap (λ z. z ∷ []) (same_Some y x is)
take_next (y ∷ ys) (suc k) x is = ap (λ zs. y ∷ zs) (take_next ys k x is)

-- The rows that changes write, in their order.

abbrev pub given : List Change → List Record
given [] = []
given (c ∷ cs) = values_row c.row.0 c.values ++ given cs

given_more : (cs : List Change) (c : Change) → given (cs ++ c ∷ []) ≡ given cs ++ values_row c.row.0 c.values
given_more [] c = append-nil (values_row c.row.0 c.values)
given_more (d ∷ ds) c = ap (λ rows. values_row d.row.0 d.values ++ rows) (given_more ds c) ∙ sym (append_assoc (values_row d.row.0 d.values) (given ds) (values_row c.row.0 c.values))

pub written_given : (table : ℕ) (new : List Change) → Rise new → AllByRecursion (λ (c : Change). c.table ≡ table) new → rows_written table new ≡ given new
written_given table [] rise of = refl
written_given table (c ∷ cs) rise of =
    let passes = passes_put table c [] [] (values_row c.row.0 c.values) [] tt of.0 refl refl in
    sym (passes.same cs rise) ∙ ap (λ rows. values_row c.row.0 c.values ++ rows) (written_given table cs rise.1 of.1)

-- They ascend, and so do those of the changes in front.

given_ascends : (table : ℕ) (new : List Change) → Rise new → AllByRecursion (λ (c : Change). c.table ≡ table) new → rows_by_number.Ascend (given new)
given_ascends table new rise of = subst rows_by_number.Ascend (written_given table new rise of) (applied_ascends table new [] tt)

-- A row behind others.

last_passes : {X : Type 0} (p : X → Bool) (xs : List X) (x : X) → list_all p (xs ++ x ∷ []) ≡ true → p x ≡ true
last_passes p [] x all = (and_parts (p x) true all).0
last_passes p (y ∷ ys) x all = last_passes p ys x (and_parts (p y) (list_all p (ys ++ x ∷ [])) all).1

none_last : (rows : List Record) (r : Record) (n : ℕ) → rows_by_number.Ascend (rows ++ r ∷ []) → (r.row.0 == n) ≡ true → row_at rows n ≡ None
none_last [] r n ascend is = refl
none_last (s ∷ rows) r n ascend is =
    let below = last_passes (comes_below s) rows r ascend.0 in
    let apart : (s.row.0 == n) ≡ false = grind (arith, nat_tests) in
    rw apart (none_last rows r n ascend.1 is)

row_last : (rows : List Record) (r : Record) (n : ℕ) → rows_by_number.Ascend (rows ++ r ∷ []) → row_at (rows ++ r ∷ []) n ≡ cond (r.row.0 == n) (Some r) (row_at rows n)
row_last [] r n ascend = refl
row_last (s ∷ rows) r n ascend = elim (cases_Bool (s.row.0 == n)) [
  | inl t ↦
      let below = last_passes (comes_below s) rows r ascend.0 in
      let apart : (r.row.0 == n) ≡ false = grind (arith, nat_tests) in
      rw (t, apart) refl
  | inr f ↦ rw f (row_last rows r n ascend.1)
]

one_entry : (columns : List ℕ) (rows : List Record) (r : Record) (e : IndexEntry) → rows_by_number.Ascend (rows ++ r ∷ [])
    → (is_eq (entry_cmp (entry_of columns r) e) || is_entry columns (row_at rows e.row.0) e) ≡ is_entry columns (cond (r.row.0 == e.row.0) (Some r) (row_at rows e.row.0)) e
one_entry columns rows r e ascend = by (r.row.0 == e.row.0) refl
  where
    by : (b : Bool) → (r.row.0 == e.row.0) ≡ b → (is_eq (entry_cmp (entry_of columns r) e) || is_entry columns (row_at rows e.row.0) e) ≡ is_entry columns (cond b (Some r) (row_at rows e.row.0)) e
    by true t = ap (λ o. is_eq (entry_cmp (entry_of columns r) e) || is_entry columns o e) (none_last rows r e.row.0 ascend t) ∙ or-false (is_eq (entry_cmp (entry_of columns r) e))
    by false f = ap (λ b. b || is_entry columns (row_at rows e.row.0) e) (row_other columns r e f)

pub front_ascends : (rows : List Record) (r : Record) → rows_by_number.Ascend (rows ++ r ∷ []) → rows_by_number.Ascend rows
front_ascends [] r ascend = tt
front_ascends (s ∷ rows) r ascend = (all_front rows ascend.0, front_ascends rows r ascend.1)
  where
    all_front : (xs : List Record) → list_all (comes_below s) (xs ++ r ∷ []) ≡ true → list_all (comes_below s) xs ≡ true
    all_front [] all = refl
    all_front (x ∷ xs) all = (let parts = and_parts (comes_below s x) (list_all (comes_below s) (xs ++ r ∷ [])) all in rw parts.0 (all_front xs parts.1))

pub put_more : (columns : List ℕ) (rows : List Record) (r : Record) → rows_by_number.Ascend (rows ++ r ∷ []) → put_in comes_before (entry_of columns r) (entries_of columns rows) ≡ entries_of columns (rows ++ r ∷ [])
put_more columns rows r ascend =
    let before = front_ascends rows r ascend in
    members_tell (put_in comes_before (entry_of columns r) (entries_of columns rows)) (entries_of columns (rows ++ r ∷ []))
    (put_ascends (entry_of columns r) (entries_of columns rows) (entries_ascend columns rows before)) (entries_ascend columns (rows ++ r ∷ []) ascend)
    (λ e. has_put (entry_of columns r) (entries_of columns rows) e
    ∙ ap (λ b. is_eq (entry_cmp (entry_of columns r) e) || b) (has_entries columns rows e before)
    ∙ one_entry columns rows r e ascend
    ∙ ap (λ o. is_entry columns o e) (sym (row_last rows r e.row.0 ascend))
    ∙ sym (has_entries columns (rows ++ r ∷ []) e ascend))

-- One change more.

one_more : (columns : List ℕ) (c : Change) (values : Option (List Value)) (rows : List Record) → rows_by_number.Ascend (rows ++ values_row c.row.0 values)
    → with_some (entry_at columns (changed_row (Some (record c { values = values })) None)) (entries_of columns rows) ≡ entries_of columns (rows ++ values_row c.row.0 values)
one_more columns c None rows ascend = ap (entries_of columns) (sym (append-nil rows))
one_more columns c (Some vs) rows ascend = put_more columns rows (record { row = record { 0 = c.row.0 }; values = vs }) ascend

pub entries_next : (columns : List ℕ) (table k : ℕ) (c : Change) (new : List Change) (entries next : List IndexEntry) → Rise new → AllByRecursion (λ (d : Change). d.table ≡ table) new → slice_get new k ≡ Some c
    → entries ≡ entries_of columns (given (take k new)) → next ≡ with_some (entry_at columns (changed_row (Some c) None)) entries → next ≡ entries_of columns (given (take (suc k) new))
entries_next columns table k c new entries next rise of is before put =
    let more : given (take (suc k) new) ≡ given (take k new) ++ values_row c.row.0 c.values = ap given (take_next new k c is) ∙ given_more (take k new) c in
    let ascends = subst rows_by_number.Ascend more (given_ascends table (take (suc k) new) (rising_take is_before (suc k) new rise) (all_take (λ (c : Change). c.table ≡ table) (suc k) new of)) in
    put ∙ ap (with_some (entry_at columns (changed_row (Some c) None))) before ∙ one_more columns c c.values (given (take k new)) ascends ∙ ap (entries_of columns) (sym more)

-- the rows that a statement changes, told by a list with the same rows

has_last : (table row : ℕ) (c : Change) (cs : List Change) → (is_of table row c || has_change table row cs) ≡ has_change table row (cs ++ c ∷ [])
has_last table row c [] = refl
has_last table row c (e ∷ es) = or_swapped (is_of table row c) (is_of table row e) (has_change table row es) ∙ ap (λ b. is_of table row e || b) (has_last table row c es)

pub rows_next : (table row k : ℕ) (c d : Change) (new rows next : List Change) → slice_get new k ≡ Some c → d.table ≡ c.table → d.row ≡ c.row
    → has_change table row rows ≡ has_change table row (take k new) → has_change table row next ≡ (is_of table row d || has_change table row rows) → has_change table row next ≡ has_change table row (take (suc k) new)
rows_next table row k c d new rows next is tables rows_same before put =
    put ∙ (λ i. ((tables i == table) && ((rows_same i).0 == row)) || before i) ∙ has_last table row c (take k new) ∙ ap (has_change table row) (sym (take_next new k c is))

pub put_is : (columns : List ℕ) (c : Change) (values key : List Value) (old new : List IndexEntry) → c.values ≡ Some values → key ≡ key_of columns values → new ≡ put_in comes_before (record { key = key; row = c.row }) old → new ≡ with_some (entry_at columns (changed_row (Some c) None)) old
put_is columns c values key old new has is put =
    put ∙ ap (λ k. (let e : IndexEntry = record { key = k; row = c.row } in put_in comes_before e old)) is
    ∙ sym (ap (λ v. with_some (entry_at columns (changed_row (Some (record c { values = v })) None)) old) has)
