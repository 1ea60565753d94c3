-- The rows of a view that a restriction keeps.
use Rattle.std.proofs.Common.{◌≡◌, ℕ, List, [], ◌∷◌, ◌++◌, Bool, true, false, not, ◌==◌, refl, ap, sym, ◌∙◌, inl, inr, subst, filter, map, Option, Some, None, length, IfSome, cond}
use Rattle.std.specs.List.{AllByRecursion, list_all}
use Rattle.std.proofs.lemmas.Bool.{cases_Bool, and_parts}
use Rattle.std.proofs.lemmas.List.Elements.{filter-append}
use Rattle.rv_reader.proofs.Rows.{ascend_with}
use Rattle.rv_value.specs.declared.value.Value.{Value}
use Rattle.rv_value.specs.declared.record.Record.{Record}
use Rattle.rv_rows.specs.declared.changes.Change.{Change}
use Rattle.rv_rows.specs.Changes.{Rise, is_before, rows_with_changes}
use Rattle.rv_rows.specs.Merging.{Passes}
use Rattle.rv_rows.specs.Rows.{Ascend, comes_below, with_values}
use Rattle.rv_rows.proofs.Merges.{without_cut}
use Rattle.rv_rows.proofs.Puts.{rising_filter}
use Rattle.rv_restrict.specs.declared.atom.Atom.{Atom}
use Rattle.rv_restrict.specs.Bind.{passes_home}
use Rattle.rv_restrict.specs.Truth.{names_only, qualifies}
use Rattle.rv_catalog.specs.Fits.{is_column}
use Rattle.rv_rows.proofs.Filters.{filters_turn}
use Rattle.rv_reader.specs.Storing.{AreWide}
use Rattle.rv_txn.specs.Changing.{HasColumns, HaveColumns, IsWide, LeavesColumns, kept_change, kept_values}

-- Columns.

values_have : (only : List (List Atom)) (columns : ℕ) (values : List Value) → names_only (passes_home (is_column columns)) only ≡ true → length values ≡ columns → HasColumns only values
values_have only columns values over wide = subst (λ (n : ℕ). names_only (passes_home (is_column n)) only ≡ true) (sym wide) over

pub rows_have : (only : List (List Atom)) (columns : ℕ) (rows : List Record) → names_only (passes_home (is_column columns)) only ≡ true → AreWide columns rows → HaveColumns only rows
rows_have only columns [] over wide = tt
rows_have only columns (r ∷ rows) over wide = (values_have only columns r.values over wide.0, rows_have only columns rows over wide.1)

some_have : (only : List (List Atom)) (columns : ℕ) (values : Option (List Value)) → names_only (passes_home (is_column columns)) only ≡ true → IfSome values (λ (vs : List Value). length vs ≡ columns) → IfSome values (HasColumns only)
some_have only columns None over wide = tt
some_have only columns (Some vs) over wide = values_have only columns vs over wide

pub changes_have : (only : List (List Atom)) (table columns : ℕ) (changes : List Change) → names_only (passes_home (is_column columns)) only ≡ true → AllByRecursion (IsWide table columns) changes → AllByRecursion (LeavesColumns table only) changes
changes_have only table columns [] over wide = tt
changes_have only table columns (c ∷ cs) over wide = (λ here. some_have only columns c.values over (wide.0 here), changes_have only table columns cs over wide.1)

pub filter_have : (only : List (List Atom)) (p : Record → Bool) (rows : List Record) → HaveColumns only rows → HaveColumns only (filter p rows)
filter_have only p [] have = tt
filter_have only p (r ∷ rows) have =
    let rest = filter_have only p rows have.1 in
    elim (p r) as (λ b. HaveColumns only (cond b (r ∷ filter p rows) (filter p rows))) [ true ↦ (have.0, rest) | false ↦ rest ]

-- Rows that a test passes, with changes of which the values that it does not pass are left out.

-- whether a row is kept
abbrev pub keeps : List (List Atom) → Record → Bool
keeps only r = qualifies only r.values

kept_with : (only : List (List Atom)) (number : ℕ) (values : Option (List Value)) (rows : List Record) → Ascend rows → filter (keeps only) (with_values number values rows) ≡ with_values number (kept_values only values) (filter (keeps only) rows)
kept_with only number None rows ascend = filters_turn (keeps only) (λ (r : Record). not (r.row.0 == number)) rows
kept_with only number (Some vs) rows ascend =
    let new : Record = record { row = record { 0 = number }; values = vs } in
    let front = filters_turn (keeps only) (λ (r : Record). comes_below r new) rows in
    let back = filters_turn (keeps only) (λ (r : Record). comes_below new r) rows in
    elim (cases_Bool (qualifies only vs)) [
      | inl t ↦ rw (filter-append (keeps only) (filter (λ (r : Record). comes_below r new) rows) (new ∷ filter (λ (r : Record). comes_below new r) rows), t, front, back) refl
      | inr f ↦
          rw (filter-append (keeps only) (filter (λ (r : Record). comes_below r new) rows) (new ∷ filter (λ (r : Record). comes_below new r) rows), f, front, back)
          (sym (without_cut number (filter (keeps only) rows) (rising_filter comes_below (keeps only) rows ascend)))
    ]

-- one change of the table applied, of which values are left out where they are not kept
one_kept : (only : List (List Atom)) (table : ℕ) (c : Change) (cs : List Change) (rows : List Record) (b : Bool) → c.table == table ≡ b → rows_with_changes table (kept_change only c ∷ cs) rows ≡ rows_with_changes table cs (cond b (with_values c.row.0 (kept_values only c.values) rows) rows)
one_kept only table c cs rows b e = ap (λ (b : Bool). rows_with_changes table cs (cond b (with_values c.row.0 (kept_values only c.values) rows) rows)) e

pub kept_applied : (only : List (List Atom)) (table : ℕ) (changes : List Change) (rows : List Record) → Ascend rows → filter (keeps only) (rows_with_changes table changes rows) ≡ rows_with_changes table (map (kept_change only) changes) (filter (keeps only) rows)
kept_applied only table [] rows ascend = refl
kept_applied only table (c ∷ cs) rows ascend = elim (cases_Bool (c.table == table)) [
  | inl here ↦
      ap (λ (b : Bool). filter (keeps only) (rows_with_changes table cs (cond b (with_values c.row.0 c.values rows) rows))) here
      ∙ kept_applied only table cs (with_values c.row.0 c.values rows) (ascend_with c.row.0 c.values rows ascend)
      ∙ ap (rows_with_changes table (map (kept_change only) cs)) (kept_with only c.row.0 c.values rows ascend)
      ∙ sym (one_kept only table c (map (kept_change only) cs) (filter (keeps only) rows) true here)
  | inr other ↦
      ap (λ (b : Bool). filter (keeps only) (rows_with_changes table cs (cond b (with_values c.row.0 c.values rows) rows))) other
      ∙ kept_applied only table cs rows ascend
      ∙ sym (one_kept only table c (map (kept_change only) cs) (filter (keeps only) rows) false other)
]

kept_behind : (only : List (List Atom)) (c : Change) (cs : List Change) → list_all (is_before c) cs ≡ true → list_all (is_before (kept_change only c)) (map (kept_change only) cs) ≡ true
kept_behind only c [] all = refl
kept_behind only c (d ∷ ds) all =
    let parts = and_parts (is_before c d) (list_all (is_before c) ds) all in
    rw (parts.0) (kept_behind only c ds parts.1)

pub kept_rise : (only : List (List Atom)) (changes : List Change) → Rise changes → Rise (map (kept_change only) changes)
kept_rise only [] rise = tt
kept_rise only (c ∷ cs) rise = (kept_behind only c cs rise.0, kept_rise only cs rise.1)

-- One change is laid over the rows that are left.
pub one_laid : (only : List (List Atom)) (table : ℕ) (old rest new left all : List Record) (s t : List Change) (c : Change) → s ≡ c ∷ t → Rise s
    → Passes table (kept_change only c) old rest new left → old ++ rows_with_changes table (map (kept_change only) s) rest ≡ all → new ++ rows_with_changes table (map (kept_change only) t) left ≡ all
one_laid only table old rest new left all s t c next rise passes told =
    let rise' : Rise (c ∷ t) = subst Rise next rise in
    let told' : old ++ rows_with_changes table (map (kept_change only) (c ∷ t)) rest ≡ all = subst (λ (cs : List Change). old ++ rows_with_changes table (map (kept_change only) cs) rest ≡ all) next told in
    passes.same (map (kept_change only) t) (kept_rise only (c ∷ t) rise') ∙ told'

-- Without a restriction each row is kept, and each change as it is.

pub all_kept : (rows : List Record) → filter (keeps []) rows ≡ rows
all_kept [] = refl
all_kept (r ∷ rows) = ap (λ rs. r ∷ rs) (all_kept rows)

values_kept : (values : Option (List Value)) → kept_values [] values ≡ values
values_kept None = refl
values_kept (Some vs) = refl

pub changes_kept : (cs : List Change) → map (kept_change []) cs ≡ cs
changes_kept [] = refl
changes_kept (c ∷ cs) = λ i. record c { values = values_kept c.values i } ∷ changes_kept cs i

some_leave : (values : Option (List Value)) → IfSome values (HasColumns [])
some_leave None = tt
some_leave (Some vs) = refl

pub all_leave : (table : ℕ) (cs : List Change) → AllByRecursion (LeavesColumns table []) cs
all_leave table [] = tt
all_leave table (c ∷ cs) = (λ here. some_leave c.values, all_leave table cs)
