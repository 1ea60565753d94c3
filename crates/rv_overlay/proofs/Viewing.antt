-- The entries of a view are those of its rows.
use Rattle.std.proofs.Common.{◌≡◌, ℕ, List, [], ◌∷◌, Bool, true, false, not, ◌&&◌, ◌||◌, cond, Option, Some, None, inl, inr, refl, ap, sym, ◌∙◌, map, arith, ◌==◌}
use Rattle.std.proofs.lemmas.Bool.{cases_Bool, and_parts}
use Rattle.std.proofs.lemmas.Bool.Decides.{nat_tests}
use Rattle.std.specs.List.{list_all}
use Rattle.std.specs.Ordering.{is_eq}
use Rattle.std.proofs.Math.Bool.{or-false, and-true}
use Rattle.rv_reader.proofs.Rows.{applied_ascends}
use Rattle.rv_value.specs.declared.record.Record.{Record}
use Rattle.rv_value.specs.declared.record.IndexEntry.{IndexEntry}
use Rattle.rv_value.specs.Entries.{entry_cmp}
use Rattle.rv_value.proofs.Tests.{or_swapped}
use Rattle.rv_rows.specs.declared.changes.Change.{Change}
use Rattle.rv_rows.specs.Changes.{rows_with_changes}
use Rattle.rv_rows.specs.Rows as rows_by_number
use Rattle.rv_rows.specs.Rows.{comes_below}
use Rattle.rv_reader.specs.Entries.{comes_before, entries_of, entry_of, sorted, sorted_in, Ascend}
use Rattle.rv_reader.specs.Tables.{row_at}
use Rattle.rv_reader.proofs.Sorting.{entries_ascend, equal_entries}
use Rattle.rv_rows.proofs.Puts.{rising_filter}
use Rattle.rv_overlay.specs.Laying.{has, laid, without}
use Rattle.rv_overlay.specs.Rows.{change_of, changed_row}
use Rattle.rv_overlay.specs.Views.{ViewIs, adds, is_entry, takes}
use Rattle.rv_overlay.proofs.Members.{laid_has, members_tell}
use Rattle.rv_overlay.proofs.Placing.{with_ascends}
use Rattle.rv_overlay.proofs.Tabling.{row_applied}

has_in : (x e : IndexEntry) (xs : List IndexEntry) → has (sorted_in x xs) e ≡ (is_eq (entry_cmp x e) || has xs e)
has_in x e [] = refl
has_in x e (y ∷ ys) = elim (cases_Bool (comes_before y x)) [
  | inl t ↦ rw t (ap (λ b. is_eq (entry_cmp y e) || b) (has_in x e ys) ∙ or_swapped (is_eq (entry_cmp y e)) (is_eq (entry_cmp x e)) (has ys e))
  | inr f ↦ rw f refl
]

has_sorted : (xs : List IndexEntry) (e : IndexEntry) → has (sorted xs) e ≡ has xs e
has_sorted [] e = refl
has_sorted (x ∷ xs) e = has_in x e (sorted xs) ∙ ap (λ b. is_eq (entry_cmp x e) || b) (has_sorted xs e)

-- an entry of another row
pub row_other : (columns : List ℕ) (r : Record) (e : IndexEntry) → r.row.0 == e.row.0 ≡ false → is_eq (entry_cmp (entry_of columns r) e) ≡ false
row_other columns r e f = elim (cases_Bool (is_eq (entry_cmp (entry_of columns r) e))) [
  | inl t ↦
      let is : r.row.0 ≡ e.row.0 = ap (λ (x : IndexEntry). x.row.0) (equal_entries (entry_of columns r) e t) in
      grind (arith, nat_tests)
  | inr g ↦ g
]

none_mapped : (columns : List ℕ) (r : Record) (rows : List Record) (e : IndexEntry) → r.row.0 == e.row.0 ≡ true → list_all (comes_below r) rows ≡ true → has (map (entry_of columns) rows) e ≡ false
none_mapped columns r [] e h all = refl
none_mapped columns r (s ∷ rows) e h all =
    let parts = and_parts (comes_below r s) (list_all (comes_below r) rows) all in
    let apart : s.row.0 == e.row.0 ≡ false = (let below = parts.0 in grind (arith, nat_tests)) in
    rw (row_other columns s e apart) (none_mapped columns r rows e h parts.1)

has_mapped : (columns : List ℕ) (rows : List Record) (e : IndexEntry) → rows_by_number.Ascend rows → has (map (entry_of columns) rows) e ≡ is_entry columns (row_at rows e.row.0) e
has_mapped columns [] e ascend = refl
has_mapped columns (r ∷ rows) e ascend = elim (cases_Bool (r.row.0 == e.row.0)) [
  | inl t ↦
      ap (λ b. is_eq (entry_cmp (entry_of columns r) e) || b) (none_mapped columns r rows e t ascend.0) ∙ or-false (is_eq (entry_cmp (entry_of columns r) e))
      ∙ sym (ap (λ (b : Bool). is_entry columns (cond b (Some r) (row_at rows e.row.0)) e) t)
  | inr f ↦
      ap (λ b. b || has (map (entry_of columns) rows) e) (row_other columns r e f) ∙ has_mapped columns rows e ascend.1
      ∙ sym (ap (λ (b : Bool). is_entry columns (cond b (Some r) (row_at rows e.row.0)) e) f)
]

pub has_entries : (columns : List ℕ) (rows : List Record) (e : IndexEntry) → rows_by_number.Ascend rows → has (entries_of columns rows) e ≡ is_entry columns (row_at rows e.row.0) e
has_entries columns rows e ascend = has_sorted (map (entry_of columns) rows) e ∙ has_mapped columns rows e ascend

-- old and new, as tests
old_new : (old new : Bool) → ((new && not old) || (old && not (old && not new))) ≡ new
old_new true true = refl
old_new true false = refl
old_new false true = refl
old_new false false = refl

one_entry : (columns : List ℕ) (c : Option Change) (found : Option Record) (e : IndexEntry) → (adds columns c found e || (is_entry columns found e && not (takes columns c found e))) ≡ is_entry columns (changed_row c found) e
one_entry columns None found e = and-true (is_entry columns found e)
one_entry columns (Some c) found e = old_new (is_entry columns found e) (is_entry columns (changed_row (Some c) None) e)

pub view_is : ViewIs
view_is columns table changes rows taken added ascend rise frozen =
    members_tell (laid taken added (entries_of columns rows)) (entries_of columns (rows_with_changes table changes rows))
    (with_ascends added (without taken (entries_of columns rows)) (rising_filter comes_before (λ (e : IndexEntry). not (has taken e)) (entries_of columns rows) (entries_ascend columns rows ascend)))
    (entries_ascend columns (rows_with_changes table changes rows) (applied_ascends table changes rows ascend))
    (λ e.
    let c = change_of table e.row.0 changes in
    let found = row_at rows e.row.0 in
    laid_has taken added (entries_of columns rows) e
    ∙ ap (λ b. b || (has (entries_of columns rows) e && not (has taken e))) (frozen.come e)
    ∙ ap (λ b. adds columns c found e || (b && not (has taken e))) (has_entries columns rows e ascend)
    ∙ ap (λ b. adds columns c found e || (is_entry columns found e && not b)) (frozen.gone e)
    ∙ one_entry columns c found e
    ∙ ap (λ o. is_entry columns o e) (sym (row_applied table e.row.0 changes rows rise))
    ∙ sym (has_entries columns (rows_with_changes table changes rows) e (applied_ascends table changes rows ascend)))
