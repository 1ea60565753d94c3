-- What was frozen of an index and of a table fits the reader that it is laid over.
use Rattle.std.proofs.Common.{◌≡◌, ℕ, ◌+◌, ◌*◌, ◌/◌, ◌<◌, ◌≤◌, List, [], ◌∷◌, Bool, true, not, ◌&&◌, ◌==◌, cond, Option, Some, None, IfSome, is_some, inl, inr, refl, ap, sym, subst, ◌∙◌, filter, length, arith}
use Rattle.std.specs.Prelude.{max}
use Rattle.std.proofs.lemmas.Bool.{cases_Bool, and_parts, or_right}
use Rattle.std.specs.List.{AllByRecursion, list_all}
use Rattle.std.specs.Ordering.{is_eq}
use Rattle.std.proofs.lemmas.List.{length-map}
use Rattle.rv_overlay.proofs.Members.{has_self}
use Rattle.rv_reader.proofs.Rows.{applied_ascends}
use Rattle.rv_value.proofs.Lists.{all_append, all_filter}
use Rattle.rv_value.specs.declared.value.Value.{Value}
use Rattle.rv_value.specs.declared.record.Record.{Record}
use Rattle.rv_value.specs.declared.record.IndexEntry.{IndexEntry}
use Rattle.rv_value.specs.Entries.{entry_cmp}
use Rattle.rv_rows.specs.declared.changes.Change.{Change}
use Rattle.rv_rows.specs.Changes.{rows_with_changes}
use Rattle.rv_rows.specs.Rows.{comes_below, with_values}
use Rattle.rv_rows.specs.Rows as rows_by_number
use Rattle.rv_reader.specs.Entries.{column_of, entries_of, entry_of}
use Rattle.rv_reader.specs.Storing.{pages_after, pages_with}
use Rattle.rv_reader.specs.Tables.{IsTable, row_at}
use Rattle.rv_reader.proofs.Sorting.{entries_keys, equal_entries}
use Rattle.rv_overlay.specs.declared.frozen.TableSize.{TableSize}
use Rattle.rv_overlay.specs.Freezing.{IndexFits, KeepsSize, TableFits}
use Rattle.rv_overlay.specs.Laying.{has}
use Rattle.rv_overlay.specs.Overlaid.{IsSizeOf, size_of}
use Rattle.rv_overlay.specs.Rows.{change_of, changed_row}
use Rattle.rv_overlay.specs.Views.{is_entry}
use Rattle.rv_overlay.proofs.Moving.{adds_is, takes_is}
use Rattle.rv_overlay.proofs.Viewing.{has_entries}

-- Members and lists.

all_members : (P : IndexEntry → Type 0) (es : List IndexEntry) → ((e : IndexEntry) → has es e ≡ true → P e) → AllByRecursion P es
all_members P [] h = tt
all_members P (x ∷ xs) h = (h x (has_self x xs), all_members P xs (λ e k. h e (or_right (is_eq (entry_cmp x e)) (has xs e) k)))

tests_members : (p : IndexEntry → Bool) (es : List IndexEntry) → ((e : IndexEntry) → has es e ≡ true → p e ≡ true) → list_all p es ≡ true
tests_members p [] h = refl
tests_members p (x ∷ xs) h = rw (h x (has_self x xs)) (tests_members p xs (λ e k. h e (or_right (is_eq (entry_cmp x e)) (has xs e) k)))

-- Keys.

key_count : (columns : List ℕ) (found : Option Record) (e : IndexEntry) → is_entry columns found e ≡ true → length e.key ≡ length columns
key_count columns None e h = cc
key_count columns (Some r) e h = ap (λ (x : IndexEntry). length x.key) (sym (equal_entries (entry_of columns r) e h)) ∙ length-map columns (column_of r.values)

pub index_fits : IndexFits
index_fits columns table changes rows cuts part keeps =
    let adding : (e : IndexEntry) → has part.added e ≡ true → (is_entry columns (changed_row (change_of table e.row.0 changes) (row_at rows e.row.0)) e ≡ true) × (not (is_entry columns (row_at rows e.row.0) e) ≡ true) = λ e h.
    and_parts _ _ (sym (adds_is columns (change_of table e.row.0 changes) (row_at rows e.row.0) e) ∙ sym (keeps.freezes.come e) ∙ h) in
    let taking : (e : IndexEntry) → has part.taken e ≡ true → is_entry columns (row_at rows e.row.0) e ≡ true = λ e h.
    (and_parts (is_entry columns (row_at rows e.row.0) e) _ (sym (takes_is columns (change_of table e.row.0 changes) (row_at rows e.row.0) e) ∙ sym (keeps.freezes.gone e) ∙ h)).0 in
    record {
      index = keeps.index;
      keys = rw keeps.width (entries_keys columns rows);
      cut_keys = rw keeps.width keeps.cut_keys;
      added = keeps.added;
      added_keys = rw keeps.width (all_members (λ e. length e.key ≡ length columns) part.added (λ e h. key_count columns _ e (adding e h).0));
      taken = keeps.taken;
      taken_there = tests_members (has (entries_of columns rows)) part.taken (λ e h. has_entries columns rows e keeps.ascend ∙ taking e h);
      apart = tests_members (λ e. not (has (entries_of columns rows) e)) part.added (λ e h. ap (λ b. not b) (has_entries columns rows e keeps.ascend) ∙ (adding e h).1);
      many = keeps.many;
      few = keeps.few;
      short = keeps.short;
    }

-- Tables.

all_more : (n m : ℕ) → n ≤ m → (rows : List Record) → AllByRecursion (λ (r : Record). r.row.0 < 32 * n) rows → AllByRecursion (λ (r : Record). r.row.0 < 32 * m) rows
all_more n m le [] all = tt
all_more n m le (r ∷ rows) all = let first = all.0 in (omega (arith, first, le), all_more n m le rows all.1)

with_within : (table pages : ℕ) (c : Change) (rows : List Record) → c.table == table ≡ true → AllByRecursion (λ (r : Record). r.row.0 < 32 * pages) rows → AllByRecursion (λ (r : Record). r.row.0 < 32 * pages_with table c pages) (with_values c.row.0 c.values rows)
with_within table pages c rows t all = by c.values refl
  where
    by : (values : Option (List Value)) → c.values ≡ values → AllByRecursion (λ (r : Record). r.row.0 < 32 * pages_with table c pages) (with_values c.row.0 values rows)
    by None e =
        let same : pages_with table c pages ≡ pages = ap (λ b. cond (b && is_some c.values) (max pages (c.row.0 / 32 + 1)) pages) t ∙ ap (λ v. cond (true && is_some v) (max pages (c.row.0 / 32 + 1)) pages) e in
        rw same (all_filter (λ (r : Record). r.row.0 < 32 * pages) (λ (r : Record). not (r.row.0 == c.row.0)) rows all)
    by (Some vs) e =
        let new : Record = record { row = record { 0 = c.row.0 }; values = vs } in
        let next : pages_with table c pages ≡ max pages (c.row.0 / 32 + 1) = ap (λ b. cond (b && is_some c.values) (max pages (c.row.0 / 32 + 1)) pages) t ∙ ap (λ v. cond (true && is_some v) (max pages (c.row.0 / 32 + 1)) pages) e in
        let more = all_more pages (max pages (c.row.0 / 32 + 1)) (omega arith) rows all in
        rw next (all_append (λ (r : Record). r.row.0 < 32 * max pages (c.row.0 / 32 + 1)) (filter (λ (r : Record). comes_below r new) rows) (new ∷ filter (λ (r : Record). comes_below new r) rows)
        (all_filter (λ (r : Record). r.row.0 < 32 * max pages (c.row.0 / 32 + 1)) (λ (r : Record). comes_below r new) rows more)
        (omega arith, all_filter (λ (r : Record). r.row.0 < 32 * max pages (c.row.0 / 32 + 1)) (λ (r : Record). comes_below new r) rows more))

applied_within : (table pages : ℕ) (cs : List Change) (rows : List Record) → AllByRecursion (λ (r : Record). r.row.0 < 32 * pages) rows → AllByRecursion (λ (r : Record). r.row.0 < 32 * pages_after table cs pages) (rows_with_changes table cs rows)
applied_within table pages [] rows all = all
applied_within table pages (c ∷ cs) rows all = elim (cases_Bool (c.table == table)) [
  | inl t ↦ subst (λ b. AllByRecursion (λ (r : Record). r.row.0 < 32 * pages_after table cs (pages_with table c pages)) (rows_with_changes table cs (cond b (with_values c.row.0 c.values rows) rows))) (sym t) (applied_within table (pages_with table c pages) cs (with_values c.row.0 c.values rows) (with_within table pages c rows t all))
  | inr f ↦
      let same : pages_with table c pages ≡ pages = ap (λ b. cond (b && is_some c.values) (max pages (c.row.0 / 32 + 1)) pages) f in
      subst (λ b. AllByRecursion (λ (r : Record). r.row.0 < 32 * pages_after table cs (pages_with table c pages)) (rows_with_changes table cs (cond b (with_values c.row.0 c.values rows) rows))) (sym f)
      (subst (λ n. AllByRecursion (λ (r : Record). r.row.0 < 32 * pages_after table cs n) (rows_with_changes table cs rows)) (sym same) (applied_within table pages cs rows all))
]

pub applied_fits : (table pages : ℕ) (changes : List Change) (rows : List Record) → IsTable rows pages → IsTable (rows_with_changes table changes rows) (pages_after table changes pages)
applied_fits table pages changes rows stands = record {
  ascend = applied_ascends table changes rows stands.ascend;
  within = applied_within table pages changes rows stands.within;
}

size_fits : (rows : List Record) (pages table : ℕ) (changes : List Change) (size : Option TableSize)
    → IfSome size (KeepsSize rows pages table changes) → IfSome size (IsSizeOf (rows_with_changes table changes rows) (pages_after table changes pages))
size_fits rows pages table changes None keeps = tt
size_fits rows pages table changes (Some s) keeps = record {
  rows_told = keeps.rows_told;
  pages_told = keeps.pages_told;
  stands = applied_fits table pages changes rows keeps.stands;
}

pub table_fits : TableFits
table_fits rows pages table f keeps = record {
  ascend = keeps.ascend;
  sized = size_fits rows pages table f.changes (size_of table f.sizes) keeps.sized;
  other = keeps.other;
}
