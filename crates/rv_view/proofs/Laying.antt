-- What is kept beside changes fits the store that they were made on.
use Rattle.std.proofs.Common.{◌≡◌, ℕ, ◌+◌, ◌<◌, ◌≤◌, ◌^◌, List, [], ◌∷◌, Bool, true, false, not, ◌&&◌, ◌||◌, ◌==◌, Option, Some, None, IfSome, inl, inr, refl, ap, sym, subst, ◌∙◌, filter, length, arith}
use Rattle.std.proofs.lemmas.Bool.{cases_Bool}
use Rattle.std.proofs.lemmas.Bool.Decides.{nat_tests}
use Rattle.rv_reader.proofs.Rows.{applied_ascends, rows_few}
use Rattle.rv_value.proofs.Lists.{filter_length}
use Rattle.rv_value.specs.declared.record.Record.{Record}
use Rattle.rv_value.specs.declared.record.IndexEntry.{IndexEntry}
use Rattle.rv_rows.specs.declared.changes.Change.{Change}
use Rattle.rv_rows.specs.Changes.{Rise, is_of, rows_with_changes, touches}
use Rattle.rv_rows.specs.Rows as rows_by_number
use Rattle.rv_rows.proofs.Puts.{rising_filter}
use Rattle.rv_reader.specs.Entries.{Ascend, comes_before, entries_of}
use Rattle.rv_reader.specs.Shown.{CanRead}
use Rattle.rv_reader.specs.Storing.{pages_after}
use Rattle.rv_reader.specs.Leaves.{leaf_entries, leaf_from}
use Rattle.rv_reader.specs.Tables.{row_at}
use Rattle.rv_reader.proofs.Sorting.{entries_ascend, entries_count}
use Rattle.rv_overlay.specs.declared.frozen.Part.{Part}
use Rattle.rv_overlay.specs.declared.frozen.TableSize.{TableSize}
use Rattle.rv_overlay.specs.Freezing.{KeepsSize}
use Rattle.rv_overlay.specs.Laying.{has, laid}
use Rattle.rv_overlay.specs.Overlaid.{LaysIndex, part_at, size_of}
use Rattle.rv_overlay.specs.Rows.{change_of}
use Rattle.rv_overlay.specs.Views.{adds}
use Rattle.rv_overlay.proofs.Freezing.{applied_fits, index_fits, table_fits}
use Rattle.rv_overlay.proofs.Members.{has_filter, has_self, laid_has, members_tell}
use Rattle.rv_overlay.proofs.Viewing.{view_is}
use Rattle.rv_view.specs.Making.{KeepsPart, LaysKept}
use Rattle.rv_view.proofs.Rows.{pages_more}

-- Of an index at most as many entries are added as the view has rows.

first_or : (a b : Bool) → a ≡ (a && (a || b))
first_or true b = refl
first_or false b = refl

added_few : (columns : List ℕ) (table : ℕ) (changes : List Change) (rows : List Record) (part : Part) → rows_by_number.Ascend rows → Rise changes
    → KeepsPart columns table changes rows part → length part.added ≤ length (rows_with_changes table changes rows)
added_few columns table changes rows part ascend rise keeps =
    let entries = entries_of columns rows in
    let view = laid part.taken part.added entries in
    let is = view_is columns table changes rows part.taken part.added ascend rise keeps.freezes in
    let ascends : Ascend view = subst Ascend (sym is) (entries_ascend columns (rows_with_changes table changes rows) (applied_ascends table changes rows ascend)) in
    let own = members_tell part.added (filter (has part.added) view) keeps.added (rising_filter comes_before (has part.added) view ascends)
    (λ e. first_or (has part.added e) (has entries e && not (has part.taken e)) ∙ ap (λ b. has part.added e && b) (sym (laid_has part.taken part.added entries e)) ∙ sym (has_filter (has part.added) view e)) in
    let less = filter_length (has part.added) view in
    let same = ap length own in
    let count = ap length is ∙ entries_count columns (rows_with_changes table changes rows) in
    omega (arith, less, same, count)

-- Where the table of an index is not changed, nothing is added.

none_of : (table row : ℕ) (changes : List Change) → touches table changes ≡ false → change_of table row changes ≡ None
none_of table row [] none = refl
none_of table row (c ∷ cs) none = elim (cases_Bool (c.table == table)) [
  | inl t ↦ (let no = rw t at none in cc)
  | inr f ↦ (let rest = rw f at none in let its : is_of table row c ≡ false = grind (arith, nat_tests) in rw its (none_of table row cs rest))
]

empty : (xs : List IndexEntry) → ((e : IndexEntry) → has xs e ≡ false) → length xs ≡ 0
empty xs none = ap length (members_tell_none xs none)
  where
    members_tell_none : (ys : List IndexEntry) → ((e : IndexEntry) → has ys e ≡ false) → ys ≡ []
    members_tell_none [] h = refl
    members_tell_none (y ∷ ys) h = let no : true ≡ false = sym (has_self y ys) ∙ h y in cc

pub none_added : (columns : List ℕ) (table : ℕ) (changes : List Change) (rows : List Record) (part : Part) → KeepsPart columns table changes rows part → touches table changes ≡ false → length part.added ≡ 0
none_added columns table changes rows part keeps none = empty part.added (λ e. keeps.freezes.come e ∙ adding e (change_of table e.row.0 changes) (none_of table e.row.0 changes none))
  where
    adding : (e : IndexEntry) (found : Option Change) → found ≡ None → adds columns found (row_at rows e.row.0) e ≡ false
    adding e found is = rw is refl

-- How many entries an index has, and how many are added, where its table is changed and where it is not.

record Few (entries added : ℕ) : Type 0 where
  pub many : 0 < added → entries + added < 2 ^ 64
  pub few : added ≤ 274877906944

few_here : (columns : List ℕ) (table pages : ℕ) (changes : List Change) (rows : List Record) (part : Part) (size : Option TableSize) → rows_by_number.Ascend rows → Rise changes
    → KeepsPart columns table changes rows part → IfSome size (KeepsSize rows pages table changes) → (size ≡ None → touches table changes ≡ false)
    → Few (length (entries_of columns rows)) (length part.added)
few_here columns table pages changes rows part None ascend rise part_keeps size_keeps other =
    let none = none_added columns table changes rows part part_keeps (other refl) in
    record { many = λ some. omega (arith, none, some); few = omega (arith, none) }
few_here columns table pages changes rows part (Some s) ascend rise part_keeps size_keeps other =
    let added = added_few columns table changes rows part ascend rise part_keeps in
    let view = rows_few (rows_with_changes table changes rows) (pages_after table changes pages) (applied_fits table pages changes rows size_keeps.stands) in
    let base = rows_few rows pages size_keeps.stands in
    let count = entries_count columns rows in
    let told = size_keeps.pages_told in
    let up = pages_more table changes pages in
    let small = size_keeps.few in
    record {
      many = λ some. omega (arith, added, view, base, count, told, up, small);
      few = omega (arith, added, view, told, small);
    }

pub lays_kept : LaysKept
lays_kept shown f written stored keeps = record {
  rise = keeps.rise;
  tables = λ table there. table_fits (shown.rows table f.base) (shown.pages table f.base) table f (record {
    ascend = stored.ascend table f.base there;
    sized = keeps.sized table there;
    other = keeps.others table;
  });
  parts = keeps.parts;
  each = λ index there.
      let kept = stored.kept index f.base there in
      let over = stored.over index there.there in
      let table = shown.over index in
      let can : CanRead shown table f.base = record { there = over.table; snapshot = there.snapshot } in
      let rows = shown.rows table f.base in
      let part = part_at f.parts index in
      let ascend = stored.ascend table f.base can in
      let few = few_here (shown.keys index) table (shown.pages table f.base) f.changes rows part (size_of table f.sizes) ascend keeps.rise (keeps.each index there) (keeps.sized table can) (keeps.others table) in
      let own = keeps.each index there in
      let cuts = kept.few in
      let added = few.few in
      subst (λ entries. LaysIndex entries (shown.cuts index f.base) part) (sym kept.entries)
      (index_fits (shown.keys index) table f.changes rows (shown.cuts index f.base) part (record {
        ascend = ascend;
        index = record { ascend = entries_ascend (shown.keys index) rows ascend; apart = kept.apart; few = omega (arith, cuts) };
        cut_keys = kept.cuts;
        width = own.width;
        taken = own.taken;
        added = own.added;
        freezes = own.freezes;
        many = few.many;
        few = omega (arith, cuts, added);
        short = λ passes. subst (λ entries. length (leaf_entries (leaf_from passes None (shown.cuts index f.base)) entries) ≤ 32) kept.entries (kept.short passes);
      }));
}
