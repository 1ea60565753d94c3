-- What a further change leaves is what is kept, from what each part of the work ensures.
use Rattle.std.proofs.Common.{◌≡◌, ℕ, ◌-◌, ◌<◌, ◌≤◌, ◌^◌, List, [], ◌∷◌, true, false, ◌==◌, cond, Option, Some, None, IfSome, refl, ap, sym, subst, ◌∙◌, length, arith}
use Rattle.std.specs.List.{AllByRecursion}
use Rattle.rv_value.specs.declared.record.Record.{Record}
use Rattle.rv_rows.specs.declared.changes.Change.{Change}
use Rattle.rv_rows.specs.Changes.{Rise, rows_with_changes, touches, with_change}
use Rattle.rv_rows.specs.Rising.{put_in}
use Rattle.rv_rows.proofs.Chains.{change_rises}
use Rattle.rv_catalog.specs.declared.def.IndexDef.{IndexDef}
use Rattle.rv_reader.specs.Shown.{Shown, CanRead}
use Rattle.rv_reader.specs.Storing.{pages_after}
use Rattle.rv_reader.specs.Tables.{IsTable, row_at}
use Rattle.rv_reader.proofs.Rows.{rows_few}
use Rattle.rv_overlay.specs.declared.frozen.Frozen.{Frozen}
use Rattle.rv_overlay.specs.declared.frozen.Part.{Part}
use Rattle.rv_overlay.specs.declared.frozen.TableSize.{TableSize}
use Rattle.rv_overlay.specs.Freezing.{KeepsSize}
use Rattle.rv_overlay.specs.Rows.{change_of, changed_row}
use Rattle.rv_overlay.proofs.Freezing.{applied_fits}
use Rattle.rv_overlay.proofs.Runs.{change_before, change_first}
use Rattle.rv_overlay.proofs.Tabling.{pages_untouched, row_applied}
use Rattle.rv_view.specs.Making.{AreIndexes, Keeps, by_table, last_of, one_if, pages_or, pages_up, parts_after, rows_or, size_after, written_after, written_of}
use Rattle.rv_view.proofs.Keeping.{all_put, rows_are, stays_kept}
use Rattle.rv_view.proofs.Rows.{pages_fit}
use Rattle.rv_view.proofs.Written.{last_low, pages_written, written_rise, written_with}

-- The counts fit.

one_at : (rows : List Record) (number : ℕ) → one_if (row_at rows number) ≤ length rows
one_at [] number = omega arith
one_at (r ∷ rows) number =
    let rest = one_at rows number in
    elim (r.row.0 == number) as (λ b. one_if (cond b (Some r) (row_at rows number)) ≤ length (r ∷ rows)) [ true ↦ omega arith | false ↦ omega (arith, rest) ]

pub record Ready (old : Option Record) (rows : ℕ) : Type 0 where
  pub less : one_if old ≤ rows
  pub few : rows < 2 ^ 64 - 1

pub rows_ready : (rows : List Record) (pages told : ℕ) (c : Change) (changes : List Change) (base old : Option Record) (size : Option TableSize) → IsTable rows pages → pages < 4294967296 → Rise changes
    → AllByRecursion (λ (d : Change). d.row.0 < 4294967296) changes → IfSome size (KeepsSize rows pages c.table changes) → (size ≡ None → touches c.table changes ≡ false)
    → told ≡ length rows → base ≡ row_at rows c.row.0 → old ≡ changed_row (change_of c.table c.row.0 changes) base → Ready old (rows_or told size)
rows_ready rows pages told c changes base old size stands small rise lows keeps other count base_is old_is =
    let view = rows_with_changes c.table changes rows in
    let same : rows_or told size ≡ length view = ap (λ n. rows_or n size) count ∙ rows_are rows pages c.table changes size keeps other in
    let its : old ≡ row_at view c.row.0 = old_is ∙ ap (changed_row (change_of c.table c.row.0 changes)) base_is ∙ sym (row_applied c.table c.row.0 changes rows rise) in
    let one = one_at view c.row.0 in
    let some = ap one_if its in
    let fit = pages_fit c.table changes pages small lows in
    let most = rows_few view (pages_after c.table changes pages) (applied_fits c.table pages changes rows stands) in
    record { less = omega (arith, same, one, some); few = omega (arith, same, fit, most) }

-- The written rows after the change.

pub next_rise : (c : Change) (changes written next : List Change) → Rise changes → written ≡ written_of changes → next ≡ written_after c written → Rise next
next_rise c changes written next rise told is =
    let whole : next ≡ written_of (with_change c changes) = is ∙ ap (written_after c) told ∙ sym (written_with c changes) in
    subst Rise (sym whole) (written_rise (with_change c changes) (change_rises c changes rise))

pub next_low : (c : Change) (changes written next : List Change) → AllByRecursion (λ (d : Change). d.row.0 < 4294967296) changes → c.row.0 < 4294967296 → written ≡ written_of changes → next ≡ written_after c written
    → IfSome (last_of c.table next) (λ d. d.row.0 < 4294967296)
next_low c changes written next lows low told is =
    let whole : next ≡ written_of (with_change c changes) = is ∙ ap (written_after c) told ∙ sym (written_with c changes) in
    subst (λ w. IfSome (last_of c.table w) (λ (d : Change). d.row.0 < 4294967296)) (sym whole) (last_low 4294967296 c.table (with_change c changes) (all_put (λ (d : Change). d.row.0 < 4294967296) c changes low lows))

-- How far the pages of the table are told to reach before the change.

pub pages_before : (rows : List Record) (pages told : ℕ) (c : Change) (changes written : List Change) (size : Option TableSize) → Rise changes → IfSome size (KeepsSize rows pages c.table changes) → (size ≡ None → touches c.table changes ≡ false)
    → told ≡ pages → written ≡ written_of changes → pages_or told size ≡ pages_up (last_of c.table written) told
pages_before rows pages told c changes written size rise keeps other is told_is =
    by size keeps other ∙ pages_written c.table changes told rise ∙ ap (λ w. pages_up (last_of c.table w) told) (sym told_is)
  where
    by : (s : Option TableSize) → IfSome s (KeepsSize rows pages c.table changes) → (s ≡ None → touches c.table changes ≡ false) → pages_or told s ≡ pages_after c.table changes told
    by None k o = sym (pages_untouched c.table changes told (o refl))
    by (Some s) k o = k.pages_told ∙ ap (pages_after c.table changes) (sym is)

-- All together.

pub kept_change : (shown : Shown) (indexes : List IndexDef) (c : Change) (f : Frozen) (written next : List Change) (base old new : Option Record) (told_rows told_pages : ℕ)
    (changes : List Change) (sizes : List TableSize) (parts : List Part)
    → AreIndexes shown indexes → CanRead shown c.table f.base → IsTable (shown.rows c.table f.base) (shown.pages c.table f.base) → told_pages < 4294967296 → c.row.0 < 4294967296 → Keeps shown f written
    → base ≡ row_at (shown.rows c.table f.base) c.row.0 → old ≡ changed_row (change_of c.table c.row.0 f.changes) base → new ≡ changed_row (Some c) None
    → told_rows ≡ length (shown.rows c.table f.base) → told_pages ≡ shown.pages c.table f.base
    → parts ≡ parts_after indexes c.table base old new f.parts → next ≡ written_after c written
    → sizes ≡ put_in by_table (size_after c.table told_rows told_pages old new next f.sizes) f.sizes → changes ≡ put_in change_before c f.changes
    → Keeps shown (record { base = f.base; changes = changes; sizes = sizes; parts = parts }) next
kept_change shown indexes c f written next base old new told_rows told_pages changes sizes parts are can stands small low keeps base_is old_is new_is rows_is pages_is parts_is next_is sizes_is changes_is =
    let rows = shown.rows c.table f.base in
    let pages = shown.pages c.table f.base in
    let old_too : old ≡ changed_row (change_of c.table c.row.0 f.changes) (row_at rows c.row.0) = old_is ∙ ap (changed_row (change_of c.table c.row.0 f.changes)) base_is in
    let changes_too : changes ≡ with_change c f.changes = changes_is ∙ ap (λ p. put_in p c f.changes) change_first in
    let parts_too : parts ≡ parts_after indexes c.table (row_at rows c.row.0) (changed_row (change_of c.table c.row.0 f.changes) (row_at rows c.row.0)) (changed_row (Some c) None) f.parts =
    parts_is ∙ (λ i. parts_after indexes c.table (base_is i) (old_too i) (new_is i) f.parts) in
    let sizes_too : sizes ≡ put_in by_table (size_after c.table (length rows) pages (changed_row (change_of c.table c.row.0 f.changes) (row_at rows c.row.0)) (changed_row (Some c) None) (written_after c written) f.sizes) f.sizes =
    sizes_is ∙ (λ i. put_in by_table (size_after c.table (rows_is i) (pages_is i) (old_too i) (new_is i) (next_is i) f.sizes) f.sizes) in
    let back_changes = sym changes_too in
    let back_sizes = sym sizes_too in
    let back_parts = sym parts_too in
    let fit : pages < 4294967296 = omega (arith, small, pages_is) in
    let on = stays_kept shown indexes c f written are can stands fit low keeps in
    subst (λ w. Keeps shown (record { base = f.base; changes = changes; sizes = sizes; parts = parts }) w) (sym next_is)
    (subst (λ (g : Frozen). Keeps shown g (written_after c written)) (λ i. record { base = f.base; changes = back_changes i; sizes = back_sizes i; parts = back_parts i }) on)
