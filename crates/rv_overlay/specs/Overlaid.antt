-- What a reader shows under the changes of a transaction.
use Rattle.std.specs.Prelude.{◌≡◌, ℕ, ◌+◌, ◌-◌, ◌*◌, ◌==◌, ◌≤◌, ◌<◌, ◌&&◌, List, [], ◌∷◌, Bool, true, false, not}
use Rattle.std.specs.Prelude.{Option, Some, None, IfSome, nat_eq, nat_le, find, min, length, if◌then◌else◌, ◌^◌}
use Rattle.std.specs.List.{slice_index_or, list_all, AllByRecursion-prop}
use Rattle.std.specs.Coded.{×_prop, Π_prop, →_prop, Unit-prop, le_prop, Coded-set, coded_ℕ, coded_bool}
use Rattle.rv_value.specs.declared.record.IndexEntry.{IndexEntry}
use Rattle.rv_value.specs.declared.record.Record.{Record}
use Rattle.rv_rows.specs.declared.changes.Change.{Change}
use Rattle.rv_rows.specs.Changes.{Rise, rows_with_changes, touches}
use Rattle.rv_rows.specs.Rows as rows_by_number
use Rattle.rv_reader.specs.Tables.{IsTable}
use Rattle.rv_overlay.specs.declared.frozen.TableSize.{TableSize}
use Rattle.rv_value.specs.declared.range.Bound.{Bound}
use Rattle.rv_value.specs.declared.range.Range.{Range}
use Rattle.rv_reader.specs.declared.reader.Estimate.{Estimate}
use Rattle.rv_reader.specs.Entries.{Ascend, run}
use Rattle.rv_reader.specs.Leaves.{leaf_from, leaf_entries}
use Rattle.rv_reader.specs.Shown.{Shown, CanRead, CanScan, IsIndex}
use Rattle.rv_reader.specs.Storing.{AreKeys, pages_after}
use Rattle.rv_overlay.specs.declared.frozen.Part.{Part}
use Rattle.rv_overlay.specs.declared.frozen.Frozen.{Frozen}
use Rattle.rv_overlay.specs.Laying.{laid, with_all, sixteenths, has}

abbrev pub no_part : Part
no_part = record { width = 0; taken = []; added = [] }

abbrev pub part_at : List Part → ℕ → Part
part_at parts index = slice_index_or parts index no_part

-- a bound has at most so many values
abbrev pub is_short : ℕ → Option Bound → Bool
is_short width None = true
is_short width (Some bound) = nat_le (length bound.key) width

-- keys of so many values have at least as many as each bound of a range
abbrev pub fits : ℕ → Range → Bool
fits width range = is_short width range.low && is_short width range.high

-- an exact count is that less the taken and plus the added, another one that plus the added, held at the greatest u64
abbrev pub counted : Part → Range → Estimate → Estimate
counted part range e =
    if e.exact then record {
      value = e.value - length (run part.taken range) + length (run part.added range);
      exact = true;
    }
    else record { value = min (e.value + length (run part.added range)) (2 ^ 64 - 1); exact = false }

-- no key reaches a bound that is longer than the keys, so that there is no entry
abbrev pub estimated : Part → Range → Estimate → Estimate
estimated part range e =
    if fits part.width range then counted part range e else record { value = 0; exact = true }

-- what is kept of how large a table is, where it is changed
abbrev pub size_of : ℕ → List TableSize → Option TableSize
size_of table sizes = find (λ (s : TableSize). s.table == table) sizes

-- WHAT IS SHOWN: the view's lists at the base, the reader's at every other snapshot
abbrev pub overlaid : Shown → Frozen → Shown
overlaid shown f = record shown {
  rows = λ t s. if nat_eq s f.base then rows_with_changes t f.changes (shown.rows t s) else shown.rows t s;
  pages = λ t s. if nat_eq s f.base then pages_after t f.changes (shown.pages t s) else shown.pages t s;
  entries = λ i s.
      if nat_eq s f.base then laid (part_at f.parts i).taken (part_at f.parts i).added (shown.entries i s)
      else shown.entries i s;
  cuts = λ i s.
      if nat_eq s f.base then with_all (sixteenths (part_at f.parts i).added) (shown.cuts i s) else shown.cuts i s;
  estimates = λ i s range.
      if nat_eq s f.base then estimated (part_at f.parts i) range (shown.estimates i s range)
      else shown.estimates i s range;
}

-- what was frozen of an index fits the entries and the cuts that a reader tells
pub record LaysIndex (entries cuts : List IndexEntry) (part : Part) : Type 0 where
  pub index : IsIndex entries cuts
  pub keys : AreKeys part.width entries
  pub cut_keys : AreKeys part.width cuts
  pub added : Ascend part.added
  pub added_keys : AreKeys part.width part.added
  pub taken : Ascend part.taken
  pub taken_there : list_all (has entries) part.taken ≡ true
  pub apart : list_all (λ (e : IndexEntry). not (has entries e)) part.added ≡ true
  pub many : 0 < length part.added → length entries + length part.added < 2 ^ 64
  pub few : length cuts + length part.added ≤ 1099511627776
  pub short : (passes : IndexEntry → Bool) → length (leaf_entries (leaf_from passes None cuts) entries) ≤ 32

-- the size is that of a table with these rows in so many pages
pub record IsSizeOf (rows : List Record) (pages : ℕ) (s : TableSize) : Type 0 where
  pub rows_told : s.rows ≡ length rows
  pub pages_told : s.pages ≡ pages
  pub stands : IsTable rows pages

-- what was frozen of a table fits the rows and the number of pages that a reader tells: where a size is kept it is the
-- view's, and a table without a kept size is not changed
pub record LaysTable (rows : List Record) (pages table : ℕ) (f : Frozen) : Type 0 where
  pub ascend : rows_by_number.Ascend rows
  pub sized : IfSome (size_of table f.sizes)
      (IsSizeOf (rows_with_changes table f.changes rows) (pages_after table f.changes pages))
  pub other : size_of table f.sizes ≡ None → touches table f.changes ≡ false

-- what was frozen fits the reader at the base
pub record Lays (shown : Shown) (f : Frozen) : Type 0 where
  pub rise : Rise f.changes
  pub tables : (table : ℕ) → CanRead shown table f.base
      → LaysTable (shown.rows table f.base) (shown.pages table f.base) table f
  pub parts : length f.parts ≡ shown.indexes
  pub each : (index : ℕ) → CanScan shown index f.base
      → LaysIndex (shown.entries index f.base) (shown.cuts index f.base) (part_at f.parts index)

-- Each of these facts holds in one way, so that a struct may keep it.

ascend-prop : (es : List IndexEntry) → IsProp (Ascend es)
ascend-prop [] = Unit-prop
ascend-prop (e ∷ es) = ×_prop (Coded-set coded_bool _ _) (ascend-prop es)

keys-prop : (n : ℕ) (es : List IndexEntry) → IsProp (AreKeys n es)
keys-prop n es = AllByRecursion-prop (λ (e : IndexEntry). length e.key ≡ n) (λ e. Coded-set coded_ℕ _ _) es

index-prop : (entries cuts : List IndexEntry) → IsProp (IsIndex entries cuts)
index-prop entries cuts a b = λ i. record {
  ascend = ascend-prop entries a.ascend b.ascend i;
  apart = ascend-prop cuts a.apart b.apart i;
  few = le_prop a.few b.few i;
}

lays_index-prop : (entries cuts : List IndexEntry) (part : Part) → IsProp (LaysIndex entries cuts part)
lays_index-prop entries cuts part a b = λ i. record {
  index = index-prop entries cuts a.index b.index i;
  keys = keys-prop part.width entries a.keys b.keys i;
  cut_keys = keys-prop part.width cuts a.cut_keys b.cut_keys i;
  added = ascend-prop part.added a.added b.added i;
  added_keys = keys-prop part.width part.added a.added_keys b.added_keys i;
  taken = ascend-prop part.taken a.taken b.taken i;
  taken_there = Coded-set coded_bool _ _ a.taken_there b.taken_there i;
  apart = Coded-set coded_bool _ _ a.apart b.apart i;
  many = →_prop le_prop a.many b.many i;
  few = le_prop a.few b.few i;
  short = Π_prop (λ passes. le_prop) a.short b.short i;
}

rows-prop : (rows : List Record) → IsProp (rows_by_number.Ascend rows)
rows-prop [] = Unit-prop
rows-prop (r ∷ rows) = ×_prop (Coded-set coded_bool _ _) (rows-prop rows)

rise-prop : (changes : List Change) → IsProp (Rise changes)
rise-prop [] = Unit-prop
rise-prop (c ∷ changes) = ×_prop (Coded-set coded_bool _ _) (rise-prop changes)

table-prop : (rows : List Record) (pages : ℕ) → IsProp (IsTable rows pages)
table-prop rows pages a b = λ i. record {
  ascend = rows-prop rows a.ascend b.ascend i;
  within = AllByRecursion-prop (λ (r : Record). r.row.0 < 32 * pages) (λ r. le_prop) rows a.within b.within i;
}

size-prop : (rows : List Record) (pages : ℕ) (s : TableSize) → IsProp (IsSizeOf rows pages s)
size-prop rows pages s a b = λ i. record {
  rows_told = Coded-set coded_ℕ s.rows (length rows) a.rows_told b.rows_told i;
  pages_told = Coded-set coded_ℕ s.pages pages a.pages_told b.pages_told i;
  stands = table-prop rows pages a.stands b.stands i;
}

sized-prop : (rows : List Record) (pages : ℕ) (size : Option TableSize) → IsProp (IfSome size (IsSizeOf rows pages))
sized-prop rows pages None = Unit-prop
sized-prop rows pages (Some s) = size-prop rows pages s

lays_table-prop : (rows : List Record) (pages table : ℕ) (f : Frozen) → IsProp (LaysTable rows pages table f)
lays_table-prop rows pages table f a b = λ i. record {
  ascend = rows-prop rows a.ascend b.ascend i;
  sized =
      sized-prop (rows_with_changes table f.changes rows) (pages_after table f.changes pages) (size_of table f.sizes)
      a.sized b.sized i;
  other = →_prop (Coded-set coded_bool (touches table f.changes) false) a.other b.other i;
}

pub lays-prop : (shown : Shown) (f : Frozen) → IsProp (Lays shown f)
lays-prop shown f a b = λ i. record {
  rise = rise-prop f.changes a.rise b.rise i;
  tables = Π_prop (λ table. →_prop (lays_table-prop (shown.rows table f.base) (shown.pages table f.base) table f))
      a.tables b.tables i;
  parts = Coded-set coded_ℕ (length f.parts) shown.indexes a.parts b.parts i;
  each = Π_prop
      (λ index. →_prop (lays_index-prop (shown.entries index f.base) (shown.cuts index f.base) (part_at f.parts index)))
      a.each b.each i;
}
