-- How what is frozen is made of a transaction's changes, and brought up to date with each further one.
use Rattle.std.specs.Prelude.{◌≡◌, ℕ, ◌+◌, ◌-◌, ◌/◌, ◌<◌, ◌≤◌, ◌==◌, List, [], ◌∷◌, Bool, true, false, nat_lt}
use Rattle.std.specs.Prelude.{Option, Some, None, IfSome, is_some, filter, map, max, length, slice_get, if◌then◌else◌}
use Rattle.std.specs.List.{AllByRecursion}
use Rattle.std.specs.Ordering.{is_lt}
use Rattle.rv_value.specs.declared.record.Record.{Record}
use Rattle.rv_rows.specs.declared.changes.Change.{Change}
use Rattle.rv_rows.specs.Changes.{Rise, touches}
use Rattle.rv_rows.specs.Rising.{put_in}
use Rattle.rv_blocks.specs.Orders.{change_cmp}
use Rattle.rv_blocks.specs.Taking.{take_from}
use Rattle.rv_catalog.specs.declared.def.IndexDef.{IndexDef}
use Rattle.rv_reader.specs.Entries.{Ascend, entry_at}
use Rattle.rv_reader.specs.Shown.{Shown, CanRead, CanScan}
use Rattle.rv_reader.specs.Storing.{IsStored}
use Rattle.rv_overlay.specs.declared.frozen.Frozen.{Frozen}
use Rattle.rv_overlay.specs.declared.frozen.Part.{Part}
use Rattle.rv_overlay.specs.declared.frozen.TableSize.{TableSize}
use Rattle.rv_overlay.specs.Freezing.{KeepsSize}
use Rattle.rv_overlay.specs.Keeping.{moved}
use Rattle.rv_overlay.specs.Overlaid.{Lays, part_at, size_of}
use Rattle.rv_overlay.specs.Views.{Freezes}

-- WHICH ROWS ARE WRITTEN: the changes that give values, without these. The last one of a table tells how far its pages
-- reach, also after the highest row was deleted again.
abbrev pub bare : Change → Change
bare c = record c { values = None }

abbrev pub written_of : List Change → List Change
written_of changes = map bare (filter (λ (c : Change). is_some c.values) changes)

-- the changes of a table
abbrev pub of_table : ℕ → List Change → List Change
of_table table changes = filter (λ (c : Change). c.table == table) changes

-- the last change of a table, where there is one
abbrev pub last_of : ℕ → List Change → Option Change
last_of table changes = slice_get (of_table table changes) (length (of_table table changes) - 1)

-- so many pages, or those up to a row
abbrev pub pages_up : Option Change → ℕ → ℕ
pages_up None pages = pages
pages_up (Some c) pages = max pages (c.row.0 / 32 + 1)

-- the indexes of a schema are those of a reader, by number, and have one to four columns
pub record AreIndexes (shown : Shown) (indexes : List IndexDef) : Type 0 where
  pub count : shown.indexes ≡ length indexes
  pub over : (index : ℕ) (d : IndexDef) → slice_get indexes index ≡ Some d → shown.over index ≡ d.table
  pub keys : (index : ℕ) (d : IndexDef) → slice_get indexes index ≡ Some d → shown.keys index ≡ d.columns
  pub columns : AllByRecursion (λ (d : IndexDef). (1 ≤ length d.columns) × (length d.columns ≤ 4)) indexes

-- what is kept of an index beside changes, over the rows of its table at the base
pub record KeepsPart (columns : List ℕ) (table : ℕ) (changes : List Change) (rows : List Record) (part : Part)
    : Type 0 where
  pub width : part.width ≡ length columns
  pub taken : Ascend part.taken
  pub added : Ascend part.added
  pub freezes : Freezes columns table changes rows part.taken part.added

-- WHAT IS KEPT BESIDE A TRANSACTION'S CHANGES IS WHAT THEY MAKE, over the reader at the base. It holds whatever the
-- reader shows at other snapshots, so that a commit of another transaction leaves it.
pub record Keeps (shown : Shown) (f : Frozen) (written : List Change) : Type 0 where
  pub rise : Rise f.changes
  pub low : AllByRecursion (λ (c : Change). c.row.0 < 4294967296) f.changes
  pub told : written ≡ written_of f.changes
  pub parts : length f.parts ≡ shown.indexes
  pub each : (index : ℕ) → CanScan shown index f.base
      → KeepsPart (shown.keys index) (shown.over index) f.changes (shown.rows (shown.over index) f.base)
      (part_at f.parts index)
  pub sized : (table : ℕ) → CanRead shown table f.base
      → IfSome (size_of table f.sizes)
      (KeepsSize (shown.rows table f.base) (shown.pages table f.base) table f.changes)
  pub others : (table : ℕ) → size_of table f.sizes ≡ None → touches table f.changes ≡ false

-- nothing changed over a commit: of each index nothing is taken and nothing added
abbrev pub empty_part : IndexDef → Part
empty_part d = record { width = length d.columns; taken = []; added = [] }

abbrev pub empty_parts : List IndexDef → List Part
empty_parts indexes = map empty_part indexes

abbrev pub unchanged : ℕ → List IndexDef → Frozen
unchanged base indexes = record { base = base; changes = []; sizes = []; parts = empty_parts indexes }

-- a row changes: its record at the base, before the change and after it
abbrev pub part_after : IndexDef → ℕ → Option Record → Option Record → Option Record → Part → Part
part_after d table base old new part =
    if d.table == table then moved (entry_at d.columns base) (entry_at d.columns old) (entry_at d.columns new) part
    else part

abbrev pub parts_after : List IndexDef → ℕ → Option Record → Option Record → Option Record → List Part → List Part
parts_after [] table base old new parts = parts
parts_after (d ∷ ds) table base old new [] = []
parts_after (d ∷ ds) table base old new (p ∷ ps) =
    part_after d table base old new p ∷ parts_after ds table base old new ps

-- the place of a change among others, as lists in blocks have it
abbrev pub comes_first : Change → Change → Bool
comes_first a b = is_lt (change_cmp a b)

-- a change gives a row values or takes it away
abbrev pub written_after : Change → List Change → List Change
written_after c written =
    if is_some c.values then put_in comes_first (bare c) written else take_from comes_first c written

abbrev pub one_if : Option Record → ℕ
one_if None = 0
one_if (Some r) = 1

-- the rows of a table: those kept where it is changed, else the reader's
abbrev pub rows_or : ℕ → Option TableSize → ℕ
rows_or rows None = rows
rows_or rows (Some s) = s.rows

-- its pages, so too
abbrev pub pages_or : ℕ → Option TableSize → ℕ
pages_or pages None = pages
pages_or pages (Some s) = s.pages

abbrev pub by_table : TableSize → TableSize → Bool
by_table a b = nat_lt a.table b.table

-- the size of a table after a change of a row of it: the reader's rows and pages, what was kept, what is written then
abbrev pub size_after : ℕ → ℕ → ℕ → Option Record → Option Record → List Change → List TableSize → TableSize
size_after table rows pages old new written sizes = record {
  table = table;
  pages = pages_up (last_of table written) pages;
  rows = rows_or rows (size_of table sizes) + one_if new - one_if old;
}

-- THE LAW of a function that does nothing: what is kept beside a transaction's changes may be laid over the store that
-- they were made on, at the transaction's base
abbrev pub LaysKept : Type 0
LaysKept = (shown : Shown) (f : Frozen) (written : List Change)
    → IsStored shown → Keeps shown f written → Lays shown f
