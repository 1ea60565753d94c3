-- What was frozen of an index and of a table fits the reader that it is laid over.
use Rattle.std.specs.Prelude.{◌≡◌, ℕ, ◌+◌, ◌<◌, ◌≤◌, ◌^◌, List, Bool, false, None, IfSome, length}
use Rattle.rv_value.specs.declared.record.Record.{Record}
use Rattle.rv_value.specs.declared.record.IndexEntry.{IndexEntry}
use Rattle.rv_rows.specs.declared.changes.Change.{Change}
use Rattle.rv_rows.specs.Changes.{rows_with_changes, touches}
use Rattle.rv_rows.specs.Rows as rows_by_number
use Rattle.rv_reader.specs.Entries.{Ascend, entries_of}
use Rattle.rv_reader.specs.Leaves.{leaf_from, leaf_entries}
use Rattle.rv_reader.specs.Shown.{IsIndex}
use Rattle.rv_reader.specs.Storing.{AreKeys, pages_after}
use Rattle.rv_reader.specs.Tables.{IsTable}
use Rattle.rv_overlay.specs.declared.frozen.Part.{Part}
use Rattle.rv_overlay.specs.declared.frozen.Frozen.{Frozen}
use Rattle.rv_overlay.specs.declared.frozen.TableSize.{TableSize}
use Rattle.rv_overlay.specs.Overlaid.{LaysIndex, LaysTable, size_of}
use Rattle.rv_overlay.specs.Views.{Freezes}

-- an index of a store at the base, and what is kept of it beside changes of its table
pub record KeepsIndex (columns : List ℕ) (table : ℕ) (changes : List Change) (rows : List Record)
    (cuts : List IndexEntry) (part : Part) : Type 0 where
  pub ascend : rows_by_number.Ascend rows
  pub index : IsIndex (entries_of columns rows) cuts
  pub cut_keys : AreKeys (length columns) cuts
  pub width : part.width ≡ length columns
  pub taken : Ascend part.taken
  pub added : Ascend part.added
  pub freezes : Freezes columns table changes rows part.taken part.added
  pub many : 0 < length part.added → length (entries_of columns rows) + length part.added < 2 ^ 64
  pub few : length cuts + length part.added ≤ 1099511627776
  pub short : (passes : IndexEntry → Bool)
      → length (leaf_entries (leaf_from passes None cuts) (entries_of columns rows)) ≤ 32

abbrev pub IndexFits : Type 0
IndexFits = (columns : List ℕ) (table : ℕ) (changes : List Change) (rows : List Record) (cuts : List IndexEntry)
    (part : Part)
    → KeepsIndex columns table changes rows cuts part → LaysIndex (entries_of columns rows) cuts part

-- a changed table of a reader at the base, and what is kept of its size beside changes
pub record KeepsSize (rows : List Record) (pages table : ℕ) (changes : List Change) (s : TableSize) : Type 0 where
  pub stands : IsTable rows pages
  pub rows_told : s.rows ≡ length (rows_with_changes table changes rows)
  pub pages_told : s.pages ≡ pages_after table changes pages
  pub few : s.pages < 4294967296

-- a table of a reader at the base, and what is kept of its size: nothing where it is not changed
pub record KeepsTable (rows : List Record) (pages table : ℕ) (f : Frozen) : Type 0 where
  pub ascend : rows_by_number.Ascend rows
  pub sized : IfSome (size_of table f.sizes) (KeepsSize rows pages table f.changes)
  pub other : size_of table f.sizes ≡ None → touches table f.changes ≡ false

abbrev pub TableFits : Type 0
TableFits = (rows : List Record) (pages table : ℕ) (f : Frozen) → KeepsTable rows pages table f
    → LaysTable rows pages table f
