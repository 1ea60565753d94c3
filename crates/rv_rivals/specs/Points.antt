-- The range of one key, and the lowest row that has it.
use Rattle.std.specs.Prelude.{◌≡◌, ℕ, List, Bool, false, true, ◌&&◌, Option, Some, filter, find, length, map}
use Rattle.std.specs.List.{list_any}
use Rattle.std.specs.Option.{option_map}
use Rattle.rv_value.specs.declared.value.Value.{Value}
use Rattle.rv_value.specs.declared.record.Record.{Record}
use Rattle.rv_value.specs.declared.record.RowNo.{RowNo}
use Rattle.rv_value.specs.declared.record.IndexEntry.{IndexEntry}
use Rattle.rv_value.specs.declared.range.Range.{Range}
use Rattle.rv_rows.specs.Rows.{Ascend}
use Rattle.rv_reader.specs.Entries.{entries_of, entry_of, is_in, run}
use Rattle.rv_model.specs.Rivals.{has_key}

-- the keys that are equal to one: both bounds closed
abbrev pub point : List Value → Range
point key =
    record {
      low = Some (record { key = key; closed = true });
      high = Some (record { key = key; closed = true });
      starts = false;
    }

-- whether one of some entries is in the range of a key
abbrev pub has_entry : List Value → List IndexEntry → Bool
has_entry key entries = list_any (is_in (point key)) entries

-- of entries the first whose row passes a test
abbrev pub first_row : (ℕ → Bool) → List IndexEntry → Option RowNo
first_row keeps entries = option_map (λ (e : IndexEntry). e.row) (find (λ (e : IndexEntry). keeps e.row.0) entries)

-- of rows the lowest that has a key and passes a test
abbrev pub lowest_with : List ℕ → List Value → (ℕ → Bool) → List Record → Option RowNo
lowest_with columns key keeps rows =
    option_map (λ (r : Record). r.row) (find (λ (r : Record). has_key columns key r && keeps r.row.0) rows)

-- LAW: the range of a key holds the entries of the rows that have it, in the order of the rows.
abbrev pub PointRuns : Type 0
PointRuns = (columns : List ℕ) (key : List Value) (rows : List Record) → Ascend rows → length key ≡ length columns
    → run (entries_of columns rows) (point key) ≡ map (entry_of columns) (filter (has_key columns key) rows)
