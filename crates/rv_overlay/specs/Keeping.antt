-- How the lists of an index are kept up to date while a transaction changes rows.
use Rattle.std.specs.Prelude.{◌≡◌, ℕ, List, [], Bool, false, Option, Some, None, ◌==◌, if◌then◌else◌}
use Rattle.std.specs.Ordering.{is_eq}
use Rattle.rv_value.specs.declared.record.IndexEntry.{IndexEntry}
use Rattle.rv_value.specs.declared.record.Record.{Record}
use Rattle.rv_value.specs.Entries.{entry_cmp}
use Rattle.rv_rows.specs.declared.changes.Change.{Change}
use Rattle.rv_rows.specs.Changes.{with_change}
use Rattle.rv_rows.specs.Rising.{put_in}
use Rattle.rv_blocks.specs.Taking.{take_from}
use Rattle.rv_reader.specs.Entries.{comes_before, entry_at}
use Rattle.rv_reader.specs.Tables.{row_at}
use Rattle.rv_overlay.specs.declared.frozen.Part.{Part}
use Rattle.rv_overlay.specs.Rows.{change_of, changed_row}
use Rattle.rv_overlay.specs.Views.{Freezes}

-- both are there and equal
abbrev pub are_same : Option IndexEntry → Option IndexEntry → Bool
are_same None b = false
are_same (Some x) None = false
are_same (Some x) (Some y) = is_eq (entry_cmp x y)

-- with an entry in its place, and without it, where there is one
abbrev pub with_some : Option IndexEntry → List IndexEntry → List IndexEntry
with_some None entries = entries
with_some (Some e) entries = put_in comes_before e entries

abbrev pub without_some : Option IndexEntry → List IndexEntry → List IndexEntry
without_some None entries = entries
without_some (Some e) entries = take_from comes_before e entries

-- a row's entry at the base is taken, unless it is the row's new one
abbrev pub taken_after : Option IndexEntry → Option IndexEntry → List IndexEntry → List IndexEntry
taken_after base new taken =
    if are_same base new then without_some base taken else with_some base taken

-- a row's old entry is no longer added, and its new one is, unless it is that at the base
abbrev pub added_after : Option IndexEntry → Option IndexEntry → Option IndexEntry → List IndexEntry → List IndexEntry
added_after base old new added =
    if are_same base new then without_some old added else with_some new (without_some old added)

-- A ROW CHANGES: its entry at the base, the one before the change and the one after it, each none where there was no
-- row
abbrev pub moved : Option IndexEntry → Option IndexEntry → Option IndexEntry → Part → Part
moved base old new part = record part {
  taken = taken_after base new part.taken;
  added = added_after base old new part.added;
}

-- A further change of a table is kept up with: the lists are again what the changes take away and add. (On the side of
-- an index of another table nothing is done.)
abbrev pub KeepsUp : Type 0
KeepsUp = (columns : List ℕ) (c : Change) (changes : List Change) (rows : List Record) (part : Part)
    → Freezes columns c.table changes rows part.taken part.added
    → let base = row_at rows c.row.0 in
    let old = changed_row (change_of c.table c.row.0 changes) base in
    let new = changed_row (Some c) None in
    let next = moved (entry_at columns base) (entry_at columns old) (entry_at columns new) part in
    Freezes columns c.table (with_change c changes) rows next.taken next.added

abbrev pub OthersKeepUp : Type 0
OthersKeepUp = (columns : List ℕ) (table : ℕ) (c : Change) (changes : List Change) (rows : List Record)
    (taken added : List IndexEntry)
    → c.table == table ≡ false → Freezes columns table changes rows taken added
    → Freezes columns table (with_change c changes) rows taken added

-- without changes nothing is taken and nothing added
abbrev pub NothingKept : Type 0
NothingKept = (columns : List ℕ) (table : ℕ) (rows : List Record) → Freezes columns table [] rows [] []
