-- Tests that hold of a front part of a list, by which a run of it is found.
use Rattle.std.specs.Prelude.{ℕ, ◌/◌, Bool, not, ◌&&◌, ◌||◌, ◌==◌, nat_lt, nat_le, Option}
use Rattle.rv_value.specs.declared.record.IndexEntry.{IndexEntry}
use Rattle.rv_value.specs.declared.range.Range.{Range}
use Rattle.rv_value.specs.Ranges.{place}
use Rattle.rv_rows.specs.declared.changes.Change.{Change}
use Rattle.rv_reader.specs.Leaves.{after_side, before_side, is_from}
use Rattle.rv_reader.specs.Leaves.{is_below}

-- before the entry from which on is read, where there is one, or before the range
abbrev pub is_early : Option IndexEntry → Range → IndexEntry → Bool
is_early start range e = not (is_from start e) || before_side (place range e.key)

-- before a cut, where there is one, and not after the range
abbrev pub is_until : Option IndexEntry → Range → IndexEntry → Bool
is_until next range e = is_below next e && not (after_side (place range e.key))

-- a change of a row before those of a page of a table
abbrev pub is_before_page : ℕ → ℕ → Change → Bool
is_before_page table page c = nat_lt c.table table || ((c.table == table) && nat_lt (c.row.0 / 32) page)

-- a change of a row before those of the next page
abbrev pub is_until_page : ℕ → ℕ → Change → Bool
is_until_page table page c = nat_lt c.table table || ((c.table == table) && nat_le (c.row.0 / 32) page)

-- a change of a row of a page of a table
abbrev pub is_on : ℕ → ℕ → Change → Bool
is_on table page c = (c.table == table) && (c.row.0 / 32 == page)
