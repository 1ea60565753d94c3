-- What a scan of an index holds, and what it still has to look at.
use Rattle.std.specs.Prelude.{◌≡◌, ℕ, ◌+◌, ◌<◌, List, [], ◌++◌, Bool, true, false, not, ◌⊎◌, if◌then◌else◌, Option, Some, None, length, drop, filter, take}
use Rattle.std.specs.List.{filter_map, list_all, slice_index_or}
use Rattle.rv_value.specs.declared.record.Record.{Record}
use Rattle.rv_value.specs.declared.record.IndexEntry.{IndexEntry}
use Rattle.rv_value.specs.declared.range.Range.{Range}
use Rattle.rv_judge.specs.declared.counting.Counts.{Counts}
use Rattle.rv_judge.specs.Counting.{leaf_read, record_read}
use Rattle.rv_restrict.specs.declared.atom.Atom.{Atom}
use Rattle.rv_reader.specs.Entries.{run}
use Rattle.rv_reader.specs.Leaves.{run_from, leaves_from}
use Rattle.rv_reader.specs.Tables.{row_at}
use Rattle.rv_restrict.specs.Truth.{qualifies}
use Rattle.rv_value.specs.declared.record.RowNo.{RowNo}
use Rattle.rv_reader.specs.declared.step.Step.{Step}
use Rattle.rv_reader.specs.declared.step.Step.TheVariants.{Row, Working, End}
use Rattle.rv_scan.specs.declared.along.Ahead.{Ahead}
use Rattle.rv_scan.specs.declared.along.Ahead.TheVariants.{First, From, Nothing}
use Rattle.rv_scan.specs.Due.{Skipped, due, skips}

-- the index, the snapshot and the range, the leaf that is read next, and what is left of the leaf before it
pub record Along : Type 0 where
  pub index : ℕ
  pub snap : ℕ
  pub range : Range
  pub ahead : Ahead
  pub held : List IndexEntry

-- the entries of the range from the next leaf on
abbrev pub to_come : Ahead → List IndexEntry → Range → List IndexEntry
to_come First entries range = run_from entries range None
to_come (From cut) entries range = run_from entries range (Some cut)
to_come Nothing entries range = []

abbrev pub leaves_ahead : Ahead → List IndexEntry → ℕ
leaves_ahead First cuts = leaves_from cuts None
leaves_ahead (From cut) cuts = leaves_from cuts (Some cut)
leaves_ahead Nothing cuts = 0

abbrev pub ahead_of : Option IndexEntry → Ahead
ahead_of None = Nothing
ahead_of (Some cut) = From cut

-- the entries that it did not look at
abbrev pub left : Along → List IndexEntry → List IndexEntry
left along entries = along.held ++ to_come along.ahead entries along.range

-- what it holds was drawn from these entries: what it did not look at is an end of the run
abbrev pub Follows : Along → List IndexEntry → Type 0
Follows along entries = (k : ℕ) × (left along entries ≡ drop k (run entries along.range))

-- the work left
abbrev pub leaf_work : Along → List IndexEntry → List IndexEntry → ℕ
leaf_work along entries cuts = length (left along entries) + leaves_ahead along.ahead cuts

-- the rows of entries, in the order of the entries
abbrev pub fetched : List Record → List IndexEntry → List Record
fetched rows entries = filter_map (λ (e : IndexEntry). row_at rows e.row.0) entries

-- the rows that a scan with fetches will still give
abbrev pub fetch_rest : Along → List IndexEntry → List Record → List (List Atom) → Skipped → List Record
fetch_rest along entries rows only skip = due only skip (fetched rows (left along entries))

-- the next leaf is read, or there is none
pub record Moves (old new : Along) (entries cuts : List IndexEntry) : Type 0 where
  pub index : new.index ≡ old.index
  pub snap : new.snap ≡ old.snap
  pub range : new.range ≡ old.range
  pub parts : left new entries ≡ to_come old.ahead entries old.range
  pub nearer : leaves_ahead new.ahead cuts < leaves_ahead old.ahead cuts

-- a next leaf was read, or there was none
abbrev pub Leafs : Bool → Along → Along → List IndexEntry → List IndexEntry → Type 0
Leafs true old new entries cuts = Moves old new entries cuts
Leafs false old new entries cuts = (old.ahead ≡ Nothing) × (new ≡ old)

abbrev pub LeafReads : Bool → Counts → Counts → Type 0
LeafReads true old new = new ≡ leaf_read old
LeafReads false old new = new ≡ old

-- whether the row of an entry is not skipped
abbrev pub is_given : Skipped → IndexEntry → Bool
is_given skip e = not (skips skip e.row.0)

-- the place of the first entry whose row is not skipped, or all are
abbrev pub FindsGiven : Skipped → List IndexEntry → Option ℕ → Type 0
FindsGiven skip entries None = list_all (λ (e : IndexEntry). not (is_given skip e)) entries ≡ true
FindsGiven skip entries (Some at) =
    (at < length entries) × (list_all (λ (e : IndexEntry). not (is_given skip e)) (take at entries) ≡ true)

-- the table whose rows are fetched, and the walk along the index
pub record Fetching : Type 0 where
  pub table : ℕ
  pub walk : Along

pub record SamePlace (old new : Fetching) : Type 0 where
  pub table : new.table ≡ old.table
  pub index : new.walk.index ≡ old.walk.index
  pub snap : new.walk.snap ≡ old.walk.snap
  pub range : new.walk.range ≡ old.walk.range

-- a record that was fetched is given where it qualifies
abbrev pub looked : List (List Atom) → Option Record → Step Record
looked only None = Working
looked only (Some r) = if qualifies only r.values then Row r else Working

-- the first entry whose row is not skipped: how many stand before it, and its row
abbrev pub FindsEntry : Skipped → List IndexEntry → Option (ℕ × RowNo) → Type 0
FindsEntry skip entries None = FindsGiven skip entries None
FindsEntry skip entries (Some found) =
    FindsGiven skip entries (Some found.0)
    × ((d : IndexEntry) → (is_given skip (slice_index_or entries found.0 d) ≡ true)
    × (found.1 ≡ (slice_index_or entries found.0 d).row))

-- the next leaf is read, or there is none
abbrev pub Turned : Fetching → Fetching → List IndexEntry → List IndexEntry → Step Record → Type 0
Turned old new entries cuts (Row r) = ⊥
Turned old new entries cuts Working = (new.table ≡ old.table) × Moves old.walk new.walk entries cuts
Turned old new entries cuts End = (old.walk.ahead ≡ Nothing) × (new ≡ old)

-- a record or a leaf was read
abbrev pub TriedOne : Counts → Counts → Type 0
TriedOne old new = (new ≡ record_read old) ⊎ (new ≡ leaf_read old)

-- the reads of a step: a record where it gives a row, a record or a leaf where it works on, none where it ends
abbrev pub FetchReads : Step Record → Counts → Counts → Type 0
FetchReads (Row r) old new = new ≡ record_read old
FetchReads Working old new = TriedOne old new
FetchReads End old new = new ≡ old

-- the record of a row that is not skipped was read, and it is the answer where it qualifies
pub record FetchesRow (skip : Skipped) (only : List (List Atom)) (rows : List Record) (scanned : Step Record)
    (old new : Counts) : Type 0 where
  pub row : ℕ
  pub unskipped : skips skip row ≡ false
  pub read : new ≡ record_read old
  pub looks : scanned ≡ looked only (row_at rows row)

-- no other record is read
abbrev pub FetchesDue : Skipped → List (List Atom) → List Record → Step Record → Counts → Counts → Type 0
FetchesDue skip only rows scanned old new = FetchesRow skip only rows scanned old new ⊎ (new.records ≡ old.records)

-- how many records a scan with fetches may still fetch: one for each entry that it did not look at and whose row is not
-- skipped
abbrev pub to_fetch : Along → List IndexEntry → Skipped → ℕ
to_fetch along entries skip = length (filter (is_given skip) (left along entries))
