-- A scan of an index that is the foreground: with fetches, or by the index alone where it has every column needed.
use Rattle.std.specs.Prelude.{◌≡◌, ◌⊎◌, ℕ, Bool, true, false, List, if◌then◌else◌}
use Rattle.rv_value.specs.declared.record.Record.{Record}
use Rattle.rv_value.specs.declared.record.IndexEntry.{IndexEntry}
use Rattle.rv_restrict.specs.declared.atom.Atom.{Atom}
use Rattle.rv_reader.specs.Shown.{Shown, CanRead, CanScan, Suits}
use Rattle.rv_scan.specs.Alongs.{Along, FetchReads, Fetching, fetch_rest, to_fetch}
use Rattle.rv_scan.specs.Due.{HaveColumns, Skipped}
use Rattle.rv_scan.specs.Told.{KeyReads, NamesThese, told_rest}
use Rattle.rv_scan.specs.Reads.{OneAtMost}
use Rattle.rv_reader.specs.declared.step.Step.{Step}
use Rattle.rv_judge.specs.declared.counting.Counts.{Counts}
use Rattle.rv_judge.specs.Counting.{leaf_read, record_read}

-- one of the two scans is used, by whether the index has every column needed; the index's columns
pub record Front : Type 0 where
  pub alone : Bool
  pub columns : List ℕ
  pub fetching : Fetching
  pub telling : Along

abbrev pub walk_of : Front → Along
walk_of f = if f.alone then f.telling else f.fetching.walk

-- the records that it will still give, in key order
abbrev pub front_rest : Front → List IndexEntry → List Record → List (List Atom) → Skipped → List Record
front_rest f entries rows only skip =
    if f.alone then told_rest f.telling entries f.columns only skip
    else fetch_rest f.fetching.walk entries rows only skip

-- the scan can be made: table and index are there, keys reach the range's bounds, rows have the columns named, and an
-- index that is scanned alone has them all
pub record CanFront (f : Front) (only : List (List Atom)) (table : ℕ) (shown : Shown) (snap : ℕ) : Type 0 where
  pub of_table : f.fetching.table ≡ table
  pub at_snap : (walk_of f).snap ≡ snap
  pub read : CanRead shown table snap
  pub scan : CanScan shown (walk_of f).index snap
  pub suits : Suits shown (walk_of f).index snap (walk_of f).range
  pub columns : HaveColumns only (shown.rows table snap)
  pub names : f.alone ≡ true → NamesThese f.columns only

-- the same scan at another place
pub record SameFront (old new : Front) : Type 0 where
  pub alone : new.alone ≡ old.alone
  pub columns : new.columns ≡ old.columns
  pub table : new.fetching.table ≡ old.fetching.table
  pub index : (walk_of new).index ≡ (walk_of old).index
  pub snap : (walk_of new).snap ≡ (walk_of old).snap
  pub range : (walk_of new).range ≡ (walk_of old).range

-- the records that it may still fetch, none where its index is scanned alone
abbrev pub front_fetches : Front → List IndexEntry → Skipped → ℕ
front_fetches f entries skip = if f.alone then 0 else to_fetch f.fetching.walk entries skip

-- it reads leaves alone where its index has every column needed, else leaves and records
abbrev pub FrontMayRead : Bool → Counts → Counts → Type 0
FrontMayRead true c d = OneAtMost leaf_read c d
FrontMayRead false c d = OneAtMost leaf_read c d ⊎ OneAtMost record_read c d

abbrev pub FrontReads : Bool → Step Record → Counts → Counts → Type 0
FrontReads true s c d = KeyReads s c d
FrontReads false s c d = FetchReads s c d
