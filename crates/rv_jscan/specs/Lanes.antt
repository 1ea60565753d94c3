-- Where one scan of an index stands, what its calls do, and what it means over a reader's entries.
use Rattle.std.specs.Prelude.{◌≡◌, ℕ, ◌≤◌, Bool, false, List, [], ◌++◌, length, filter, Option, None, is_some, IfSome, if◌then◌else◌}
use Rattle.rv_value.specs.declared.record.IndexEntry.{IndexEntry}
use Rattle.rv_judge.specs.declared.counting.Counts.{Counts}
use Rattle.rv_judge.specs.Counting.{leaf_read}
use Rattle.rv_keylist.specs.Marks.{may_key}
use Rattle.rv_keylist.specs.Listed.{Listed}
use Rattle.rv_reader.specs.declared.reader.Chunk.{Chunk}
use Rattle.rv_reader.specs.Leaves.{IsChunk, run_from}
use Rattle.rv_reader.specs.Shown.{Shown}
use Rattle.rv_reader.specs.Storing.{AreKeys}
use Rattle.rv_jscan.specs.declared.piece.PieceId.{PieceId}
use Rattle.rv_jscan.specs.declared.jscan.ScanPlan.{ScanPlan}
use Rattle.rv_jscan.specs.Entries.{Apart, Disjoint}
use Rattle.rv_jscan.specs.Pieces.{Pieced, kept_by}
use Rattle.rv_jscan.specs.Joint.{Joint}
use Rattle.rv_jscan.specs.Steps.{HasEntries, held_next}

-- `place` is the cut at which the awaited leaf begins, None for the first leaf of the scan's range, and `held` that
-- leaf with the cut that follows, once it was taken. `building` has the rows kept so far, in the order of the entries.
pub record Laned : Type 0 where
  pub place : Option IndexEntry
  pub held : Option Chunk
  pub building : List ℕ

-- nothing was read
abbrev pub no_lane : Laned
no_lane = record { place = None; held = None; building = [] }

-- what holds of the parts alone
pub record IsLane (held : Option Chunk) (building : Listed) : Type 0 where
  pub building_open : building.finished ≡ false
  pub short : IfSome held (λ h. length h.entries ≤ 48)
  pub apart : IfSome held (λ h. Apart h.entries)
  pub fresh : IfSome held (λ h. Disjoint building.keys h.entries)

-- the keys of a leaf have one value for each column of the part
abbrev pub HasKeys : ScanPlan → Chunk → Type 0
HasKeys plan chunk = AreKeys (length plan.part.columns) chunk.entries

-- the chunk is the leaf at a place of a scan
abbrev pub IsLeafAt : ScanPlan → Shown → ℕ → Option IndexEntry → Chunk → Type 0
IsLeafAt plan shown snap place chunk =
    IsChunk (shown.entries plan.index snap) (shown.cuts plan.index snap) plan.range place chunk

-- What it holds was drawn from the entries that a reader shows: no row of the list being built is sieved again, and the
-- leaf held is the awaited one.
pub record LaneFits (plan : ScanPlan) (shown : Shown) (snap : ℕ) (l : Laned) : Type 0 where
  pub apart : Apart (shown.entries plan.index snap)
  pub fresh : Disjoint l.building (run_from (shown.entries plan.index snap) plan.range l.place)
  pub drawn : IfSome l.held (IsLeafAt plan shown snap l.place)

-- a take reads the leaf where it is not held
abbrev pub leaf_once : Laned → Counts → Counts
leaf_once l c = if is_some l.held then c else leaf_read c

-- the piece is the leaf that is held, under a name and with the plan's part
pub record IsOwn (plan : ScanPlan) (id : PieceId) (l : Laned) (piece : Pieced) : Type 0 where
  pub named : piece.id ≡ id
  pub part : piece.part ≡ plan.part
  pub entries : HasEntries l.held piece.entries

-- after a piece of the leaf that was held: its rows are added that a test admits, and the scan goes on to the next cut
abbrev pub passed : (ℕ → Bool) → Pieced → Laned → Laned
passed admits piece l = record {
  place = held_next l.held;
  held = None;
  building = l.building ++ kept_by admits piece.part piece.entries;
}

-- of the rows kept only those stay that a list may have
abbrev pub narrowed_lane : List ℕ → Laned → Laned
narrowed_lane keys l = record l { building = filter (λ (k : ℕ). may_key k keys) l.building }

-- the present scan of a joint scan
abbrev pub lane_of : Joint → Laned
lane_of j = record { place = j.place; held = j.held; building = j.building }
