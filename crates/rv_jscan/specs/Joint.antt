-- A joint scan as contracts see it, and what its lists mean over a reader's entries.
use Rattle.std.specs.Prelude.{◌≡◌, ℕ, ◌+◌, ◌<◌, ◌≤◌, Bool, true, false, not, ◌&&◌, ◌||◌, List, [], ◌∷◌, length, filter, drop, nat_lt, nat_eq, Option, Some, None, IfSome}
use Rattle.std.specs.List.{slice_index_or}
use Rattle.rv_value.specs.declared.record.IndexEntry.{IndexEntry}
use Rattle.rv_keylist.specs.Keys.{has_key}
use Rattle.rv_keylist.specs.Listed.{Listed}
use Rattle.rv_restrict.specs.Parts.{Parted, passes}
use Rattle.rv_reader.specs.declared.reader.Chunk.{Chunk}
use Rattle.rv_reader.specs.Entries.{run}
use Rattle.rv_reader.specs.Leaves.{IsChunk, run_from, leaves_from}
use Rattle.rv_reader.specs.Shown.{Shown, CanScan, Suits}
use Rattle.rv_reader.specs.Storing.{AreKeys}
use Rattle.rv_jscan.specs.declared.jscan.ScanPlan.{ScanPlan}
use Rattle.rv_jscan.specs.declared.jscan.ScanCounts.{ScanCounts}
use Rattle.rv_jscan.specs.Entries.{has_entry, Apart, Disjoint}

-- What a joint scan holds. The planned scans never change; beside each stands what it did. `ended` scans are completed
-- or abandoned, so it is the position of the present one. `place` is the cut at which the awaited leaf begins, None
-- for the first leaf of the scan's range, and `held` is that leaf with the cut that follows, once it was taken.
-- `building` has the rows kept of the present scan so far, in the order of its entries, and `list` those of the last
-- complete list, ascending.
pub record Joint : Type 0 where
  pub table : ℕ
  pub snap : ℕ
  pub cursor : ℕ
  pub opening : ℕ
  pub plans : List ScanPlan
  pub counts : List ScanCounts
  pub ended : ℕ
  pub number : ℕ
  pub place : Option IndexEntry
  pub held : Option Chunk
  pub building : List ℕ
  pub list : Option (List ℕ)

abbrev pub keys_of : Option Listed → Option (List ℕ)
keys_of None = None
keys_of (Some l) = Some l.keys

abbrev pub no_plan : ScanPlan
no_plan = record {
  index = 0;
  range = record { low = None; high = None; starts = false };
  part = record { columns = []; groups = [] };
  estimate = 0;
}

abbrev pub no_counts : ScanCounts
no_counts = record { scanned = 0; kept = 0; leaves = 0; listed = false }

abbrev pub plan_at : List ScanPlan → ℕ → ScanPlan
plan_at plans i = slice_index_or plans i no_plan

abbrev pub counts_at : List ScanCounts → ℕ → ScanCounts
counts_at counts i = slice_index_or counts i no_counts

abbrev pub is_empty_list : Option (List ℕ) → Bool
is_empty_list None = false
is_empty_list (Some keys) = nat_eq (length keys) 0

-- whether a scan is under way: some planned scan has not ended, and the complete list, if any, has a key
abbrev pub under_way : Joint → Bool
under_way j = nat_lt j.ended (length j.plans) && not (is_empty_list j.list)

-- the present scan
abbrev pub present : Joint → ScanPlan
present j = plan_at j.plans j.ended

-- the entries whose keys a part passes
abbrev pub passing : Parted → List IndexEntry → List IndexEntry
passing part entries = filter (λ (e : IndexEntry). passes part e.key) entries

-- whether a row has an entry in the scan's range whose key the scan's part passes
abbrev pub meets : ScanPlan → Shown → ℕ → ℕ → Bool
meets plan shown snap n = has_entry n (passing plan.part (run (shown.entries plan.index snap) plan.range))

-- a row has such an entry in the index of each scan that completed so far
abbrev pub InCompleted : Joint → Shown → ℕ → Type 0
InCompleted j shown n =
    (i : ℕ) → i < j.ended → (counts_at j.counts i).listed ≡ true → meets (plan_at j.plans i) shown j.snap n ≡ true

-- the keys have every such row
abbrev pub Covers : Joint → Shown → List ℕ → Type 0
Covers j shown keys = (n : ℕ) → InCompleted j shown n → has_key n keys ≡ true

-- the entries that the present scan has still to sieve
abbrev pub to_sieve : Joint → Shown → List IndexEntry
to_sieve j shown = run_from (shown.entries (present j).index j.snap) (present j).range j.place

-- the chunk is the leaf at the place of the present scan
abbrev pub IsNextLeaf : Joint → Shown → Chunk → Type 0
IsNextLeaf j shown chunk =
    IsChunk (shown.entries (present j).index j.snap) (shown.cuts (present j).index j.snap)
    (present j).range j.place chunk

-- What it holds was drawn from the entries that a reader shows: the complete list covers, each row that the list being
-- built has to have is in it or still to be sieved, no row of it is sieved again, and the leaf held is the awaited one.
pub record JointFits (j : Joint) (shown : Shown) : Type 0 where
  pub room : length j.plans ≤ length j.counts
  pub within : j.ended ≤ length j.plans
  pub apart : (i : ℕ) → i < length j.plans → Apart (shown.entries (plan_at j.plans i).index j.snap)
  pub covers : IfSome j.list (Covers j shown)
  pub builds : (n : ℕ) → InCompleted j shown n → meets (present j) shown j.snap n ≡ true
      → (has_key n j.building || has_entry n (passing (present j).part (to_sieve j shown))) ≡ true
  pub fresh : Disjoint j.building (to_sieve j shown)
  pub drawn : IfSome j.held (IsNextLeaf j shown)

-- A planned scan can be made at a snapshot: the index is there, its keys reach the range's bounds and have one value
-- for each column of the part.
pub record CanMake (plan : ScanPlan) (shown : Shown) (snap : ℕ) : Type 0 where
  pub can : CanScan shown plan.index snap
  pub suits : Suits shown plan.index snap plan.range
  pub keys : AreKeys (length plan.part.columns) (shown.entries plan.index snap)

-- each planned scan can be made
pub record CanTake (j : Joint) (shown : Shown) : Type 0 where
  pub each : (i : ℕ) → i < length j.plans → CanMake (plan_at j.plans i) shown j.snap

-- what holds of the parts alone
pub record Whole (plans : List ScanPlan) (ended : ℕ) (list : Option Listed) : Type 0 where
  pub few : length plans ≤ 8
  pub within : ended ≤ length plans
  pub list_finished : IfSome list (λ l. l.finished ≡ true)

-- the leaves of whole scans
abbrev pub leaves_planned : List ScanPlan → Shown → ℕ → ℕ
leaves_planned [] shown snap = 0
leaves_planned (plan ∷ plans) shown snap =
    leaves_from (shown.cuts plan.index snap) None + leaves_planned plans shown snap

abbrev pub leaves_of : List ScanPlan → Option IndexEntry → Shown → ℕ → ℕ
leaves_of [] place shown snap = 0
leaves_of (plan ∷ plans) place shown snap =
    leaves_from (shown.cuts plan.index snap) place + leaves_planned plans shown snap

-- the leaves that the scans which have not ended may still have to read
abbrev pub leaves_ahead : Joint → Shown → ℕ
leaves_ahead j shown = leaves_of (drop j.ended j.plans) j.place shown j.snap
