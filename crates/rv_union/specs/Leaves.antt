-- HOW MANY LEAVES A UNION MAY STILL READ, as a number over what it holds and what a reader shows.
use Rattle.std.specs.Prelude.{◌≡◌, ℕ, ◌+◌, ◌≤◌, List, [], ◌∷◌, drop, Option, Some, None}
use Rattle.rv_value.specs.declared.range.Range.{Range}
use Rattle.rv_value.specs.declared.record.IndexEntry.{IndexEntry}
use Rattle.rv_judge.specs.declared.counting.Counts.{Counts}
use Rattle.rv_judge.specs.declared.events.Control.{Control}
use Rattle.rv_judge.specs.declared.events.Control.TheVariants.{Building, ForegroundAlone, BackgroundAlone, FinalList, FinalTable, Done}
use Rattle.rv_reader.specs.declared.reader.Chunk.{Chunk}
use Rattle.rv_reader.specs.Leaves.{leaves_behind, leaves_for}
use Rattle.rv_reader.specs.Shown.{Shown}
use Rattle.rv_jscan.specs.declared.jscan.ScanPlan.{ScanPlan}
use Rattle.rv_jscan.specs.Lanes.{Laned}
use Rattle.rv_union.specs.Unioned.{Unioned, present}

-- those that may hold what is left of a range from a place on; the leaf that is held was read
abbrev pub held_leaves : List IndexEntry → Range → Option IndexEntry → Option Chunk → ℕ
held_leaves cuts range place None = leaves_for cuts range place
held_leaves cuts range place (Some chunk) = leaves_behind cuts range chunk.next

abbrev pub lane_leaves : ScanPlan → Shown → ℕ → Laned → ℕ
lane_leaves plan shown snap l = held_leaves (shown.cuts plan.index snap) plan.range l.place l.held

-- THE LEAVES THAT MAY HOLD THE MEMBERS' RANGES, counted for each member
abbrev pub planned_leaves : List ScanPlan → Shown → ℕ → ℕ
planned_leaves [] shown snap = 0
planned_leaves (plan ∷ plans) shown snap =
    leaves_for (shown.cuts plan.index snap) plan.range None + planned_leaves plans shown snap

-- none once the members were scanned or the union was dropped
abbrev pub leaves_by : Control → ℕ → ℕ
leaves_by Building scans = 0
leaves_by ForegroundAlone scans = 0
leaves_by BackgroundAlone scans = scans
leaves_by FinalList scans = 0
leaves_by FinalTable scans = 0
leaves_by Done scans = 0

abbrev pub scanning_leaves : Unioned → Shown → ℕ
scanning_leaves u shown =
    lane_leaves (present u) shown u.snap u.lane + planned_leaves (drop (u.member + 1) u.plans) shown u.snap

abbrev pub leaves_left : Unioned → Shown → ℕ
leaves_left u shown = leaves_by u.control (scanning_leaves u shown)

-- the leaves that a call reads are no longer left
abbrev pub LeavesFall : Counts → Counts → ℕ → ℕ → Type 0
LeavesFall before after old new = after.leaves + new ≤ before.leaves + old
