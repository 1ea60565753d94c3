-- HOW MUCH WORK A UNION STILL HAS, as a number over what it holds and what a reader shows.
use Rattle.std.specs.Prelude.{ℕ, ◌+◌, List, [], ◌∷◌, length, drop, Some}
use Rattle.rv_judge.specs.Account.{life_bound}
use Rattle.rv_reader.specs.Shown.{Shown}
use Rattle.rv_scan.specs.Places.{work}
use Rattle.rv_jscan.specs.declared.jscan.ScanPlan.{ScanPlan}
use Rattle.rv_final.specs.LaneWork.{effort_by, lane_work, planned_work, to_read}
use Rattle.rv_final.specs.Stage.{keys_left}
use Rattle.rv_union.specs.Unioned.{Unioned, present, rows_of}

-- the final scan of the table, and the keys that the final stage has still to pass
abbrev pub table_work : Unioned → Shown → ℕ
table_work u shown = work u.last (rows_of u shown) (shown.pages u.table u.snap)

abbrev pub keys_work : Unioned → ℕ
keys_work u = length (keys_left (Some u.keys) u.at)

-- the present member, those behind it, the keys that were put together, and the table
abbrev pub scanning_work : Unioned → Shown → ℕ
scanning_work u shown =
    lane_work (present u) shown u.snap u.lane + planned_work (drop (u.member + 1) u.plans) shown u.snap
    + to_read u.lane.held + length u.keys + table_work u shown

-- THE EFFORT
abbrev pub effort : Unioned → Shown → ℕ
effort u shown = effort_by u.control (scanning_work u shown) (keys_work u) (table_work u shown)

-- the life bound of a table of so many pages of which only this index is scanned
abbrev pub member_life : ℕ → ScanPlan → Shown → ℕ → ℕ
member_life pages plan shown snap =
    life_bound pages (length (shown.cuts plan.index snap) + length (shown.entries plan.index snap))

-- THE LIFE OF A UNION: a life bound for each member
abbrev pub members_life : ℕ → List ScanPlan → Shown → ℕ → ℕ
members_life pages [] shown snap = 0
members_life pages (plan ∷ plans) shown snap = member_life pages plan shown snap + members_life pages plans shown snap

abbrev pub life_of : ℕ → ℕ → List ScanPlan → Shown → ℕ
life_of table snap plans shown = members_life (shown.pages table snap) plans shown snap
