-- HOW MUCH WORK A RACE STILL HAS, as a number over what it holds and what a reader shows.
use Rattle.std.specs.Prelude.{ℕ, ◌+◌, List, [], ◌∷◌, length, drop, Option, Some, None}
use Rattle.rv_judge.specs.Account.{life_bound}
use Rattle.rv_reader.specs.Shown.{Shown}
use Rattle.rv_scan.specs.Places.{work}
use Rattle.rv_jscan.specs.declared.jscan.ScanPlan.{ScanPlan}
use Rattle.rv_jscan.specs.Joint.{plan_at}
use Rattle.rv_final.specs.LaneWork.{effort_by, lane_work, planned_work, to_read}
use Rattle.rv_final.specs.Stage.{keys_left}
use Rattle.rv_race.specs.declared.running.Runner.{Runner}
use Rattle.rv_race.specs.declared.running.Running.{Running}
use Rattle.rv_race.specs.Given.{turn_lane}
use Rattle.rv_race.specs.Raced.{Raced, rows_of}
use Rattle.rv_race.specs.Rulings.{list_len}

abbrev pub runner_work : List ScanPlan → Shown → ℕ → Runner → ℕ
runner_work plans shown snap run = lane_work (plan_at plans run.scan) shown snap run.lane

abbrev pub other_work : List ScanPlan → Shown → ℕ → Option Runner → ℕ
other_work plans shown snap None = 0
other_work plans shown snap (Some other) = runner_work plans shown snap other

abbrev pub running_work : List ScanPlan → Shown → ℕ → Running → ℕ
running_work plans shown snap w =
    runner_work plans shown snap w.turn + other_work plans shown snap w.other
    + planned_work (drop w.next plans) shown snap

-- the final scan of the table, and the keys that the final stage has still to pass
abbrev pub table_work : Raced → Shown → ℕ
table_work r shown = work r.last (rows_of r shown) (shown.pages r.table r.snap)

abbrev pub keys_work : Raced → ℕ
keys_work r = length (keys_left r.list r.at)

abbrev pub racing_work : Raced → Shown → ℕ
racing_work r shown =
    running_work r.plans shown r.snap r.running + to_read (turn_lane r).held + list_len r.list + table_work r shown

-- THE EFFORT
abbrev pub effort : Raced → Shown → ℕ
effort r shown = effort_by r.control (racing_work r shown) (keys_work r) (table_work r shown)

-- the numbers of cuts and of entries of the indexes that are scanned
abbrev pub cuts_and_entries : List ScanPlan → Shown → ℕ → ℕ
cuts_and_entries [] shown snap = 0
cuts_and_entries (plan ∷ plans) shown snap =
    length (shown.cuts plan.index snap) + length (shown.entries plan.index snap) + cuts_and_entries plans shown snap

abbrev pub life_of : ℕ → ℕ → List ScanPlan → Shown → ℕ
life_of table snap plans shown = life_bound (shown.pages table snap) (cuts_and_entries plans shown snap)
