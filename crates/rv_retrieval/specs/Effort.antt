-- HOW MUCH WORK A RETRIEVAL STILL HAS, as a number over what it holds and what a reader shows: a sum of parts, one each
-- for the background's scans with the keys that may be fetched of them, the foreground's scan, the final scan of the
-- table and the final list.
use Rattle.std.specs.Prelude.{◌≡◌, ℕ, ◌+◌, ◌-◌, ◌*◌, ◌<◌, ◌≤◌, true, List, [], ◌∷◌, length, drop, Option, None, if◌then◌else◌}
use Rattle.rv_value.specs.declared.record.IndexEntry.{IndexEntry}
use Rattle.rv_judge.specs.declared.events.Control.{Control}
use Rattle.rv_judge.specs.declared.events.Control.TheVariants.{Building, ForegroundAlone, BackgroundAlone, FinalList, FinalTable, Done}
use Rattle.rv_judge.specs.Account.{life_bound}
use Rattle.rv_reader.specs.Leaves.{run_from}
use Rattle.rv_reader.specs.Shown.{Shown}
use Rattle.rv_scan.specs.Alongs.{leaf_work}
use Rattle.rv_scan.specs.Places.{work as pages_work}
use Rattle.rv_jscan.specs.declared.jscan.ScanPlan.{ScanPlan}
use Rattle.rv_jscan.specs.Joint.{Joint, leaves_ahead, under_way}
use Rattle.rv_choice.specs.declared.query.Query.{Query}
use Rattle.rv_scan.specs.Fronts.{walk_of}
use Rattle.rv_retrieval.specs.Shape.{Shape, front_entries, is_background, is_building, is_led, lending, rows_of}
pub use Rattle.rv_final.specs.LaneWork.{GiveSpends}
use Rattle.rv_final.specs.LaneWork.{to_read}
use Rattle.rv_final.specs.Stage.{keys_left}
use Rattle.rv_retrieval.specs.Telling.{list_len}
use Rattle.rv_judge.specs.Course.{fast_first}
use Rattle.std.specs.Prelude.{◌||◌}

-- The background.

-- the entries of whole scans
abbrev pub entries_planned : List ScanPlan → Shown → ℕ → ℕ
entries_planned [] shown snap = 0
entries_planned (plan ∷ plans) shown snap =
    length (run_from (shown.entries plan.index snap) plan.range None) + entries_planned plans shown snap

abbrev pub entries_of_scans : List ScanPlan → Option IndexEntry → Shown → ℕ → ℕ
entries_of_scans [] place shown snap = 0
entries_of_scans (plan ∷ plans) place shown snap =
    length (run_from (shown.entries plan.index snap) plan.range place) + entries_planned plans shown snap

-- the entries that the scans which have not ended may still sieve
abbrev pub entries_ahead : Joint → Shown → ℕ
entries_ahead j shown = entries_of_scans (drop j.ended j.plans) j.place shown j.snap

-- the keys that fast-first has still to borrow of the list that it borrows from
abbrev pub to_borrow : Joint → ℕ → ℕ
to_borrow j borrowed = length (lending j) - borrowed

-- Each leaf is read, and given back as a piece. The row of each of its entries may be fetched three times: where its
-- key is borrowed from the list being built, where it is borrowed from the complete list, and in the final stage.
abbrev pub back_work : Joint → ℕ → Shown → ℕ
back_work j borrowed shown =
    2 * leaves_ahead j shown + to_read j.held + 3 * entries_ahead j shown + 2 * length j.building + list_len j.list
    + to_borrow j borrowed

-- The foreground's scan and the final stage.

-- the work left of the foreground's scan, where one delivers
abbrev pub front_work : Shape → Shown → ℕ
front_work v shown =
    if is_led v.strategy
    then leaf_work (walk_of v.front) (front_entries v shown) (shown.cuts (walk_of v.front).index v.query.snap) else 0

-- the work left of the final scan of the table
abbrev pub table_work : Shape → Shown → ℕ
table_work v shown = pages_work v.last (rows_of v shown) (shown.pages v.query.table v.query.snap)

-- the keys that the final stage has still to pass
abbrev pub keys_work : Shape → ℕ
keys_work v = length (keys_left v.joint.list v.at)

-- the parts that a control may still come to
abbrev pub sum_of : Control → ℕ → ℕ → ℕ → ℕ → ℕ
sum_of Building back front table keys = back + front + table
sum_of ForegroundAlone back front table keys = front
sum_of BackgroundAlone back front table keys = back + table
sum_of FinalList back front table keys = keys
sum_of FinalTable back front table keys = table
sum_of Done back front table keys = 0

-- THE EFFORT
abbrev pub effort : Shape → Shown → ℕ
effort v shown =
    sum_of v.control (back_work v.joint v.borrowed shown) (front_work v shown) (table_work v shown) (keys_work v)

-- Where pieces are awaited a scan is under way, and where both sides run the strategy has a foreground.
pub record Awaiting (v : Shape) : Type 0 where
  pub way : is_background v.control ≡ true → under_way v.joint ≡ true
  pub both : is_building v.control ≡ true → (fast_first v.strategy || is_led v.strategy) ≡ true

-- THE BOUND AT OPENING, of the reader's lists alone

-- the numbers of cuts and of entries of the table's indexes
abbrev pub cuts_and_entries : List (ℕ × List ℕ) → Shown → ℕ → ℕ
cuts_and_entries [] shown snap = 0
cuts_and_entries (i ∷ indexes) shown snap =
    length (shown.cuts i.0 snap) + length (shown.entries i.0 snap) + cuts_and_entries indexes shown snap

abbrev pub life_of : Query → Shown → ℕ
life_of query shown = life_bound (shown.pages query.table query.snap) (cuts_and_entries query.indexes shown query.snap)
