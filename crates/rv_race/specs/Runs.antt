-- The run of the course that a race has taken, as its trace tells it.
use Rattle.std.specs.Prelude.{◌≡◌, ℕ, ◌+◌, ◌<◌, ◌≤◌, Bool, true, false, List, [], ◌∷◌, ◌++◌, map, drop, length, nat_lt, Option, Some, None, IfSome}
use Rattle.std.specs.List.{list_all}
use Rattle.rv_judge.specs.declared.events.Control.{Control}
use Rattle.rv_judge.specs.declared.events.Control.TheVariants.{Building, ForegroundAlone, BackgroundAlone, FinalList, FinalTable, Done}
use Rattle.rv_judge.specs.declared.events.Event.{Event}
use Rattle.rv_judge.specs.declared.events.Event.TheVariants.{At, Scan, List as ListOf, Drop}
use Rattle.rv_judge.specs.declared.events.Strategy.TheVariants.{BackgroundOnly}
use Rattle.rv_judge.specs.Runs.{EachOnce, HasScans, IsRun, Turn, has_index, run_end, run_events, start, start_events}
use Rattle.rv_jscan.specs.declared.jscan.ScanPlan.{ScanPlan}
use Rattle.rv_jscan.specs.declared.jscan.Taken.{Taken}
use Rattle.rv_jscan.specs.declared.jscan.Taken.TheVariants.{Piece, Nothing}
use Rattle.rv_jscan.specs.Joint.{plan_at}
use Rattle.rv_jscan.specs.Planned.{indexes_of}
use Rattle.rv_judge.specs.Drops.{was_dropped}
use Rattle.rv_race.specs.declared.running.Runner.{Runner}
use Rattle.rv_race.specs.declared.running.Running.{Running}
use Rattle.rv_race.specs.Given.{turn_plan, turn_scan}
use Rattle.rv_race.specs.Raced.{Raced}
use Rattle.rv_race.specs.Rulings.{index_at}
use Rattle.rv_race.specs.Ways.{lower}

-- A scan that is over: its index, and the number of keys of its list, none where it was dropped.
pub record Ended : Type 0 where
  pub index : ℕ
  pub keys : Option ℕ

abbrev pub outcome : ℕ → Option ℕ → Event
outcome index None = Drop index
outcome index (Some keys) = ListOf index keys

-- each of them stands as its Scan, directly followed by its List or Drop
abbrev pub told_ends : List Ended → List Event
told_ends [] = []
told_ends (e ∷ ends) = Scan e.index ∷ outcome e.index e.keys ∷ told_ends ends

abbrev pub ended_indexes : List Ended → List ℕ
ended_indexes ends = map (λ (e : Ended). e.index) ends

-- the length of the last list, where one was complete before
abbrev pub later : Option ℕ → Option ℕ → Option ℕ
later before None = before
later before (Some keys) = Some keys

abbrev pub listed_by : Option ℕ → List Ended → Option ℕ
listed_by before [] = before
listed_by before (e ∷ ends) = listed_by (later before e.keys) ends

-- a list, if any, has a key
abbrev pub keyed : Option ℕ → Bool
keyed None = true
keyed (Some keys) = nat_lt 0 keys

abbrev pub is_keyed : Ended → Bool
is_keyed e = keyed e.keys

abbrev pub list_length : Option (List ℕ) → Option ℕ
list_length None = None
list_length (Some keys) = Some (length keys)

-- the indexes of the scans that are not over: those under way, and those that have not begun
abbrev pub left_by : List ScanPlan → Runner → Option Runner → ℕ → List ℕ
left_by plans turn None next = (plan_at plans turn.scan).index ∷ indexes_of (drop next plans)
left_by plans turn (Some other) next =
    (plan_at plans turn.scan).index ∷ (plan_at plans other.scan).index ∷ indexes_of (drop next plans)

abbrev pub left_of : List ScanPlan → Running → List ℕ
left_of plans w = left_by plans w.turn w.other w.next

-- the positions of the scans under way are planned ones, below those of the scans that have not begun
pub record Placed (planned : ℕ) (w : Running) : Type 0 where
  pub turn_planned : w.turn.scan < planned
  pub turn_begun : w.turn.scan < w.next
  pub other_planned : IfSome w.other (λ o. o.scan < planned)
  pub other_begun : IfSome w.other (λ o. o.scan < w.next)
  pub next_planned : w.next ≤ planned

-- While scans are under way: the scans that are over, in the order in which they ended, and then the Scan of the lower
-- one under way. No list is empty, and each index is scanned once.
pub record TellsRacing (r : Raced) : Type 0 where
  pub ends : List Ended
  pub told : r.trace.events.items ≡ At BackgroundAlone ∷ (told_ends ends ++ Scan (index_at r (lower r.running)) ∷ [])
  pub keys : list_all is_keyed ends ≡ true
  pub listed : listed_by None ends ≡ list_length r.list
  pub once : EachOnce (ended_indexes ends ++ left_of r.plans r.running)
  pub known : list_all (λ i. has_index i (indexes_of r.plans)) (ended_indexes ends) ≡ true
  pub room : length ends + length (left_of r.plans r.running) ≤ 8
  pub placed : Placed (length r.plans) r.running

-- how many events may follow
abbrev pub events_left : Control → ℕ
events_left Building = 0
events_left ForegroundAlone = 0
events_left BackgroundAlone = 0
events_left FinalList = 1
events_left FinalTable = 1
events_left Done = 0

-- Then: the events of a run of the course that stands at the control.
pub record TellsOver (r : Raced) : Type 0 where
  pub planned : List ℕ
  pub turns : List Turn
  pub run : IsRun BackgroundOnly (start BackgroundOnly planned) turns
  pub told : r.trace.events.items ≡ start_events BackgroundOnly planned
      ++ run_events BackgroundOnly (start BackgroundOnly planned) turns
  pub at : (run_end BackgroundOnly (start BackgroundOnly planned) turns).control ≡ r.control
  pub scanned : HasScans BackgroundOnly planned
  pub once : EachOnce planned
  pub known : list_all (λ i. has_index i (indexes_of r.plans)) planned ≡ true
  pub room : length r.trace.events.items + events_left r.control ≤ 32

abbrev pub TellsBy : Control → Raced → Type 0
TellsBy Building r = ⊥
TellsBy ForegroundAlone r = ⊥
TellsBy BackgroundAlone r = TellsRacing r
TellsBy FinalList r = TellsOver r
TellsBy FinalTable r = TellsOver r
TellsBy Done r = TellsOver r

-- WHAT THE TRACE TELLS IS ONE RUN OF THE COURSE over the planned scans, in an order in which they may have run one by
-- one
pub record Tells (r : Raced) : Type 0 where
  pub named : r.trace.strategy ≡ BackgroundOnly
  pub tells : TellsBy r.control r

-- a piece that is handed out is of a scan that was not dropped
abbrev pub IsOfUndropped : Raced → Taken → Type 0
IsOfUndropped r (Piece piece) =
    (piece.part ≡ (turn_plan r).part) × (was_dropped (index_at r (turn_scan r)) r.trace.events.items ≡ false)
IsOfUndropped r Nothing = Unit {0}
