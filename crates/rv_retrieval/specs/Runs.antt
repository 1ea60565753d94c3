-- The run of the course that a retrieval has taken, as its trace tells it.
use Rattle.std.specs.Prelude.{◌≡◌, ℕ, ◌+◌, ◌*◌, ◌-◌, ◌<◌, ◌≤◌, Bool, true, false, not, ◌&&◌, ◌||◌, List, ◌++◌, map, drop, length, nat_lt, Option, Some}
use Rattle.std.specs.List.{list_all}
use Rattle.rv_judge.specs.declared.events.Control.{Control}
use Rattle.rv_judge.specs.declared.events.Control.TheVariants.{Building, ForegroundAlone, BackgroundAlone, FinalList, FinalTable, Done}
use Rattle.rv_judge.specs.declared.events.Event.{Event}
use Rattle.rv_judge.specs.declared.events.Strategy.{Strategy}
use Rattle.rv_judge.specs.Course.{fast_first, index_only, sorted}
use Rattle.rv_judge.specs.Runs.{EachOnce, HasScans, IsRun, Standing, Turn, has_index, run_end, run_events, start, start_events}
use Rattle.rv_jscan.specs.declared.jscan.ScanPlan.{ScanPlan}
use Rattle.rv_jscan.specs.declared.jscan.Taken.{Taken}
use Rattle.rv_jscan.specs.declared.jscan.Taken.TheVariants.{Piece, Nothing}
use Rattle.rv_jscan.specs.Joint.{is_empty_list, plan_at, present}
use Rattle.rv_jscan.specs.Planned.{indexes_of}
use Rattle.rv_retrieval.specs.Accounts.{list_length}
use Rattle.rv_choice.specs.declared.query.Query.{Query}
use Rattle.rv_judge.specs.Drops.{was_dropped}
use Rattle.rv_retrieval.specs.Shape.{Shape, is_background, is_building}

-- the table's indexes
abbrev pub indexes_asked : Query → List ℕ
indexes_asked query = map (λ (i : ℕ × List ℕ). i.0) query.indexes

-- where a run stands while the background runs
abbrev pub standing_of : Control → List ScanPlan → ℕ → Option (List ℕ) → Standing
standing_of now plans ended list =
    record {
      control = now;
      scan = Some (plan_at plans ended).index;
      ahead = indexes_of (drop (ended + 1) plans);
      listed = list_length list;
    }

-- a planned scan has not ended, and the complete list, if any, has a key
abbrev pub goes_on : List ScanPlan → ℕ → Option (List ℕ) → Bool
goes_on plans ended list = nat_lt ended (length plans) && not (is_empty_list list)

-- how many events may follow beside those of the scans
abbrev pub events_left : Control → ℕ
events_left Building = 4
events_left BackgroundAlone = 2
events_left ForegroundAlone = 1
events_left FinalList = 1
events_left FinalTable = 1
events_left Done = 0

-- a strategy whose foreground delivers while the background runs
abbrev pub runs_both : Strategy → Bool
runs_both strategy = fast_first strategy || (sorted strategy || index_only strategy)

-- The events are those of a run of the course over the planned scans, which are of these indexes, each once. The run
-- stands at the control, and while the background runs at the scan under way. A scan that has not ended was not
-- dropped. There is room for what may follow.
pub record TellsOf (named strategy : Strategy) (now : Control) (plans : List ScanPlan) (ended : ℕ)
    (list : Option (List ℕ)) (indexes : List ℕ) (events : List Event) : Type 0 where
  pub standing : Standing
  pub turns : List Turn
  pub run : IsRun strategy (start strategy (indexes_of plans)) turns
  pub told : events ≡ start_events strategy (indexes_of plans)
      ++ run_events strategy (start strategy (indexes_of plans)) turns
  pub ends : run_end strategy (start strategy (indexes_of plans)) turns ≡ standing
  pub at : standing.control ≡ now
  pub running : is_background now ≡ true → standing ≡ standing_of now plans ended list
  pub said : named ≡ strategy
  pub way : is_background now ≡ true → goes_on plans ended list ≡ true
  pub both : is_building now ≡ true → runs_both strategy ≡ true
  pub room : length events + (2 * (length plans - ended) + events_left now) ≤ 32
  pub scanned : HasScans strategy (indexes_of plans)
  pub once : EachOnce (indexes_of plans)
  pub known : list_all (λ i. has_index i indexes) (indexes_of plans) ≡ true
  pub undropped : (k : ℕ) → ended ≤ k → k < length plans → was_dropped (plan_at plans k).index events ≡ false

-- WHAT THE TRACE TELLS IS ONE RUN OF THE COURSE
abbrev pub Tells : Shape → Type 0
Tells v =
    TellsOf v.trace.strategy v.strategy v.control v.joint.plans v.joint.ended v.joint.list (indexes_asked v.query)
    v.trace.events.items

-- a piece that is handed out is of a scan that was not dropped
abbrev pub IsOfUndropped : Shape → Taken → Type 0
IsOfUndropped v (Piece piece) =
    (piece.part ≡ (present v.joint).part) × (was_dropped (present v.joint).index v.trace.events.items ≡ false)
IsOfUndropped v Nothing = Unit {0}

-- the control, the scans and the events stay
pub record SameCourse (old new : Shape) : Type 0 where
  pub strategy : new.strategy ≡ old.strategy
  pub control : new.control ≡ old.control
  pub plans : new.joint.plans ≡ old.joint.plans
  pub ended : new.joint.ended ≡ old.joint.ended
  pub list : new.joint.list ≡ old.joint.list
  pub query : new.query ≡ old.query
  pub named : new.trace.strategy ≡ old.trace.strategy
  pub events : new.trace.events ≡ old.trace.events
