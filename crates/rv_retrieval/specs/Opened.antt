-- What a retrieval is when it was opened.
use Rattle.std.specs.Prelude.{◌≡◌, ◌⊎◌, ℕ, ◌+◌, ◌<◌, Bool, true, false, ◌||◌, Option, None, Some, IsSome, List, [], ◌∷◌, ◌++◌, length, nat_lt, if◌then◌else◌}
use Rattle.std.specs.List.Sorted.{IsStrictlyIncreasing}
use Rattle.rv_judge.specs.declared.events.Strategy.{Strategy}
use Rattle.rv_judge.specs.Account.{guarantee_with}
use Rattle.rv_judge.specs.Course.{next_control}
use Rattle.rv_judge.specs.declared.events.Event.{Event}
use Rattle.rv_judge.specs.declared.events.Event.TheVariants.{At, Scan, List as ListOf}
use Rattle.rv_judge.specs.declared.events.Happening.TheVariants.{ScanEnded}
use Rattle.rv_judge.specs.declared.events.Trace.{Trace}
use Rattle.rv_judge.specs.Runs.{start_events}
use Rattle.rv_keylist.specs.Keys.{has_key}
use Rattle.rv_reader.specs.Shown.{Shown}
use Rattle.rv_value.specs.declared.record.Record.{Record}
use Rattle.rv_jscan.specs.declared.jscan.ScanPlan.{ScanPlan}
use Rattle.rv_jscan.specs.Entries.{has_entry}
use Rattle.rv_jscan.specs.Joint.{Joint, meets, passing, plan_at, present, to_sieve, under_way}
use Rattle.rv_jscan.specs.Planned.{indexes_of}
use Rattle.rv_jscan.specs.Steps.{begun}
use Rattle.rv_choice.specs.declared.query.Query.{Query}
use Rattle.rv_choice.specs.declared.choosing.Choice.{Choice}
use Rattle.rv_choice.specs.Choice.{AreScans, IsChosen, candidates_of}
use Rattle.rv_choice.specs.Leading.{front_begun, front_candidate, guarantee_of}
use Rattle.rv_final.specs.Rest.{qualifying}
use Rattle.rv_final.specs.Stage.{Unbegun}
use Rattle.rv_scan.specs.Fronts.{Front}
use Rattle.rv_scan.specs.Places.{work as pages_work}
use Rattle.rv_retrieval.specs.Opens.{Opens, first_of}
use Rattle.rv_retrieval.specs.Shape.{RetrievalFits, Shape, is_background, rest}
use Rattle.rv_choice.specs.declared.choosing.Background.{Background}
use Rattle.rv_choice.specs.declared.choosing.Background.TheVariants.{Nothing, One, Each, EachBut}
use Rattle.rv_retrieval.specs.Telling.{events_for, index_of, list_len}
use Rattle.rv_judge.specs.Tracing.{NothingCounted, new_trace, noted, noted_all}
use Rattle.rv_retrieval.specs.Rulings.{gone, listed}

-- whether a background scan is planned
abbrev pub has_scans : List ScanPlan → Bool
has_scans plans = nat_lt 0 (length plans)

-- made of these parts, without a step
pub record Begun (query : Query) (strategy : Strategy) (plans : List ScanPlan) (foreground : Front)
    (guaranteed cursor opening : ℕ) (v : Shape) : Type 0 where
  pub asked : v.query ≡ query
  pub chosen : v.strategy ≡ strategy
  pub joint : v.joint ≡ begun query.table query.snap plans cursor opening
  pub front : v.front ≡ foreground
  pub fresh : v.delivered ≡ []
  pub bound : v.guaranteed ≡ guaranteed
  pub started : v.control ≡ first_of strategy (has_scans plans)
  pub counts : NothingCounted v.trace
  pub borrowed : v.borrowed ≡ 0
  pub unbegun : Unbegun v.at v.last

-- made of these parts, with an empty trace; over what a reader shows all that qualifies is still to be given
pub record Made (query : Query) (strategy : Strategy) (plans : List ScanPlan) (foreground : Front)
    (guaranteed cursor opening : ℕ) (v : Shape) : Type 0 where
  pub begun : Begun query strategy plans foreground guaranteed cursor opening v
  pub told : v.trace ≡ new_trace strategy
  pub last : (rows : List Record) (pages : ℕ) → pages_work v.last rows pages ≡ length rows + pages
  pub fits : (shown : Shown) → Opens query strategy plans foreground shown → RetrievalFits v shown
  pub rest : (shown : Shown) → Opens query strategy plans foreground shown
      → rest v shown ≡ qualifying query.only (shown.rows query.table query.snap)

-- the first control, and the scan with which a background begins
abbrev pub start_told : Shape → Trace
start_told v =
    noted_all (noted v.trace (At v.control)) (if is_background v.control
    then events_for Scan (index_of v.joint v.joint.ended) else [])

-- a joint scan of the same plans at the same snapshot, for the same pieces
pub record SameScans (old new : Joint) : Type 0 where
  pub plans : new.plans ≡ old.plans
  pub snap : new.snap ≡ old.snap
  pub cursor : new.cursor ≡ old.cursor
  pub opening : new.opening ≡ old.opening

-- what stays where the index is scanned at opening
pub record Scanned (old new : Shape) : Type 0 where
  pub asked : new.query ≡ old.query
  pub chosen : new.strategy ≡ old.strategy
  pub scans : SameScans old.joint new.joint
  pub front : new.front ≡ old.front
  pub delivered : new.delivered ≡ old.delivered
  pub at : new.at ≡ old.at
  pub last : new.last ≡ old.last

-- no scan was dropped: the one under way goes on, or a list is complete
pub record OnlyLists (old new : Joint) : Type 0 where
  pub either : ((new.ended ≡ old.ended) × (new.list ≡ old.list)) ⊎ ((old.ended < new.ended) × IsSome new.list)

-- whether a row is in the list being built, or has an entry still to be sieved whose key passes
abbrev pub will_have : Joint → Shown → ℕ → Bool
will_have j shown n = has_key n j.building || has_entry n (passing (present j).part (to_sieve j shown))

-- the scan under way goes on, and its list will have the rows that it would have had
pub record GoesOn (shown : Shown) (old new : Joint) : Type 0 where
  pub same : new
      ≡ record old {
        counts = new.counts;
        number = new.number;
        place = new.place;
        held = new.held;
        building = new.building;
      }
  pub has : (n : ℕ) → will_have new shown n ≡ will_have old shown n

-- it is over, and its list is complete: it has the rows that it would have, in ascending order
pub record Completes (shown : Shown) (old new : Joint) : Type 0 where
  pub keys : List ℕ
  pub same : new
      ≡ record old {
        counts = new.counts;
        ended = old.ended + 1;
        number = new.number;
        place = None;
        held = None;
        building = [];
        list = Some keys;
      }
  pub has : (n : ℕ) → has_key n keys ≡ will_have old shown n
  pub ascend : IsStrictlyIncreasing keys

-- leaves of the first scan were taken up
pub record ScansFirst (shown : Shown) (old new : Joint) : Type 0 where
  pub either : GoesOn shown old new ⊎ Completes shown old new

-- the one planned scan was run to its end, and its list counts
pub record RunsOut (old new : Shape) : Type 0 where
  pub over : under_way new.joint ≡ false
  pub complete : IsSome new.joint.list
  pub behind : old.joint.ended < new.joint.ended
  pub same : new ≡ gone (ScanEnded false true) (listed 0 (record old { joint = new.joint }))

-- a single index is scanned at once
abbrev pub is_one : Background → Bool
is_one Nothing = false
is_one (One index) = true
is_one Each = false
is_one (EachBut index) = false

-- made of the parts that were chosen
pub record IsMade (query : Query) (shown : Shown) (choice : Choice) (cursor opening : ℕ) (v : Shape) : Type 0 where
  pub asked : v.query ≡ query
  pub strategy : v.strategy ≡ choice.strategy
  pub scans : AreScans query.only (candidates_of query shown) choice.background v.joint.plans
  pub front : v.front ≡ front_begun query (front_candidate (candidates_of query shown) choice.front)
  pub fresh : v.delivered ≡ []
  pub unbegun : Unbegun v.at v.last
  pub cursor_number : v.joint.cursor ≡ cursor
  pub opening_number : v.joint.opening ≡ opening

-- the first control of the strategy, and no piece was taken; the events tell that control, and the scan with which a
-- background begins
pub record Starts (cursor opening : ℕ) (v : Shape) : Type 0 where
  pub control : v.control ≡ first_of v.strategy (has_scans v.joint.plans)
  pub joint : v.joint ≡ begun v.query.table v.query.snap v.joint.plans cursor opening
  pub borrowed : v.borrowed ≡ 0
  pub told : v.trace.events.items ≡ start_events v.strategy (indexes_of v.joint.plans)

-- THE LIST OF A WHOLE SCAN: the rows that have an entry in the scan's range whose key its part passes, in ascending
-- order
pub record IsWholeList (plan : ScanPlan) (shown : Shown) (snap : ℕ) (keys : List ℕ) : Type 0 where
  pub has : (n : ℕ) → has_key n keys ≡ meets plan shown snap n
  pub ascend : IsStrictlyIncreasing keys

-- what the trace tells where the one index was scanned at opening: the start, then that scan's list of so many keys,
-- and then the control to which it leads
abbrev pub settled_events : Shape → ℕ → List Event
settled_events v keys =
    start_events v.strategy (indexes_of v.joint.plans)
    ++ ListOf (plan_at v.joint.plans 0).index keys ∷ At v.control ∷ []

-- THE ONE INDEX WAS SCANNED TO ITS END: its list is complete, and has the rows of the whole scan; of the joint scan
-- else only the counts and the number of the next piece have changed. The control is the one to which that leads, and
-- the trace tells this and no more.
pub record Settles (shown : Shown) (cursor opening : ℕ) (v : Shape) : Type 0 where
  pub over : under_way v.joint ≡ false
  pub keys : List ℕ
  pub joint : v.joint
      ≡ record (begun v.query.table v.query.snap v.joint.plans cursor opening) {
        counts = v.joint.counts;
        ended = 1;
        number = v.joint.number;
        list = Some keys;
      }
  pub whole : IsWholeList (plan_at v.joint.plans 0) shown v.query.snap keys
  pub control : v.control ≡ next_control v.strategy (first_of v.strategy true) (ScanEnded false true)
  pub borrowed : v.borrowed ≡ 0
  pub told : v.trace.events.items ≡ settled_events v (length keys)

-- the guarantee, where the list of a single index counts already
abbrev pub bounded_by : Bool → ℕ → Option (List ℕ) → ℕ
bounded_by true guaranteed list = guarantee_with guaranteed (list_len list)
bounded_by false guaranteed list = guaranteed

-- THE STRATEGY, THE SCANS AND THE FOREGROUND ARE THOSE OF THE FIVE RULES. Where a single index is scanned in the
-- background it was scanned already; else no step was made.
pub record Opened (query : Query) (shown : Shown) (cursor opening : ℕ) (v : Shape) : Type 0 where
  pub choice : Choice
  pub chosen : IsChosen query.order query.goal (candidates_of query shown) choice
  pub made : IsMade query shown choice cursor opening v
  pub settled : is_one choice.background ≡ true → Settles shown cursor opening v
  pub started : is_one choice.background ≡ false → Starts cursor opening v
  pub bound : v.guaranteed ≡ bounded_by (is_one choice.background)
      (guarantee_of query shown (candidates_of query shown) choice) v.joint.list
