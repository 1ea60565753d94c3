-- Believed (chapter SHOW): the traces that a retrieval may leave.
use Rattle.std.specs.Prelude.{◌≡◌, ◌≢◌, ℕ, List, [], ◌∷◌, ◌++◌, Bool, true, false, Option, Some, None, is_some, nat_lt, map, ◌⊎◌}
use Rattle.std.specs.List.{Contains, AllByRecursion}
use Rattle.std.specs.Option.{option_to_list}
use Rattle.rv_judge.specs.declared.events.Strategy.{Strategy}
use Rattle.rv_judge.specs.declared.events.Strategy.TheVariants.{Table, BackgroundOnly, FastFirst, Sorted, IndexOnly, Union}
use Rattle.rv_judge.specs.declared.events.Control.{Control}
use Rattle.rv_judge.specs.declared.events.Control.TheVariants.{Building, ForegroundAlone, BackgroundAlone, FinalList, FinalTable, Done}
use Rattle.rv_judge.specs.declared.events.Event.{Event}
use Rattle.rv_judge.specs.declared.events.Event.TheVariants.{At, Scan, List as ListOf, Drop, Full as Filled, Stop}
use Rattle.rv_judge.specs.declared.events.Trace.{Trace}
use Rattle.rv_judge.specs.declared.judging.Verdict.TheVariants.{AbandonForeground, AbandonBackground}
use Rattle.rv_judge.specs.declared.events.Happening.TheVariants.{ScanEnded, Ruled, Full, FrontEnded, FinalEnded}
use Rattle.rv_judge.specs.Runs.{Standing}
use Rattle.rv_lang.specs.declared.reply.Shown.{Shown}
use Rattle.rv_catalog.specs.declared.def.IndexDef.{IndexDef}
use Rattle.rv_model.specs.Showing.{numbers_over, shown_trace}
use Rattle.rv_believed.specs.Course.{course}

-- Where a run stands, `Standing`: the control, the index whose scan is under way, the indexes whose
-- scans are planned and have not begun, and the length of the complete list.

-- a standing, by its parts
abbrev pub at : Control → Option ℕ → List ℕ → Option ℕ → Standing
at control scan ahead listed =
    record { control = control; scan = scan; ahead = ahead; listed = listed }

-- there is more to scan: a scan is planned, and the complete list, if there is one, has a key
abbrev pub is_more : List ℕ → Option ℕ → Bool
is_more [] listed = false
is_more (i ∷ ahead) None = true
is_more (i ∷ ahead) (Some keys) = nat_lt 0 keys

-- the scan that is under way at a control: none where the background does not run
abbrev pub scan_at : Control → Option ℕ → Option ℕ
scan_at Building scan = scan
scan_at BackgroundAlone scan = scan
scan_at control scan = None

-- A scan ends: it completed with so many keys, or the judge abandoned it. Its event, and the length
-- of the complete list before and after.
pub data Ends (i : ℕ) : Option ℕ → Event → Option ℕ → Type 0 where
  completes : (keys : ℕ) (old : Option ℕ) → Ends i old (ListOf i keys) (Some keys)
  is_dropped : (old : Option ℕ) → Ends i old (Drop i) old

-- ONE TURN of a run, and the events that it leaves. A verdict that changes nothing is no turn.
pub data Goes (strategy : Strategy)
    : Standing → List Event → Standing → Type 0 where
  -- a scan ends, and the next one begins
  next_scan : (c next : Control) (i j : ℕ) (ahead : List ℕ) (old new : Option ℕ) (event : Event)
      → Ends i old event new → is_more (j ∷ ahead) new ≡ true
      → course strategy c (ScanEnded true (is_some new)) ≡ Some next
      → Goes strategy (at c (Some i) (j ∷ ahead) old) (event ∷ Scan j ∷ [])
      (at next (Some j) ahead new)
  -- a scan ends, and there is no more
  last_scan : (c next : Control) (i : ℕ) (ahead : List ℕ) (old new : Option ℕ) (event : Event)
      → Ends i old event new → is_more ahead new ≡ false
      → course strategy c (ScanEnded false (is_some new)) ≡ Some next
      → Goes strategy (at c (Some i) ahead old) (event ∷ At next ∷ []) (at next None ahead new)
  -- the judge abandons the background
  drops_background : (c next : Control) (i : ℕ) (ahead : List ℕ) (listed : Option ℕ)
      → course strategy c (Ruled AbandonBackground true (is_some listed)) ≡ Some next
      → Goes strategy (at c (Some i) ahead listed) (Drop i ∷ At next ∷ [])
      (at next None ahead listed)
  -- the judge abandons the foreground
  drops_front : (c next : Control) (i : ℕ) (ahead : List ℕ) (listed : Option ℕ)
      → course strategy c (Ruled AbandonForeground true true) ≡ Some next
      → Goes strategy (at c (Some i) ahead listed) (Stop ∷ At next ∷ [])
      (at next (Some i) ahead listed)
  -- the buffer of delivered rows is full
  fills : (c next : Control) (scan : Option ℕ) (ahead : List ℕ) (listed : Option ℕ)
      → course strategy c Full ≡ Some next
      → Goes strategy (at c scan ahead listed) (Filled ∷ At next ∷ [])
      (at next (scan_at next scan) ahead listed)
  -- the foreground, or the final stage, is at its end
  finishes : (c next : Control) (scan : Option ℕ) (ahead : List ℕ) (listed : Option ℕ)
      → (course strategy c FrontEnded ≡ Some next) ⊎ (course strategy c FinalEnded ≡ Some next)
      → Goes strategy (at c scan ahead listed) (At next ∷ []) (at next None ahead listed)

-- a run from where it stands, and the events that it has left so far
pub data Runs (strategy : Strategy) : Standing → List Event → Type 0 where
  rests : (s : Standing) → Runs strategy s []
  goes : (s t : Standing) (events more : List Event)
      → Goes strategy s events t → Runs strategy t more → Runs strategy s (events ++ more)

-- The first control, over planned scans. Background-only and fast-first need a scan; a union has
-- none planned.
abbrev pub first_control : Strategy → List ℕ → Option Control
first_control Table planned = Some FinalTable
first_control BackgroundOnly (i ∷ ahead) = Some BackgroundAlone
first_control FastFirst (i ∷ ahead) = Some Building
first_control Sorted [] = Some ForegroundAlone
first_control Sorted (i ∷ ahead) = Some Building
first_control IndexOnly [] = Some ForegroundAlone
first_control IndexOnly (i ∷ ahead) = Some Building
first_control strategy planned = None

-- the first planned scan begins, where the background runs
abbrev pub start : Control → List ℕ → Standing
start Building (i ∷ ahead) = at Building (Some i) ahead None
start BackgroundAlone (i ∷ ahead) = at BackgroundAlone (Some i) ahead None
start c planned = at c None planned None

-- the events with which a trace begins
abbrev pub start_events : Standing → List Event
start_events s = At s.control ∷ map Scan (option_to_list s.scan)

-- each stands once
abbrev pub EachOnce : List ℕ → Type 0
EachOnce [] = Unit {0}
EachOnce (i ∷ is) = AllByRecursion (λ j. i ≢ j) is × EachOnce is

-- The events are those of some run, whose scans are of these indexes, each begun at most once.
pub record AllowedRun (trace : Trace) (indexes : List ℕ) : Type 0 where
  pub planned : List ℕ
  pub known : AllByRecursion (Contains indexes) planned
  pub once : EachOnce planned
  pub control : Control
  pub first : first_control trace.strategy planned ≡ Some control
  pub rest : List Event
  pub run : Runs trace.strategy (start control planned) rest
  pub told : trace.events.items ≡ start_events (start control planned) ++ rest

-- What follows the scans of a union, of whose indexes i is one: nothing yet; the list, named for
-- the last member's index, and its end; or the drop of a member's index, and the table's end.
pub data UnionTail (begun : List ℕ) : List Event → Type 0 where
  scanning : UnionTail begun []
  fetching : (i keys : ℕ) → Contains begun i
      → UnionTail begun (ListOf i keys ∷ At FinalList ∷ [])
  fetched : (i keys : ℕ) → Contains begun i
      → UnionTail begun (ListOf i keys ∷ At FinalList ∷ At Done ∷ [])
  reading : (i : ℕ) → Contains begun i
      → UnionTail begun (Drop i ∷ At FinalTable ∷ [])
  read : (i : ℕ) → Contains begun i
      → UnionTail begun (Drop i ∷ At FinalTable ∷ At Done ∷ [])

-- A union scans its members one after another. Its events tell a scan for each index, once, and
-- then a tail.
pub record AllowedUnion (trace : Trace) (indexes : List ℕ) : Type 0 where
  pub first : ℕ
  pub more : List ℕ
  pub known : AllByRecursion (Contains indexes) (first ∷ more)
  pub once : EachOnce (first ∷ more)
  pub tail : List Event
  pub ends : UnionTail (first ∷ more) tail
  pub told : trace.events.items ≡ At BackgroundAlone ∷ (map Scan (first ∷ more) ++ tail)

-- the events of a strategy
abbrev pub AllowedBy : Strategy → Trace → List ℕ → Type 0
AllowedBy Union trace indexes = AllowedUnion trace indexes
AllowedBy strategy trace indexes = AllowedRun trace indexes

-- A TRACE IS ALLOWED for these indexes. Any number of reads may be counted.
abbrev pub Allowed : Trace → List ℕ → Type 0
Allowed trace indexes = AllowedBy trace.strategy trace indexes

-- SHOW: an allowed trace for the indexes over a table, with their names in place of their numbers.
pub record Shows (indexes : List IndexDef) (table : ℕ) (shown : Shown) : Type 0 where
  pub trace : Trace
  pub allowed : Allowed trace (numbers_over table 0 indexes)
  pub names : shown ≡ shown_trace indexes trace
