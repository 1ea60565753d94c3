-- THE WORDS THAT ARE COMMON TO ALL KINDS OF ACCESS to one table: what an access is asked, where it stands, what it
-- owes.
use Rattle.std.specs.Prelude.{◌≡◌, ℕ, true, List, [], Option}
use Rattle.std.specs.List.{list_all}
use Rattle.rv_value.specs.declared.record.Record.{Record}
use Rattle.rv_judge.specs.declared.events.Control.{Control}
use Rattle.rv_judge.specs.declared.events.Strategy.{Strategy}
use Rattle.rv_judge.specs.declared.events.Strategy.TheVariants.{BackgroundOnly, Union}
use Rattle.rv_judge.specs.declared.events.Trace.{Trace}
use Rattle.rv_judge.specs.Runs.{has_index}
use Rattle.rv_reader.specs.declared.reader.Chunk.{Chunk}
use Rattle.rv_reader.specs.Shown.{Shown}
use Rattle.rv_jscan.specs.declared.jscan.ScanPlan.{ScanPlan}
use Rattle.rv_choice.specs.declared.query.Query.{Query}
use Rattle.rv_retrieval.specs.Effort.{Awaiting as RetrievalAwaiting, effort as retrieval_effort}
use Rattle.rv_retrieval.specs.Runs.{Tells as RetrievalTells, indexes_asked}
use Rattle.rv_retrieval.specs.Shape.{RetrievalFits, Shape, rest as retrieval_rest}
use Rattle.rv_retrieval.specs.Short.{Settled as RetrievalSettled, fetches_left as retrieval_fetches}
use Rattle.rv_race.specs.Effort.{effort as race_effort}
use Rattle.rv_race.specs.Given.{turn_lane}
use Rattle.rv_race.specs.Raced.{RaceFits, Raced, rest as race_rest}
use Rattle.rv_jscan.specs.Planned.{indexes_of, indexes_of as united_indexes}
use Rattle.rv_race.specs.Runs.{Tells as RaceTells}
use Rattle.rv_union.specs.Effort.{effort as union_effort}
use Rattle.rv_union.specs.Runs.{Tells as UnionTells}
use Rattle.rv_union.specs.Unioned.{UnionFits, Unioned, rest as union_rest}
use Rattle.rv_access.specs.declared.access.Access.{Access}
use Rattle.rv_access.specs.declared.access.Access.TheVariants.{Competing, Racing, Uniting}
use Rattle.rv_access.specs.declared.racing.RacedQuery.{RacedQuery}
use Rattle.rv_access.specs.declared.uniting.UnitedQuery.{UnitedQuery}

-- what it is asked
abbrev pub query_of : Access → Query
query_of (Competing v) = v.value.query
query_of (Racing r) = r.value.query
query_of (Uniting u) = u.value.query

-- which sides run
abbrev pub control_of : Access → Control
control_of (Competing v) = v.value.control
control_of (Racing r) = r.value.race.control
control_of (Uniting u) = u.value.union.control

abbrev pub strategy_of : Access → Strategy
strategy_of (Competing v) = v.value.strategy
strategy_of (Racing r) = BackgroundOnly
strategy_of (Uniting u) = Union

-- the planned scans
abbrev pub planned_of : Access → List ScanPlan
planned_of (Competing v) = v.value.joint.plans
planned_of (Racing r) = r.value.race.plans
planned_of (Uniting u) = u.value.union.plans

-- the number of the next piece
abbrev pub number_of : Access → ℕ
number_of (Competing v) = v.value.joint.number
number_of (Racing r) = r.value.race.number
number_of (Uniting u) = u.value.union.number

-- the leaf that is held for the awaited piece
abbrev pub held_of : Access → Option Chunk
held_of (Competing v) = v.value.joint.held
held_of (Racing r) = (turn_lane r.value.race).held
held_of (Uniting u) = u.value.union.lane.held

-- what it did so far
abbrev pub trace_of : Access → Trace
trace_of (Competing v) = v.value.trace
trace_of (Racing r) = r.value.race.trace
trace_of (Uniting u) = u.value.union.trace

-- THE REST: the records that qualify and are still to be given, in ascending row number
abbrev pub rest : Access → Shown → List Record
rest (Competing v) shown = retrieval_rest v.value shown
rest (Racing r) shown = race_rest r.value.race shown
rest (Uniting u) shown = union_rest u.value.union shown

-- a race is over the table, the snapshot and the restriction that were asked; no order was
pub record IsOver (query : Query) (r : Raced) : Type 0 where
  pub table : r.table ≡ query.table
  pub snap : r.snap ≡ query.snap
  pub only : r.only ≡ query.only
  pub order : query.order ≡ []

pub record RacedFits (r : RacedQuery) (shown : Shown) : Type 0 where
  pub over : IsOver r.query r.race
  pub race : RaceFits r.race shown

-- the same of a union
pub record UnitesOver (query : Query) (u : Unioned) : Type 0 where
  pub table : u.table ≡ query.table
  pub snap : u.snap ≡ query.snap
  pub only : u.only ≡ query.only
  pub order : query.order ≡ []

pub record UnitedFits (u : UnitedQuery) (shown : Shown) : Type 0 where
  pub over : UnitesOver u.query u.union
  pub union : UnionFits u.union shown

-- WHAT IT HOLDS WAS DRAWN FROM WHAT A READER SHOWS, and the reader can be read as it will be.
abbrev pub AccessFits : Access → Shown → Type 0
AccessFits (Competing v) shown = RetrievalFits v.value shown
AccessFits (Racing r) shown = RacedFits r.value shown
AccessFits (Uniting u) shown = UnitedFits u.value shown

-- what a race's trace tells, of scans of the table's indexes
pub record RacedTells (r : RacedQuery) : Type 0 where
  pub tells : RaceTells r.race
  pub known : list_all (λ i. has_index i (indexes_asked r.query)) (indexes_of r.race.plans) ≡ true

-- what a union's trace tells, of scans of the table's indexes
pub record UnitedTells (u : UnitedQuery) : Type 0 where
  pub tells : UnionTells u.union
  pub known : list_all (λ i. has_index i (indexes_asked u.query)) (united_indexes u.union.plans) ≡ true

-- WHAT THE TRACE TELLS IS ONE RUN OF THE COURSE
abbrev pub Tells : Access → Type 0
Tells (Competing v) = RetrievalTells v.value
Tells (Racing r) = RacedTells r.value
Tells (Uniting u) = UnitedTells u.value

-- where pieces are awaited a scan is under way; of a race and of a union there is nothing to say
abbrev pub Awaiting : Access → Type 0
Awaiting (Competing v) = RetrievalAwaiting v.value
Awaiting (Racing r) = Unit {0}
Awaiting (Uniting u) = Unit {0}

-- THE EFFORT: how much work it still has
abbrev pub effort : Access → Shown → ℕ
effort (Competing v) shown = retrieval_effort v.value shown
effort (Racing r) shown = race_effort r.value.race shown
effort (Uniting u) shown = union_effort u.value.union shown

-- a short index was scanned at opening: no piece is awaited, and the table is not scanned. A race and a union have
-- none.
abbrev pub Settled : Access → Type 0
Settled (Competing v) = RetrievalSettled v.value
Settled (Racing r) = ⊥
Settled (Uniting u) = ⊥

-- how many records may then still be fetched
abbrev pub fetches_left : Access → Shown → ℕ
fetches_left (Competing v) shown = retrieval_fetches v.value shown
fetches_left (Racing r) shown = 0
fetches_left (Uniting u) shown = 0

-- what is asked, the strategy and the planned scans stay
pub record SamePlans (old new : Access) : Type 0 where
  pub query : query_of new ≡ query_of old
  pub strategy : strategy_of new ≡ strategy_of old
  pub plans : planned_of new ≡ planned_of old

-- the query, the fit and the rest stay, of whatever a reader shows
pub record Keeps (old new : Access) : Type 0 where
  pub query : query_of new ≡ query_of old
  pub fits : (shown : Shown) → AccessFits old shown → AccessFits new shown
  pub rest : (shown : Shown) → AccessFits old shown → rest new shown ≡ rest old shown

-- said of two accesses of one kind
abbrev pub Alike : (Shape → Shape → Type 0) → (RacedQuery → RacedQuery → Type 0) → (UnitedQuery → UnitedQuery → Type 0)
    → Access → Access → Type 0
Alike P Q S (Competing v) (Competing w) = P v.value w.value
Alike P Q S (Competing v) (Racing s) = ⊥
Alike P Q S (Competing v) (Uniting s) = ⊥
Alike P Q S (Racing r) (Competing w) = ⊥
Alike P Q S (Racing r) (Racing s) = Q r.value s.value
Alike P Q S (Racing r) (Uniting s) = ⊥
Alike P Q S (Uniting u) (Competing w) = ⊥
Alike P Q S (Uniting u) (Racing s) = ⊥
Alike P Q S (Uniting u) (Uniting s) = S u.value s.value
