-- What a step of an access does and reads.
use Rattle.std.specs.Prelude.{◌≡◌, ℕ}
use Rattle.rv_judge.specs.declared.counting.Counts.{Counts}
use Rattle.rv_judge.specs.declared.judging.Facts.{Facts}
use Rattle.rv_judge.specs.Verdicts.{Ruling}
use Rattle.rv_reader.specs.Shown.{Shown}
use Rattle.rv_reader.specs.declared.step.Step.{Step}
use Rattle.rv_value.specs.declared.record.Record.{Record}
use Rattle.rv_final.specs.Rest.{Steps}
use Rattle.rv_retrieval.specs.Runs.{SameCourse as RetrievalCourse}
use Rattle.rv_retrieval.specs.Stepping.{MayReadIts as RetrievalReads, OnlyTakes as RetrievalOnly, StepsAs as RetrievalSteps}
use Rattle.rv_race.specs.Given.{turn_scan}
use Rattle.rv_race.specs.Opened.{MayRead as RaceReads, OnlyTakes as RaceOnly, StepsAs as RaceSteps}
use Rattle.rv_race.specs.Raced.{SameRace}
use Rattle.rv_union.specs.Opened.{MayRead as UnionReads, OnlyTakes as UnionOnly, StepsAs as UnionSteps}
use Rattle.rv_union.specs.Unioned.{SameUnion}
use Rattle.rv_access.specs.declared.access.Access.{Access}
use Rattle.rv_access.specs.declared.access.Access.TheVariants.{Competing, Racing, Uniting}
use Rattle.rv_access.specs.declared.racing.RacedQuery.{RacedQuery}
use Rattle.rv_access.specs.declared.uniting.UnitedQuery.{UnitedQuery}
use Rattle.rv_access.specs.Accesses.{Alike, Settled, fetches_left, query_of, rest}

-- WHAT A STEP GIVES: it takes one record out of the rest, least in the order columns, or leaves the rest, or the rest
-- is empty
abbrev pub GivesStep : Access → Access → Shown → Step Record → Type 0
GivesStep old new shown step =
    Steps (query_of old).need (query_of old).order step (rest old shown) (rest new shown)

-- a step of a race, which keeps what is asked, the planned scans and the names of the pieces
pub record RacedSteps (would : ℕ → Facts → Ruling) (state after : ℕ) (shown : Shown) (c d : Counts) (fg : Step Record)
    (old new : RacedQuery) : Type 0 where
  pub same : new ≡ record old { race = new.race }
  pub steps : RaceSteps would state after shown c d fg old.race new.race
  pub kept : SameRace old.race new.race

-- a step of a union, likewise
pub record UnitedSteps (would : ℕ → Facts → Ruling) (state after : ℕ) (shown : Shown) (c d : Counts) (fg : Step Record)
    (old new : UnitedQuery) : Type 0 where
  pub same : new ≡ record old { union = new.union }
  pub steps : UnionSteps would state after shown c d fg old.union new.union
  pub kept : SameUnion old.union new.union

-- WHAT A STEP DOES AND READS, and that it is then counted
abbrev pub StepsAs : (ℕ → Facts → Ruling) → ℕ → ℕ → Shown → Counts → Counts → Step Record → Access → Access → Type 0
StepsAs would state after shown c d fg old new =
    Alike (RetrievalSteps would state after shown c d fg) (RacedSteps would state after shown c d fg)
    (UnitedSteps would state after shown c d fg) old new

-- what a step may read, whatever it answers
abbrev pub MayReadIts : Access → Counts → Counts → Type 0
MayReadIts (Competing v) c d = RetrievalReads v.value c d
MayReadIts (Racing r) c d = RaceReads r.value.race.control r.value.race c d
MayReadIts (Uniting u) c d = UnionReads u.value.union.control u.value.union c d

-- a race that only took
pub record RacedOnly (old new : RacedQuery) : Type 0 where
  pub same : new ≡ record old { race = new.race }
  pub only : RaceOnly old.race new.race

-- a union that only took
pub record UnitedOnly (old new : UnitedQuery) : Type 0 where
  pub same : new ≡ record old { union = new.union }
  pub only : UnionOnly old.union new.union

-- WHAT A STEP LEAVES THAT FOUND NO MEMORY: the awaited leaf may have been taken, and keys passed over. No piece is
-- accepted.
abbrev pub OnlyTakes : Access → Access → Type 0
OnlyTakes old new = Alike RetrievalOnly RacedOnly UnitedOnly old new

-- the control, the scans and the events of a race stay
pub record RacedCourse (old new : RacedQuery) : Type 0 where
  pub query : new.query ≡ old.query
  pub control : new.race.control ≡ old.race.control
  pub plans : new.race.plans ≡ old.race.plans
  pub turn : turn_scan new.race ≡ turn_scan old.race
  pub other : new.race.running.other ≡ old.race.running.other
  pub list : new.race.list ≡ old.race.list
  pub named : new.race.trace.strategy ≡ old.race.trace.strategy
  pub events : new.race.trace.events ≡ old.race.trace.events

-- the control, the members, the keys and the events of a union stay
pub record UnitedCourse (old new : UnitedQuery) : Type 0 where
  pub query : new.query ≡ old.query
  pub control : new.union.control ≡ old.union.control
  pub plans : new.union.plans ≡ old.union.plans
  pub member : new.union.member ≡ old.union.member
  pub lane : new.union.lane ≡ record old.union.lane { held = new.union.lane.held }
  pub keys : new.union.keys ≡ old.union.keys
  pub named : new.union.trace.strategy ≡ old.union.trace.strategy
  pub events : new.union.trace.events ≡ old.union.trace.events

-- THE CONTROL, THE SCANS AND THE EVENTS STAY
abbrev pub SameCourse : Access → Access → Type 0
SameCourse old new = Alike RetrievalCourse RacedCourse UnitedCourse old new

-- WHAT A TAKE DOES WHERE A SHORT INDEX WAS SCANNED AT OPENING: it reads nothing, and what may be fetched stays
pub record SettledTake (shown : Shown) (c d : Counts) (old new : Access) : Type 0 where
  pub settled : Settled new
  pub unread : d ≡ c
  pub same : fetches_left new shown ≡ fetches_left old shown
