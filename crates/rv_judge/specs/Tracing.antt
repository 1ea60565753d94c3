-- What is written into a trace, and how its counts rise.
use Rattle.std.specs.Prelude.{◌≡◌, ◌-◌, List, [], ◌∷◌, ◌++◌, length, nat_lt, if◌then◌else◌}
use Rattle.rv_judge.specs.declared.counting.Counts.{Counts}
use Rattle.rv_judge.specs.declared.events.Event.{Event}
use Rattle.rv_judge.specs.declared.events.Strategy.{Strategy}
use Rattle.rv_judge.specs.declared.events.Trace.{Trace}
use Rattle.rv_judge.specs.Counting.{raised}

-- nothing was told
abbrev pub new_trace : Strategy → Trace
new_trace strategy = record { strategy = strategy; events = record { items = [] }; pages = 0; leaves = 0; fetches = 0 }

-- further events; a trace has room for 32
abbrev pub with_events : List Event → List Event → List Event
with_events told [] = told
with_events told (e ∷ es) = with_events (if nat_lt (length told) 32 then told ++ e ∷ [] else told) es

abbrev pub noted_all : Trace → List Event → Trace
noted_all t es = record t { events = record { items = with_events t.events.items es } }

abbrev pub noted : Trace → Event → Trace
noted t e = noted_all t (e ∷ [])

-- what was read between two counts
abbrev pub counted : Trace → Counts → Counts → Trace
counted t before after =
    record t {
      pages = raised t.pages (after.pages - before.pages);
      leaves = raised t.leaves (after.leaves - before.leaves);
      fetches = raised t.fetches
          (after.records - before.records);
    }

-- only events were added
pub record SameCounts (old new : Trace) : Type 0 where
  pub pages : new.pages ≡ old.pages
  pub leaves : new.leaves ≡ old.leaves
  pub fetches : new.fetches ≡ old.fetches

-- THE COUNTS OF THE TRACE RISE BY WHAT A CALL ADDS TO THE COUNTER, and stay at the greatest u64
pub record CountsRise (old new : Trace) (before after : Counts) : Type 0 where
  pub pages : new.pages ≡ raised old.pages (after.pages - before.pages)
  pub leaves : new.leaves ≡ raised old.leaves (after.leaves - before.leaves)
  pub fetches : new.fetches ≡ raised old.fetches (after.records - before.records)

-- nothing was counted yet
pub record NothingCounted (t : Trace) : Type 0 where
  pub pages : t.pages ≡ 0
  pub leaves : t.leaves ≡ 0
  pub fetches : t.fetches ≡ 0

-- THE COUNTS OF A NEW TRACE ARE WHAT THE CALL ADDED TO THE COUNTER
pub record CountsAll (t : Trace) (before after : Counts) : Type 0 where
  pub pages : t.pages ≡ raised 0 (after.pages - before.pages)
  pub leaves : t.leaves ≡ raised 0 (after.leaves - before.leaves)
  pub fetches : t.fetches ≡ raised 0 (after.records - before.records)
