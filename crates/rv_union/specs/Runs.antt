-- What the trace of a union tells.
use Rattle.std.specs.Prelude.{◌≡◌, ℕ, ◌≤◌, Bool, true, false, List, length}
use Rattle.std.specs.List.{list_all, list_any}
use Rattle.rv_judge.specs.declared.events.Control.{Control}
use Rattle.rv_judge.specs.declared.events.Control.TheVariants.{BackgroundAlone, FinalList, FinalTable, Done}
use Rattle.rv_judge.specs.declared.events.Event.{Event}
use Rattle.rv_judge.specs.declared.events.Event.TheVariants.{At, Scan, List as ListOf, Drop, Full, Stop}
use Rattle.rv_judge.specs.declared.events.Strategy.TheVariants.{Union}
use Rattle.rv_judge.specs.Runs.{EachOnce, UnionTail, has_index, tail_among, union_events}
use Rattle.rv_judge.specs.Runs.UnionTail.{Scanning, Fetching, Fetched, Reading, Read}
use Rattle.rv_jscan.specs.declared.jscan.ScanPlan.{ScanPlan}
use Rattle.rv_jscan.specs.declared.jscan.Taken.{Taken}
use Rattle.rv_jscan.specs.declared.jscan.Taken.TheVariants.{Piece, Nothing}
use Rattle.rv_jscan.specs.Planned.{indexes_of}
use Rattle.rv_union.specs.Rulings.{index_of}
use Rattle.rv_union.specs.Unioned.{Unioned, present}

-- there are at most eight different indexes, as a table has no more
pub record OfFewIndexes (plans : List ScanPlan) : Type 0 where
  pub indexes : List ℕ
  pub few : length indexes ≤ 8
  pub among : list_all (λ i. has_index i indexes) (indexes_of plans) ≡ true

-- the control at which a union stands whose trace ends so
abbrev pub tail_control : UnionTail → Control
tail_control Scanning = BackgroundAlone
tail_control (Fetching i keys) = FinalList
tail_control (Fetched i keys) = Done
tail_control (Reading i) = FinalTable
tail_control (Read i) = Done

-- WHAT THE TRACE TELLS: a Scan for each index, once, where a member was first begun on it, the present one's among
-- them; and then, as far as the union has come, the list or the drop of one of these indexes, and the end
pub record Tells (u : Unioned) : Type 0 where
  pub named : u.trace.strategy ≡ Union
  pub begun : List ℕ
  pub tail : UnionTail
  pub told : u.trace.events.items ≡ union_events begun tail
  pub at : tail_control tail ≡ u.control
  pub present : has_index (index_of u) begun ≡ true
  pub among : tail_among tail begun ≡ true
  pub once : EachOnce begun
  pub known : list_all (λ i. has_index i (indexes_of u.plans)) begun ≡ true
  pub few : OfFewIndexes u.plans

-- the events tell that the scan of an index was dropped
abbrev pub is_drop : Event → Bool
is_drop (At now) = false
is_drop (Scan i) = false
is_drop (ListOf i keys) = false
is_drop (Drop i) = true
is_drop Full = false
is_drop Stop = false

-- a piece that is handed out is of the present member, and none was dropped
abbrev pub IsOfUndropped : Unioned → Taken → Type 0
IsOfUndropped u (Piece piece) = (piece.part ≡ (present u).part) × (list_any is_drop u.trace.events.items ≡ false)
IsOfUndropped u Nothing = Unit {0}
