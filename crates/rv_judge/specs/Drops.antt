-- Scans that were dropped.
use Rattle.std.specs.Prelude.{ℕ, List, Bool, false, nat_eq}
use Rattle.std.specs.List.{list_any}
use Rattle.rv_judge.specs.declared.events.Event.{Event}
use Rattle.rv_judge.specs.declared.events.Event.TheVariants.{At, Scan, List as ListOf, Drop, Full, Stop}

-- the events tell that the scan of an index was dropped
abbrev pub is_drop : ℕ → Event → Bool
is_drop index (At now) = false
is_drop index (Scan k) = false
is_drop index (ListOf k keys) = false
is_drop index (Drop k) = nat_eq k index
is_drop index Full = false
is_drop index Stop = false

abbrev pub was_dropped : ℕ → List Event → Bool
was_dropped index events = list_any (is_drop index) events
