-- What a retrieval writes into its trace.
use Rattle.std.specs.Prelude.{ℕ, Bool, ◌&&◌, ◌||◌, List, [], ◌∷◌, length, nat_lt, Option, Some, None, if◌then◌else◌}
use Rattle.rv_judge.specs.declared.events.Event.{Event}
use Rattle.rv_judge.specs.declared.events.Event.TheVariants.{Scan, List as ListOf, Drop}
use Rattle.rv_judge.specs.declared.events.Trace.{Trace}
use Rattle.rv_judge.specs.Course.{building, fast_first, index_only}
use Rattle.rv_judge.specs.Tracing.{noted_all}
use Rattle.rv_jscan.specs.Joint.{Joint, plan_at}
use Rattle.rv_retrieval.specs.Shape.{Shape}

-- the index of a planned scan
abbrev pub index_of : Joint → ℕ → Option ℕ
index_of j scan = if nat_lt scan (length j.plans) then Some (plan_at j.plans scan).index else None

abbrev pub events_for : (ℕ → Event) → Option ℕ → List Event
events_for event None = []
events_for event (Some index) = event index ∷ []

-- the present scan begins; a scan completed with so many keys; a scan was dropped
abbrev pub noted_scan : Trace → Joint → Trace
noted_scan t j = noted_all t (events_for Scan (index_of j j.ended))

abbrev pub noted_list : Trace → Joint → ℕ → ℕ → Trace
noted_list t j scan keys = noted_all t (events_for (λ index. ListOf index keys) (index_of j scan))

abbrev pub noted_drop : Trace → Joint → ℕ → Trace
noted_drop t j scan = noted_all t (events_for Drop (index_of j scan))

abbrev pub list_len : Option (List ℕ) → ℕ
list_len None = 0
list_len (Some keys) = length keys

-- the verdict AbandonForeground has a row in the table of the course
abbrev pub can_stop : Shape → Bool
can_stop v = building v.control && (fast_first v.strategy || index_only v.strategy)
