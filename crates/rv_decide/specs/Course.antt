-- How the events of a trace are read, one after another. Nothing of this has to be believed: the clause of is_allowed
-- speaks of the allowed traces alone.
use Rattle.std.specs.Prelude.{ℕ, List, [], ◌∷◌, Bool, true, false, if◌then◌else◌, ◌&&◌, ◌||◌, Option, Some, None, is_some, not, nat_eq, nat_lt}
use Rattle.std.specs.List.{list_all, list_any}
use Rattle.rv_judge.specs.declared.events.Strategy.{Strategy}
use Rattle.rv_judge.specs.declared.events.Strategy.TheVariants.{Table, BackgroundOnly, FastFirst, Sorted, IndexOnly, Union}
use Rattle.rv_judge.specs.declared.events.Control.{Control}
use Rattle.rv_judge.specs.declared.events.Control.TheVariants.{Building, ForegroundAlone, BackgroundAlone, FinalList, FinalTable, Done}
use Rattle.rv_judge.specs.declared.events.Event.{Event}
use Rattle.rv_judge.specs.declared.events.Event.TheVariants.{At, Scan, List as ListOf, Drop, Full as FullEvent, Stop}
use Rattle.rv_judge.specs.declared.judging.Verdict.TheVariants.{AbandonScan, AbandonForeground, AbandonBackground}
use Rattle.rv_judge.specs.declared.events.Happening.{Happening}
use Rattle.rv_judge.specs.declared.events.Happening.TheVariants.{ScanEnded, Ruled, Full, FrontEnded, FinalEnded}
use Rattle.rv_judge.specs.Course.{next_control}
use Rattle.rv_judge.specs.Runs.{first_control, scans, has_index}
use Rattle.rv_decide.specs.declared.course.Place.{Place}

-- The scans that begin.

-- the indexes whose scans begin, in their order
abbrev pub begun_by : List Event → List ℕ
begun_by [] = []
begun_by (Scan i ∷ es) = i ∷ begun_by es
begun_by (e ∷ es) = begun_by es

-- an event begins no scan but of these indexes
abbrev pub is_known : List ℕ → Event → Bool
is_known indexes (Scan i) = has_index i indexes
is_known indexes e = true

-- an event begins a scan of this index
abbrev pub begins_scan : ℕ → Event → Bool
begins_scan i (Scan j) = nat_eq j i
begins_scan i e = false

-- no later event begins the scan that an event begins
abbrev pub is_last : Event → List Event → Bool
is_last (Scan i) es = not (list_any (begins_scan i) es)
is_last e es = true

-- no scan begins twice
abbrev pub are_apart : List Event → Bool
are_apart [] = true
are_apart (e ∷ es) = is_last e es && are_apart es

-- The controls.

abbrev pub rank : Control → ℕ
rank Building = 0
rank ForegroundAlone = 1
rank BackgroundAlone = 2
rank FinalList = 3
rank FinalTable = 4
rank Done = 5

abbrev pub same_control : Control → Control → Bool
same_control a b = nat_eq (rank a) (rank b)

-- a happening leads to a control, and that is another one
abbrev pub leads : Strategy → Control → Happening → Control → Bool
leads strategy now happening to = same_control (next_control strategy now happening) to && not (same_control to now)

-- Where the reading stands.

-- the scan of this index is under way
abbrev pub is_scanning : Option ℕ → ℕ → Bool
is_scanning None i = false
is_scanning (Some j) i = nat_eq j i

-- a further scan may begin beside the complete list
abbrev pub may_narrow : Option ℕ → Bool
may_narrow None = true
may_narrow (Some keys) = nat_lt 0 keys

-- what the scan, the buffer or the foreground came to leads to a control
abbrev pub leads_to : Strategy → Place → Event → Control → Bool
leads_to strategy p (ListOf i keys) to = is_scanning p.scan i && leads strategy p.control (ScanEnded false true) to
leads_to strategy p (Drop i) to =
    is_scanning p.scan i
    && (leads strategy p.control (Ruled AbandonScan false (is_some p.listed)) to
    || leads strategy p.control (Ruled AbandonBackground false (is_some p.listed)) to)
leads_to strategy p Stop to =
    is_some p.scan && leads strategy p.control (Ruled AbandonForeground false (is_some p.listed)) to
leads_to strategy p FullEvent to = leads strategy p.control Full to
leads_to strategy p e to = false

-- what the scan came to leads to a further scan
abbrev pub goes_on : Place → Event → Bool
goes_on p (ListOf i keys) = is_scanning p.scan i && nat_lt 0 keys
goes_on p (Drop i) = is_scanning p.scan i && may_narrow p.listed
goes_on p e = false

-- the side that delivers is at its end
abbrev pub ends_at : Strategy → Place → Control → Bool
ends_at strategy p to = leads strategy p.control FrontEnded to || leads strategy p.control FinalEnded to

-- an event may come where it is still to be told to what another one led
abbrev pub may_follow : Strategy → Place → Event → Event → Bool
may_follow strategy p own (At to) = leads_to strategy p own to
may_follow strategy p own (Scan i) = goes_on p own
may_follow strategy p own e = false

-- an event may come where nothing is still to be told
abbrev pub may_begin : Strategy → Place → Event → Bool
may_begin strategy p (At to) = ends_at strategy p to
may_begin strategy p (Scan i) = false
may_begin strategy p e = true

abbrev pub may_come_after : Option Event → Strategy → Place → Event → Bool
may_come_after None strategy p e = may_begin strategy p e
may_come_after (Some own) strategy p e = may_follow strategy p own e

-- the length of the complete list after what a scan came to
abbrev pub listed_by : Option Event → Option ℕ → Option ℕ
listed_by (Some (ListOf i keys)) before = Some keys
listed_by own before = before

-- where the reading stands after an event
abbrev pub passed : Place → Event → Place
passed p (At to) =
    record { control = to; scan = if scans to then p.scan else None; listed = listed_by p.own p.listed; own = None }
passed p (Scan i) = record { control = p.control; scan = Some i; listed = listed_by p.own p.listed; own = None }
passed p e = record { control = p.control; scan = p.scan; listed = p.listed; own = Some e }

-- events may come from here on, and to what the last one led is told
abbrev pub reads : Strategy → Place → List Event → Bool
reads strategy p [] = not (is_some p.own)
reads strategy p (e ∷ es) = may_come_after p.own strategy p e && reads strategy (passed p e) es

-- where the reading stands after the first control, and the first scan, if there is one
abbrev pub place_at : Control → Option ℕ → Place
place_at control scan = record { control = control; scan = scan; listed = None; own = None }

-- after the first control
abbrev pub reads_at : Strategy → Control → List Event → Bool
reads_at strategy control (Scan i ∷ es) =
    same_control control (first_control strategy (i ∷ [])) && scans control
    && reads strategy (place_at control (Some i)) es
reads_at strategy control es =
    same_control control (first_control strategy []) && not (scans control) && reads strategy (place_at control None) es

-- from the first control on
abbrev pub reads_all : Strategy → List Event → Bool
reads_all strategy (At control ∷ es) = reads_at strategy control es
reads_all strategy es = false

-- A union tells the scans of its indexes, and then what they came to.

abbrev pub is_scan : Event → Bool
is_scan (Scan i) = true
is_scan e = false

-- nothing follows, or the last control
abbrev pub is_over : List Event → Bool
is_over [] = true
is_over (At to ∷ []) = same_control to Done
is_over es = false

-- what follows leads to this control, and perhaps to the last one
abbrev pub ends_in : Control → List Event → Bool
ends_in control (At to ∷ es) = same_control to control && is_over es
ends_in control es = false

-- the list, or the drop, of an index that some of all events tells
abbrev pub ends_by : List Event → Event → List Event → Bool
ends_by all (ListOf i keys) es = list_any (begins_scan i) all && ends_in FinalList es
ends_by all (Drop i) es = list_any (begins_scan i) all && ends_in FinalTable es
ends_by all e es = false

abbrev pub reads_tail : List Event → List Event → Bool
reads_tail all [] = true
reads_tail all (e ∷ es) = if is_scan e then reads_tail all es else ends_by all e es

abbrev pub reads_scans : List Event → Bool
reads_scans (Scan i ∷ es) = reads_tail (Scan i ∷ es) es
reads_scans es = false

abbrev pub reads_union : List Event → Bool
reads_union (At control ∷ es) = same_control control BackgroundAlone && reads_scans es
reads_union es = false

abbrev pub reads_by : Strategy → List Event → Bool
reads_by Table es = reads_all Table es
reads_by BackgroundOnly es = reads_all BackgroundOnly es
reads_by FastFirst es = reads_all FastFirst es
reads_by Sorted es = reads_all Sorted es
reads_by IndexOnly es = reads_all IndexOnly es
reads_by Union es = reads_union es

-- the events are those of some run, or of a union, whose scans are of these indexes and begin at most once each
abbrev pub is_read : Strategy → List Event → List ℕ → Bool
is_read strategy events indexes = list_all (is_known indexes) events && are_apart events && reads_by strategy events
