-- Shown events with numbers in place of names: how the code goes back from what SHOW tells.
use Rattle.std.specs.Prelude.{ℕ, List, [], ◌∷◌, Bool, ◌==◌, ◌&&◌, Option, Some, None, bytes_eq, position}
use Rattle.rv_judge.specs.declared.events.Event.{Event}
use Rattle.rv_judge.specs.declared.events.Event.TheVariants as events
use Rattle.rv_lang.specs.declared.reply.ShownEvent.{ShownEvent}
use Rattle.rv_lang.specs.declared.reply.ShownEvent.TheVariants as told
use Rattle.rv_catalog.specs.declared.def.IndexDef.{IndexDef}

-- an index of this name over a table
abbrev pub is_of : ℕ → List ℕ → IndexDef → Bool
is_of table name d = (d.table == table) && bytes_eq d.name name

abbrev pub number_of : List IndexDef → ℕ → List ℕ → Option ℕ
number_of indexes table name = position (is_of table name) indexes

abbrev pub scan_of : Option ℕ → Option Event
scan_of None = None
scan_of (Some i) = Some (events.Scan i)

abbrev pub list_of : ℕ → Option ℕ → Option Event
list_of keys None = None
list_of keys (Some i) = Some (events.List i keys)

abbrev pub drop_of : Option ℕ → Option Event
drop_of None = None
drop_of (Some i) = Some (events.Drop i)

-- the event that is shown so; none where the table has no index of the name
abbrev pub event_of : List IndexDef → ℕ → ShownEvent → Option Event
event_of indexes table (told.At control) = Some (events.At control)
event_of indexes table (told.Scan name) = scan_of (number_of indexes table name)
event_of indexes table (told.List name keys) = list_of keys (number_of indexes table name)
event_of indexes table (told.Drop name) = drop_of (number_of indexes table name)
event_of indexes table told.Full = Some events.Full
event_of indexes table told.Stop = Some events.Stop

abbrev pub with_first : Option Event → Option (List Event) → Option (List Event)
with_first (Some e) (Some es) = Some (e ∷ es)
with_first e es = None

abbrev pub events_of : List IndexDef → ℕ → List ShownEvent → Option (List Event)
events_of indexes table [] = Some []
events_of indexes table (e ∷ es) = with_first (event_of indexes table e) (events_of indexes table es)
