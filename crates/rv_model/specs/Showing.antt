-- What SHOW may answer: a trace of the course, with the names of indexes in place of their numbers.
use Rattle.std.specs.Prelude.{◌≡◌, ℕ, ◌+◌, List, [], ◌∷◌, ◌==◌, map, if◌then◌else◌}
use Rattle.rv_judge.specs.declared.events.Event.{Event}
use Rattle.rv_judge.specs.declared.events.Event.TheVariants as events
use Rattle.rv_judge.specs.declared.events.Trace.{Trace}
use Rattle.rv_judge.specs.Runs.{Allowed}
use Rattle.rv_lang.specs.declared.reply.Shown.{Shown}
use Rattle.rv_lang.specs.declared.reply.ShownEvent.{ShownEvent}
use Rattle.rv_lang.specs.declared.reply.ShownEvent.TheVariants as told
use Rattle.rv_catalog.specs.declared.def.IndexDef.{IndexDef}
use Rattle.rv_model.specs.Database.{index_at}

-- the numbers of the indexes over a table; the first index of the list has the number given
abbrev pub numbers_over : ℕ → ℕ → List IndexDef → List ℕ
numbers_over table number [] = []
numbers_over table number (d ∷ ds) = if d.table == table
    then number ∷ numbers_over table (number + 1) ds
    else numbers_over table (number + 1) ds

-- an event with its index by name
abbrev pub shown_event : List IndexDef → Event → ShownEvent
shown_event indexes (events.At control) = told.At control
shown_event indexes (events.Scan i) = told.Scan (index_at indexes i).name
shown_event indexes (events.List i keys) = told.List (index_at indexes i).name keys
shown_event indexes (events.Drop i) = told.Drop (index_at indexes i).name
shown_event indexes events.Full = told.Full
shown_event indexes events.Stop = told.Stop

-- a trace with its indexes by name
abbrev pub shown_trace : List IndexDef → Trace → Shown
shown_trace indexes t = record {
  strategy = t.strategy;
  events = map (shown_event indexes) t.events.items;
  pages = t.pages;
  leaves = t.leaves;
  fetches = t.fetches;
}

-- a trace that the course allows for the indexes over a table
pub record ShowsTrace (indexes : List IndexDef) (table : ℕ) (shown : Shown) : Type 0 where
  pub trace : Trace
  pub allowed : Allowed trace (numbers_over table 0 indexes)
  pub names : shown ≡ shown_trace indexes trace
