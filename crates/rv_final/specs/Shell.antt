-- WHAT STANDS AROUND THE SCANS OF A RETRIEVAL THAT HAS NO FOREGROUND, the records that it still owes, and what a step of
-- its final stage does. What is asked and the complete list are lent to it.
use Rattle.std.specs.Prelude.{◌≡◌, ◌⊎◌, ℕ, ◌-◌, ◌≤◌, Bool, true, false, List, [], length, take, Option, None, Result, IfOk, OnErr}
use Rattle.rv_value.specs.declared.duplicate.NoMemory.{NoMemory}
use Rattle.rv_value.specs.declared.record.Record.{Record}
use Rattle.rv_rows.specs.Rows.{Ascend}
use Rattle.rv_judge.specs.declared.counting.Counts.{Counts}
use Rattle.rv_judge.specs.declared.events.Control.{Control}
use Rattle.rv_judge.specs.declared.events.Control.TheVariants.{Building, ForegroundAlone, BackgroundAlone, FinalList, FinalTable, Done}
use Rattle.rv_judge.specs.declared.events.Event.TheVariants.{At, Scan}
use Rattle.rv_judge.specs.declared.events.Happening.{Happening}
use Rattle.rv_judge.specs.declared.events.Strategy.{Strategy}
use Rattle.rv_judge.specs.declared.events.Trace.{Trace}
use Rattle.rv_judge.specs.Counting.{page_read, record_read}
use Rattle.rv_judge.specs.Course.{next_control}
use Rattle.rv_judge.specs.Tracing.{new_trace, noted}
use Rattle.rv_restrict.specs.declared.atom.Atom.{Atom}
use Rattle.rv_reader.specs.Shown.{CanRead, Shown}
use Rattle.rv_scan.specs.Due.{HaveColumns}
use Rattle.rv_scan.specs.Places.{PageReads, PageTurns, Place, work}
use Rattle.rv_scan.specs.Reads.{OneAtMost}
use Rattle.rv_reader.specs.declared.step.Step.{Step}
use Rattle.rv_reader.specs.declared.step.Step.TheVariants.{Row, Working, End}
use Rattle.rv_final.specs.LaneWork.{effort_by}
use Rattle.rv_final.specs.Rest.{Steps, rest_by}
use Rattle.rv_final.specs.Stage.{FetchesKey, LastFits, Unbegun, first_key, keys_left, list_left, table_left}
use Rattle.rv_final.specs.Work.{Falls, Tries}

-- `control` tells which side runs, `at` counts the keys of the complete list that the final stage has passed, and `last`
-- is the final scan of the table.
pub record Shelled : Type 0 where
  pub control : Control
  pub at : ℕ
  pub last : Place
  pub trace : Trace

-- whether scans are under way
abbrev pub scanning : Control → Bool
scanning Building = false
scanning ForegroundAlone = false
scanning BackgroundAlone = true
scanning FinalList = false
scanning FinalTable = false
scanning Done = false

-- the controls where no foreground runs
abbrev pub unfronted : Control → Bool
unfronted Building = false
unfronted ForegroundAlone = false
unfronted BackgroundAlone = true
unfronted FinalList = true
unfronted FinalTable = true
unfronted Done = true

-- WHAT IT HOLDS WAS DRAWN FROM WHAT A READER SHOWS OF THE TABLE, and the table can be read as it will be
pub record ShellFits (table snap : ℕ) (only : List (List Atom)) (shown : Shown) (s : Shelled) : Type 0 where
  pub ascend : Ascend (shown.rows table snap)
  pub read : CanRead shown table snap
  pub columns : HaveColumns only (shown.rows table snap)
  pub last : LastFits table snap s.last shown
  pub unbegun : scanning s.control ≡ true → Unbegun s.at s.last
  pub stands : unfronted s.control ≡ true

-- the controls of the final stage
abbrev pub IsFinal : Control → Type 0
IsFinal c = (c ≡ FinalList) ⊎ (c ≡ FinalTable)

-- whether a row is still to be given, if it qualifies: each one while scans are under way, then those of the keys left
-- of the complete list, or on the pages left of the table
abbrev pub left_by : Control → Option (List ℕ) → ℕ → Place → List Record → ℕ → Bool
left_by Building list at last rows n = false
left_by ForegroundAlone list at last rows n = false
left_by BackgroundAlone list at last rows n = true
left_by FinalList list at last rows n = list_left list None at n
left_by FinalTable list at last rows n = table_left last rows None n
left_by Done list at last rows n = false

-- THE REST: the records that qualify and are still to be given, in ascending row number
abbrev pub rest : List (List Atom) → List Record → Option (List ℕ) → Shelled → List Record
rest only rows list s = rest_by (left_by s.control list s.at s.last rows) only rows

-- the keys that the final stage has still to pass, and its scan of the table
abbrev pub keys_work : Option (List ℕ) → Shelled → ℕ
keys_work list s = length (keys_left list s.at)

abbrev pub table_work : List Record → ℕ → Shelled → ℕ
table_work rows pages s = work s.last rows pages

-- THE EFFORT of the final stage
abbrev pub final_work : List Record → ℕ → Option (List ℕ) → Shelled → ℕ
final_work rows pages list s = effort_by s.control 0 (keys_work list s) (table_work rows pages s)

-- a trace begins with the control and the first index that is scanned
abbrev pub first_trace : Strategy → ℕ → Trace
first_trace strategy index = noted (noted (new_trace strategy) (At BackgroundAlone)) (Scan index)

-- the last event is taken away
abbrev pub unnoted : Trace → Trace
unnoted t = record t { events = record { items = take (length t.events.items - 1) t.events.items } }

-- the control is that of the course, and the trace tells it
abbrev pub gone : Strategy → Happening → Shelled → Shelled
gone strategy happening s =
    record s {
      control = next_control strategy s.control happening;
      trace = noted s.trace (At (next_control strategy s.control happening));
    }

-- the final stage is over, and the trace tells it
abbrev pub ended : Shelled → Shelled
ended s = record s { control = Done; trace = noted s.trace (At Done) }

abbrev pub ended_by : Step Record → Shelled → Shelled
ended_by (Row r) s = s
ended_by Working s = s
ended_by End s = ended s

-- keys or rows were passed
abbrev pub moved : Shelled → Shelled → Shelled
moved old new = record old { at = new.at; last = new.last }

-- an end leads to the last control
abbrev pub EndsAt : Control → Step Record → Type 0
EndsAt c (Row r) = Unit {0}
EndsAt c Working = Unit {0}
EndsAt c End = c ≡ Done

-- WHAT A STEP COMES TO, over what is still to be given and the effort, before and after: it takes one record out of the
-- rest, or leaves it, or the rest is empty and the last control comes; where no memory is found the rest stays
pub record Advances (control : Control) (c d : Counts) (r : Result (Step Record) NoMemory) (was left : List Record)
    (before after : ℕ) : Type 0 where
  pub step : IfOk r (λ s. (need : List ℕ) → Steps need [] s was left)
  pub ends : IfOk r (EndsAt control)
  pub err : OnErr r (left ≡ was)
  pub tries : Tries c d before after
  pub falls : IfOk r (λ s. Falls s c d before after)

-- WHAT A STEP DOES AND READS, by the control: the fetch of the next key of the complete list, which is then behind it,
-- or a step through the table, where a page that is read was there and is then behind it
abbrev pub FinalDoes : Control → List (List Atom) → List Record → ℕ → Option (List ℕ) → Counts → Counts → Step Record → Shelled
    → Shelled → Type 0
FinalDoes Building only rows pages list c d s old new = ⊥
FinalDoes ForegroundAlone only rows pages list c d s old new = ⊥
FinalDoes BackgroundAlone only rows pages list c d s old new = ⊥
FinalDoes FinalList only rows pages list c d s old new =
    FetchesKey (first_key list None old.at) only rows c d s × (new ≡ ended_by s (record old { at = new.at }))
    × Falls s c d (keys_work list old) (keys_work list new)
FinalDoes FinalTable only rows pages list c d s old new =
    PageReads s c d × (new ≡ ended_by s (record old { last = new.last })) × PageTurns s old.last new.last pages
FinalDoes Done only rows pages list c d s old new = ⊥

-- what it may read, whatever it answers
abbrev pub FinalReads : Control → Counts → Counts → Type 0
FinalReads Building c d = d ≡ c
FinalReads ForegroundAlone c d = d ≡ c
FinalReads BackgroundAlone c d = d ≡ c
FinalReads FinalList c d = OneAtMost record_read c d
FinalReads FinalTable c d = OneAtMost page_read c d
FinalReads Done c d = d ≡ c

-- what is left where no memory is found: keys of the list may have been passed over
pub record OnlyPasses (list : Option (List ℕ)) (old new : Shelled) : Type 0 where
  pub same : new ≡ record old { at = new.at }
  pub fewer : keys_work list new ≤ keys_work list old

-- WHAT HOLDS OF A STEP OF THE FINAL STAGE, over the rows and pages of its table
pub record FinalStep (table snap : ℕ) (only : List (List Atom)) (list : Option (List ℕ)) (shown : Shown)
    (c d : Counts) (r : Result (Step Record) NoMemory) (old new : Shelled) : Type 0 where
  pub does : IfOk r (λ s. FinalDoes old.control only (shown.rows table snap) (shown.pages table snap) list c d s old new)
  pub moves : (new ≡ moved old new) ⊎ (new ≡ ended (moved old new))
  pub last : LastFits table snap new.last shown
  pub goes : Advances new.control c d r (rest only (shown.rows table snap) list old)
      (rest only (shown.rows table snap) list new)
      (final_work (shown.rows table snap) (shown.pages table snap) list old)
      (final_work (shown.rows table snap) (shown.pages table snap) list new)
  pub still : OnErr r (OnlyPasses list old new)
  pub may_read : FinalReads old.control c d
