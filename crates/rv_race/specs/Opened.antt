-- What a race is opened over, what it then is, and what its steps do.
use Rattle.std.specs.Prelude.{◌≡◌, ℕ, ◌+◌, ◌≤◌, List, [], length, None, Result, IfOk, OnErr}
use Rattle.rv_rows.specs.Rows.{Ascend}
use Rattle.rv_value.specs.declared.duplicate.NoMemory.{NoMemory}
use Rattle.rv_value.specs.declared.record.Record.{Record}
use Rattle.rv_judge.specs.declared.counting.Counts.{Counts}
use Rattle.rv_judge.specs.declared.events.Control.{Control}
use Rattle.rv_judge.specs.declared.events.Control.TheVariants.{Building, ForegroundAlone, BackgroundAlone, FinalList, FinalTable, Done}
use Rattle.rv_judge.specs.declared.events.Happening.TheVariants.{FinalEnded}
use Rattle.rv_judge.specs.declared.events.Strategy.TheVariants.{BackgroundOnly}
use Rattle.rv_judge.specs.declared.judging.Facts.{Facts}
use Rattle.rv_judge.specs.Counting.{page_read, record_read}
use Rattle.rv_judge.specs.Runs.{EachOnce}
use Rattle.rv_judge.specs.Tracing.{SameCounts, counted}
use Rattle.rv_judge.specs.Verdicts.{Ruling}
use Rattle.rv_restrict.specs.declared.atom.Atom.{Atom}
use Rattle.rv_reader.specs.Shown.{Shown, CanRead}
use Rattle.rv_scan.specs.Due.{HaveColumns}
use Rattle.rv_scan.specs.Places.{Fits as PlaceFits, PageReads, PageTurns, Place, work}
use Rattle.rv_scan.specs.Reads.{OneAtMost}
use Rattle.rv_reader.specs.declared.step.Step.{Step}
use Rattle.rv_reader.specs.declared.step.Step.TheVariants.{Row, Working, End}
use Rattle.rv_jscan.specs.declared.jscan.ScanPlan.{ScanPlan}
use Rattle.rv_jscan.specs.declared.jscan.Given.TheVariants.{Accepted}
use Rattle.rv_jscan.specs.Joint.{no_counts, plan_at}
use Rattle.rv_jscan.specs.Pieces.{Pieced}
use Rattle.rv_jscan.specs.Steps.{eight}
use Rattle.rv_final.specs.Rest.{Steps, qualifies_at}
use Rattle.rv_final.specs.Shell.{Advances, EndsAt, first_trace}
use Rattle.rv_final.specs.Stage.{FetchesKey, Unbegun, first_key}
use Rattle.rv_final.specs.Work.{Falls}
use Rattle.rv_race.specs.Effort.{effort, keys_work}
use Rattle.rv_race.specs.Given.{Awaits, TakesLeaf, counts_read, holding, piece_read, turn_lane}
use Rattle.rv_race.specs.Raced.{PlansFit, RaceFits, Raced, SameRace, rest, rows_of}
use Rattle.rv_race.specs.Rulings.{GivesOn, gone}
use Rattle.rv_jscan.specs.Planned.{indexes_of}
use Rattle.rv_race.specs.Runs.{Tells}
use Rattle.rv_race.specs.Ways.{first_two}

-- Two to eight scans of different indexes can race over a table of a reader.
pub record CanRace (table snap : ℕ) (only : List (List Atom)) (scans : List ScanPlan) (shown : Shown) : Type 0 where
  pub ascend : Ascend (shown.rows table snap)
  pub read : CanRead shown table snap
  pub columns : HaveColumns only (shown.rows table snap)
  pub plans : PlansFit scans (qualifies_at only (shown.rows table snap)) shown snap
  pub once : EachOnce (indexes_of scans)

-- before the first piece, over a table of so many pages: the first two scans are under way
abbrev pub opened : ℕ → ℕ → List (List Atom) → List ScanPlan → ℕ → ℕ → ℕ → ℕ → Place → Raced
opened table snap only scans cursor opening pages at last = record {
  table = table;
  snap = snap;
  cursor = cursor;
  opening = opening;
  only = only;
  plans = scans;
  counts = eight no_counts;
  running = first_two;
  number = 1;
  list = None;
  control = BackgroundAlone;
  guaranteed = pages;
  at = at;
  last = last;
  trace = first_trace BackgroundOnly (plan_at scans 0).index;
}

-- A RACE THAT WAS OPENED: it has read nothing, also not of its final stage
pub record Opened (table snap : ℕ) (only : List (List Atom)) (scans : List ScanPlan) (cursor opening pages : ℕ)
    (r : Raced) : Type 0 where
  pub is : r ≡ opened table snap only scans cursor opening pages r.at r.last
  pub unbegun : Unbegun r.at r.last
  pub last_table : r.last.table ≡ table
  pub last_snap : r.last.snap ≡ snap
  pub drawn : (rows : List Record) → PlaceFits r.last rows
  pub whole : (rows : List Record) (n : ℕ) → work r.last rows n ≡ length rows + n

-- WHAT EVERY STEP KEEPS, whatever it answers. It writes no counts into the trace; its caller does.
pub record Steady (old new : Raced) (shown : Shown) : Type 0 where
  pub same : SameRace old new
  pub counts : SameCounts old.trace new.trace
  pub fits : RaceFits new shown
  pub tells : Tells old → Tells new

-- WHAT A STEP DOES TO THE REST: it takes one record out, or leaves it, or it is empty
abbrev pub DoesStep : Raced → Raced → Shown → Step Record → Type 0
DoesStep old new shown scanned = (need : List ℕ) → Steps need [] scanned (rest old shown) (rest new shown)

-- an end leads to the last control
abbrev pub EndsIn : Raced → Step Record → Type 0
EndsIn r scanned = EndsAt r.control scanned

-- a source at its end leads to the last control
abbrev pub ended_by : Step Record → Raced → Raced
ended_by (Row record_found) r = r
ended_by Working r = r
ended_by End r = gone FinalEnded r

-- the awaited piece, which is a leaf and so has at most 48 entries, is taken, sieved and given
pub record OnePiece (would : ℕ → Facts → Ruling) (state after : ℕ) (old new : Raced) : Type 0 where
  pub taken : Raced
  pub piece : Pieced
  pub leaves : TakesLeaf old taken
  pub awaits : Awaits taken piece
  pub obeys : GivesOn would state after piece Accepted taken new
  pub short : length piece.entries ≤ 48

-- WHAT A STEP DOES AND READS, by the control: one piece, upon which the judge is asked and obeyed as by a give; the
-- fetch of the next key of the complete list, which is then behind it; a step through the table, where a page that is
-- read was there and is then behind it; or nothing
abbrev pub DoesAs : Control → (ℕ → Facts → Ruling) → ℕ → ℕ → Shown → Counts → Counts → Step Record → Raced → Raced → Type 0
DoesAs Building would state after shown c d s old new = ⊥
DoesAs ForegroundAlone would state after shown c d s old new = ⊥
DoesAs BackgroundAlone would state after shown c d s old new =
    (s ≡ Working) × OnePiece would state after old new × (d ≡ piece_read old c)
DoesAs FinalList would state after shown c d s old new =
    (after ≡ state) × FetchesKey (first_key old.list None old.at) old.only (rows_of old shown) c d s
    × (new ≡ ended_by s (record old { at = new.at })) × Falls s c d (keys_work old) (keys_work new)
DoesAs FinalTable would state after shown c d s old new =
    (after ≡ state) × PageReads s c d × (new ≡ ended_by s (record old { last = new.last }))
    × PageTurns s old.last new.last (shown.pages old.table old.snap)
DoesAs Done would state after shown c d s old new = (after ≡ state) × (s ≡ End) × (d ≡ c) × (new ≡ old)

abbrev pub Does : (ℕ → Facts → Ruling) → ℕ → ℕ → Shown → Counts → Counts → Step Record → Raced → Raced → Type 0
Does would state after shown c d s old new = DoesAs old.control would state after shown c d s old new

-- what a step may read, whatever it answers
abbrev pub MayRead : Control → Raced → Counts → Counts → Type 0
MayRead Building r c d = d ≡ c
MayRead ForegroundAlone r c d = d ≡ c
MayRead BackgroundAlone r c d = d ≡ piece_read r c
MayRead FinalList r c d = OneAtMost record_read c d
MayRead FinalTable r c d = OneAtMost page_read c d
MayRead Done r c d = d ≡ c

-- WHAT A STEP LEAVES THAT FOUND NO MEMORY: the awaited leaf may have been taken. No piece is accepted and no scan ends.
pub record OnlyTakes (old new : Raced) : Type 0 where
  pub same : new
      ≡ record (holding (turn_lane new).held old) { counts = counts_read old; at = new.at; trace = new.trace }
  pub named : new.trace.strategy ≡ old.trace.strategy
  pub events : new.trace.events ≡ old.trace.events
  pub fewer : keys_work new ≤ keys_work old

-- WHAT HOLDS OF A STEP, before what it read is counted
pub record StageStep (would : ℕ → Facts → Ruling) (state after : ℕ) (shown : Shown) (c d : Counts)
    (r : Result (Step Record) NoMemory) (old new : Raced) : Type 0 where
  pub does : IfOk r (λ s. Does would state after shown c d s old new)
  pub steady : Steady old new shown
  pub goes : Advances new.control c d r (rest old shown) (rest new shown) (effort old shown) (effort new shown)
  pub still : OnErr r (OnlyTakes old new)
  pub quiet : OnErr r (after ≡ state)
  pub may_read : MayRead old.control old c d

-- what it does, and then what it read is counted
pub record StepsAs (would : ℕ → Facts → Ruling) (state after : ℕ) (shown : Shown) (c d : Counts) (s : Step Record)
    (old new : Raced) : Type 0 where
  pub stepped : Raced
  pub does : Does would state after shown c d s old stepped
  pub counts : new ≡ record stepped { trace = counted stepped.trace c d }
