-- How much work scans and a final stage still have, and what steps spend of it.
use Rattle.std.specs.Prelude.{◌≡◌, ℕ, ◌+◌, ◌*◌, ◌<◌, ◌≤◌, List, [], ◌∷◌, length, Option, Some, None}
use Rattle.rv_value.specs.declared.record.IndexEntry.{IndexEntry}
use Rattle.rv_judge.specs.declared.counting.Counts.{Counts}
use Rattle.rv_judge.specs.declared.events.Control.{Control}
use Rattle.rv_judge.specs.declared.events.Control.TheVariants.{Building, ForegroundAlone, BackgroundAlone, FinalList, FinalTable, Done}
use Rattle.rv_judge.specs.Counting.{reads}
use Rattle.rv_reader.specs.declared.reader.Chunk.{Chunk}
use Rattle.rv_reader.specs.Leaves.{leaves_from, run_from}
use Rattle.rv_reader.specs.Shown.{Shown}
use Rattle.rv_reader.specs.declared.step.Step.{Step}
use Rattle.rv_value.specs.declared.record.Record.{Record}
use Rattle.rv_reader.specs.declared.step.Step.TheVariants.{Row, Working, End}
use Rattle.rv_jscan.specs.declared.jscan.Given.{Given}
use Rattle.rv_jscan.specs.declared.jscan.Given.TheVariants.{Accepted, Stale}
use Rattle.rv_jscan.specs.declared.jscan.ScanPlan.{ScanPlan}
use Rattle.rv_jscan.specs.Lanes.{Laned, no_lane}

-- the entries that a scan has still to sieve
abbrev pub ahead : ScanPlan → Shown → ℕ → Laned → List IndexEntry
ahead plan shown snap l = run_from (shown.entries plan.index snap) plan.range l.place

-- Each leaf of a scan is read, and given back as a piece; the row of each of its entries may be fetched.
abbrev pub lane_work : ScanPlan → Shown → ℕ → Laned → ℕ
lane_work plan shown snap l =
    2 * leaves_from (shown.cuts plan.index snap) l.place + length (ahead plan shown snap l) + length l.building

-- whole scans
abbrev pub planned_work : List ScanPlan → Shown → ℕ → ℕ
planned_work [] shown snap = 0
planned_work (plan ∷ plans) shown snap = lane_work plan shown snap no_lane + planned_work plans shown snap

-- whether the awaited leaf is still to be read
abbrev pub to_read : Option Chunk → ℕ
to_read None = 1
to_read (Some chunk) = 0

-- the effort at each control where both sides do not run: of the scans, of the list of keys, of the table
abbrev pub effort_by : Control → ℕ → ℕ → ℕ → ℕ
effort_by Building scans keys table = 0
effort_by ForegroundAlone scans keys table = 0
effort_by BackgroundAlone scans keys table = scans
effort_by FinalList scans keys table = keys
effort_by FinalTable scans keys table = table
effort_by Done scans keys table = 0

-- WHAT A STEP SPENDS: it lowers the effort by at least its reads, and unless it ends by at least one
abbrev pub Spends : Step Record → Counts → Counts → ℕ → ℕ → Type 0
Spends (Row r) before after old new = (reads after + new ≤ reads before + old) × (new < old)
Spends Working before after old new = (reads after + new ≤ reads before + old) × (new < old)
Spends End before after old new = (reads after + new ≤ reads before + old) × (new ≤ old)

-- an accepted piece lowers the effort; another one changes nothing
abbrev pub GiveSpends : Given → ℕ → ℕ → Type 0
GiveSpends Accepted old new = new < old
GiveSpends (Stale asked now) old new = new ≡ old
