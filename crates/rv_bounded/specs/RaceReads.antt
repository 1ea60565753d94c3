-- HOW MUCH A RACE READS IN ALL UNDER JUDGES THAT ARE BOUNDED.
use Rattle.std.specs.Prelude.{◌≡◌, ℕ, ◌+◌, ◌*◌, ◌^◌, ◌<◌, ◌≤◌, List, [], ◌∷◌, length}
use Rattle.rv_judge.specs.declared.judging.Facts.{Facts}
use Rattle.rv_judge.specs.Verdicts.{Ruling}
use Rattle.rv_restrict.specs.declared.atom.Atom.{Atom}
use Rattle.rv_reader.specs.Shown.{Shown}
use Rattle.rv_jscan.specs.declared.jscan.ScanPlan.{ScanPlan}
use Rattle.rv_race.specs.Opened.{Opened}
use Rattle.rv_race.specs.Raced.{RaceFits, Raced}
use Rattle.rv_bounded.specs.Bounds.{reads_told}
use Rattle.rv_bounded.specs.Calls.{Call, lost_by}
use Rattle.rv_bounded.specs.Calls.Call.{Step, StepLost, Take, TakeLost, Give}
use Rattle.rv_bounded.specs.Races.{RaceDoesAll, RaceDoesCall}

-- A CALL OVER A TABLE OF SO MANY PAGES: a step reads such a one, and behind a take, and a step for which no memory is
-- found, what the race holds was drawn from what a reader shows
abbrev pub RaceOver : (call : Call) (would : ℕ → Facts → Ruling) (pages : ℕ) (old new : Raced)
    → RaceDoesCall call would old new → Type 0
RaceOver Step would pages old new does = does.shown.pages old.table old.snap ≡ pages
RaceOver StepLost would pages old new does = (shown : Shown) × RaceFits new shown
RaceOver Take would pages old new does = (shown : Shown) × RaceFits new shown
RaceOver TakeLost would pages old new does = (shown : Shown) × RaceFits new shown
RaceOver Give would pages old new does = Unit {0}

abbrev pub RaceAllOver : (calls : List Call) (pages : ℕ) (old new : Raced) → RaceDoesAll calls old new → Type 0
RaceAllOver [] pages old new does = Unit {0}
RaceAllOver (call ∷ calls) pages old new does =
    RaceAllOver calls pages old does.0 does.1 × RaceOver call does.2.would pages does.0 new does.2.does

-- LAW: whatever calls come, in whatever order, under whatever judges that are bounded, a race never reads more than
-- twice the table's pages, two leaves for each planned scan and the 48 keys of a last piece, but for one for each call
-- for which no memory was found
abbrev pub RacesAreBounded : Type 0
RacesAreBounded =
    (table snap : ℕ) (only : List (List Atom)) (scans : List ScanPlan) (cursor opening pages : ℕ) (calls : List Call)
    (opened now : Raced)
    → 2 ≤ length scans → length scans ≤ 8 → pages < 2 ^ 63 → Opened table snap only scans cursor opening pages opened
    → (does : RaceDoesAll calls opened now) → RaceAllOver calls pages opened now does
    → reads_told now.trace ≤ 2 * pages + 2 * length scans + 48 + lost_by calls
