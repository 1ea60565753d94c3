-- HOW MANY LEAVES A RACE READS UNDER JUDGES THAT ARE BOUNDED.
use Rattle.std.specs.Prelude.{◌≡◌, ℕ, ◌+◌, ◌*◌, ◌≤◌, List, [], ◌∷◌, length, Option, Some, None, IfSome}
use Rattle.rv_judge.specs.declared.counting.Counts.{Counts}
use Rattle.rv_judge.specs.declared.judging.Facts.{Facts}
use Rattle.rv_judge.specs.Tracing.{CountsRise, SameCounts}
use Rattle.rv_judge.specs.Verdicts.{Ruling}
use Rattle.rv_restrict.specs.declared.atom.Atom.{Atom}
use Rattle.rv_reader.specs.Shown.{Shown}
use Rattle.rv_reader.specs.declared.step.Step.{Step as Stepped}
use Rattle.rv_value.specs.declared.record.Record.{Record}
use Rattle.rv_jscan.specs.declared.jscan.Given.{Given}
use Rattle.rv_jscan.specs.declared.jscan.ScanPlan.{ScanPlan}
use Rattle.rv_jscan.specs.declared.jscan.Taken.{Taken}
use Rattle.rv_jscan.specs.Pieces.{Pieced}
use Rattle.rv_race.specs.Given.{Answers, TakesLeaf, TakesPiece, piece_read}
use Rattle.rv_race.specs.Opened.{MayRead, OnlyTakes, Opened, StepsAs}
use Rattle.rv_race.specs.Raced.{Raced}
use Rattle.rv_race.specs.Rulings.{GivesOn}
use Rattle.skew_judges.specs.Guard.{IsBounded}
use Rattle.rv_bounded.specs.Calls.{Call, lost_by}
use Rattle.rv_bounded.specs.Calls.Call.{Step, StepLost, Take, TakeLost, Give}

-- a step that answers, over whatever the reader shows then, from and to some state of the judge
pub record RaceSteps (would : ℕ → Facts → Ruling) (old new : Raced) : Type 0 where
  pub shown : Shown
  pub state : ℕ
  pub after : ℕ
  pub before : Counts
  pub behind : Counts
  pub scanned : Stepped Record
  pub does : StepsAs would state after shown before behind scanned old new
  pub counts : CountsRise old.trace new.trace before behind

-- a step for which no memory is found
pub record RaceStepsLost (old new : Raced) : Type 0 where
  pub before : Counts
  pub behind : Counts
  pub only : OnlyTakes old new
  pub may_read : MayRead old.control old before behind
  pub counts : CountsRise old.trace new.trace before behind

-- the awaited piece is taken, or no memory is found for it
pub record RaceTakes (taken : Option Taken) (old new : Raced) : Type 0 where
  pub before : Counts
  pub behind : Counts
  pub leaves : TakesLeaf old new
  pub reads : behind ≡ piece_read old before
  pub answers : IfSome taken (TakesPiece new)
  pub counts : CountsRise old.trace new.trace before behind

-- a piece is given, the awaited one or another
pub record RaceGives (would : ℕ → Facts → Ruling) (old new : Raced) : Type 0 where
  pub state : ℕ
  pub after : ℕ
  pub piece : Pieced
  pub given : Given
  pub answers : Answers old piece given new
  pub obeys : GivesOn would state after piece given old new
  pub counts : SameCounts old.trace new.trace

abbrev pub RaceDoesCall : Call → (ℕ → Facts → Ruling) → Raced → Raced → Type 0
RaceDoesCall Step would old new = RaceSteps would old new
RaceDoesCall StepLost would old new = RaceStepsLost old new
RaceDoesCall Take would old new = (taken : Taken) × RaceTakes (Some taken) old new
RaceDoesCall TakeLost would old new = RaceTakes None old new
RaceDoesCall Give would old new = RaceGives would old new

-- a call under some judge that is bounded
pub record RaceDoes (call : Call) (old new : Raced) : Type 0 where
  pub would : ℕ → Facts → Ruling
  pub bounded : IsBounded would
  pub does : RaceDoesCall call would old new

-- such calls one after another, the last one first in the list
abbrev pub RaceDoesAll : List Call → Raced → Raced → Type 0
RaceDoesAll [] old new = new ≡ old
RaceDoesAll (call ∷ calls) old new = (mid : Raced) × RaceDoesAll calls old mid × RaceDoes call mid new

-- LAW: whatever calls come, in whatever order, under whatever judges that are bounded, a race never reads more leaves
-- than the table has pages and two for each planned scan, but for one for each call for which no memory was found
abbrev pub RacesReadFewLeaves : Type 0
RacesReadFewLeaves =
    (table snap : ℕ) (only : List (List Atom)) (scans : List ScanPlan) (cursor opening pages : ℕ) (calls : List Call)
    (opened now : Raced)
    → 2 ≤ length scans → length scans ≤ 8 → Opened table snap only scans cursor opening pages opened
    → RaceDoesAll calls opened now → now.trace.leaves ≤ pages + 2 * length scans + lost_by calls
