-- HOW MANY LEAVES A UNION READS UNDER JUDGES THAT ARE BOUNDED.
use Rattle.std.specs.Prelude.{◌≡◌, ℕ, ◌+◌, ◌*◌, ◌^◌, ◌≤◌, List, [], ◌∷◌, length, Option, Some, None, IfSome}
use Rattle.rv_judge.specs.declared.counting.Counts.{Counts}
use Rattle.rv_judge.specs.declared.judging.Facts.{Facts}
use Rattle.rv_judge.specs.Tracing.{CountsRise, SameCounts}
use Rattle.rv_judge.specs.Verdicts.{Ruling}
use Rattle.rv_restrict.specs.declared.atom.Atom.{Atom}
use Rattle.rv_reader.specs.Shown.{Shown}
use Rattle.rv_reader.specs.declared.step.Step.{Step as Stepped}
use Rattle.rv_value.specs.declared.record.Record.{Record}
use Rattle.rv_jscan.specs.declared.jscan.Given.{Given}
use Rattle.rv_jscan.specs.declared.jscan.ScanPlan.{ScanPlan}
use Rattle.rv_jscan.specs.declared.jscan.Taken.{Taken}
use Rattle.rv_jscan.specs.Pieces.{Pieced}
use Rattle.rv_union.specs.Given.{Answers, TakesLeaf, TakesPiece, piece_read}
use Rattle.rv_union.specs.Opened.{MayRead, OnlyTakes, Opened, StepsAs}
use Rattle.rv_union.specs.Rulings.{GivesOn}
use Rattle.rv_union.specs.Unioned.{Unioned}
use Rattle.skew_judges.specs.Guard.{IsBounded}
use Rattle.rv_bounded.specs.Calls.{Call, lost_by}
use Rattle.rv_bounded.specs.Calls.Call.{Step, StepLost, Take, TakeLost, Give}

-- a step that answers, over whatever the reader shows then, from and to some state of the judge
pub record UnionSteps (would : ℕ → Facts → Ruling) (old new : Unioned) : Type 0 where
  pub shown : Shown
  pub state : ℕ
  pub after : ℕ
  pub before : Counts
  pub behind : Counts
  pub scanned : Stepped Record
  pub does : StepsAs would state after shown before behind scanned old new
  pub counts : CountsRise old.trace new.trace before behind

-- a step for which no memory is found
pub record UnionStepsLost (old new : Unioned) : Type 0 where
  pub before : Counts
  pub behind : Counts
  pub only : OnlyTakes old new
  pub may_read : MayRead old.control old before behind
  pub counts : CountsRise old.trace new.trace before behind

-- the awaited piece is taken, or no memory is found for it
pub record UnionTakes (taken : Option Taken) (old new : Unioned) : Type 0 where
  pub before : Counts
  pub behind : Counts
  pub leaves : TakesLeaf old new
  pub reads : behind ≡ piece_read old before
  pub answers : IfSome taken (TakesPiece new)
  pub counts : CountsRise old.trace new.trace before behind

-- a piece is given, the awaited one or another
pub record UnionGives (would : ℕ → Facts → Ruling) (old new : Unioned) : Type 0 where
  pub state : ℕ
  pub after : ℕ
  pub piece : Pieced
  pub given : Given
  pub answers : Answers old piece given new
  pub obeys : GivesOn would state after piece given old new
  pub counts : SameCounts old.trace new.trace

abbrev pub UnionDoesCall : Call → (ℕ → Facts → Ruling) → Unioned → Unioned → Type 0
UnionDoesCall Step would old new = UnionSteps would old new
UnionDoesCall StepLost would old new = UnionStepsLost old new
UnionDoesCall Take would old new = (taken : Taken) × UnionTakes (Some taken) old new
UnionDoesCall TakeLost would old new = UnionTakes None old new
UnionDoesCall Give would old new = UnionGives would old new

-- a call under some judge that is bounded
pub record UnionDoes (call : Call) (old new : Unioned) : Type 0 where
  pub would : ℕ → Facts → Ruling
  pub bounded : IsBounded would
  pub does : UnionDoesCall call would old new

-- such calls one after another, the last one first in the list
abbrev pub UnionDoesAll : List Call → Unioned → Unioned → Type 0
UnionDoesAll [] old new = new ≡ old
UnionDoesAll (call ∷ calls) old new = (mid : Unioned) × UnionDoesAll calls old mid × UnionDoes call mid new

-- LAW: whatever calls come, in whatever order, under whatever judges that are bounded, a union never reads more leaves
-- than the table has pages and two for each member, but for one for each call for which no memory was found
abbrev pub UnionsReadFewLeaves : Type 0
UnionsReadFewLeaves =
    (table snap : ℕ) (only : List (List Atom)) (members : List ScanPlan) (cursor opening pages : ℕ) (calls : List Call)
    (opened now : Unioned)
    → 1 ≤ length members → length members ≤ 2 ^ 32 → Opened table snap only members cursor opening pages opened
    → UnionDoesAll calls opened now → now.trace.leaves ≤ pages + 2 * length members + lost_by calls
