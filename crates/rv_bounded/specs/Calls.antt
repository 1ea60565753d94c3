-- WHAT THE PUBLIC CALLS OF A RETRIEVAL DO, one after another, each under a judge of its own, over what the reader shows
-- at the snapshot.
use Rattle.std.specs.Prelude.{◌≡◌, ℕ, ◌+◌, List, [], ◌∷◌, Option, Some, None, IfSome}
use Rattle.rv_judge.specs.declared.counting.Counts.{Counts}
use Rattle.rv_judge.specs.declared.judging.Facts.{Facts}
use Rattle.rv_judge.specs.Tracing.{CountsRise, SameCounts}
use Rattle.rv_judge.specs.Verdicts.{Ruling}
use Rattle.rv_reader.specs.Shown.{Shown}
use Rattle.rv_jscan.specs.declared.jscan.Given.{Given}
use Rattle.rv_jscan.specs.declared.jscan.Taken.{Taken}
use Rattle.rv_jscan.specs.Pieces.{Pieced}
use Rattle.rv_reader.specs.declared.step.Step.{Step as Stepped}
use Rattle.rv_value.specs.declared.record.Record.{Record}
use Rattle.rv_retrieval.specs.Given.{Answers, TakesLeaf, TakesPiece}
use Rattle.rv_retrieval.specs.Rulings.{GivesOn}
use Rattle.rv_retrieval.specs.Shape.{RetrievalFits, Shape}
use Rattle.rv_retrieval.specs.Stepping.{MayReadIts, OnlyTakes, StepsAs, piece_read}
use Rattle.skew_judges.specs.Guard.{IsBounded}

-- a foreground step that answers, from and to some state of the judge
pub record Steps (would : ℕ → Facts → Ruling) (shown : Shown) (old new : Shape) : Type 0 where
  pub state : ℕ
  pub after : ℕ
  pub before : Counts
  pub behind : Counts
  pub fg : Stepped Record
  pub does : StepsAs would state after shown before behind fg old new

-- a foreground step for which no memory is found
pub record StepsLost (shown : Shown) (old new : Shape) : Type 0 where
  pub before : Counts
  pub behind : Counts
  pub only : OnlyTakes old new
  pub may_read : MayReadIts old before behind
  pub fits : RetrievalFits new shown
  pub counts : CountsRise old.trace new.trace before behind

-- the awaited piece is taken, or no memory is found for it
pub record Takes (taken : Option Taken) (shown : Shown) (old new : Shape) : Type 0 where
  pub before : Counts
  pub behind : Counts
  pub same : new ≡ record old { joint = new.joint; trace = new.trace }
  pub leaves : TakesLeaf old new.joint
  pub reads : behind ≡ piece_read old before
  pub answers : IfSome taken (TakesPiece new)
  pub fits : RetrievalFits new shown
  pub counts : CountsRise old.trace new.trace before behind

-- a piece is given, the awaited one or another
pub record Gives (would : ℕ → Facts → Ruling) (old new : Shape) : Type 0 where
  pub state : ℕ
  pub after : ℕ
  pub piece : Pieced
  pub given : Given
  pub answers : Answers old piece given new
  pub obeys : GivesOn would state after piece given old new
  pub counts : SameCounts old.trace new.trace

pub data Call : Type 0 where
  Step : Call
  StepLost : Call
  Take : Call
  TakeLost : Call
  Give : Call

abbrev pub DoesCall : Call → (ℕ → Facts → Ruling) → Shown → Shape → Shape → Type 0
DoesCall Step would shown old new = Steps would shown old new
DoesCall StepLost would shown old new = StepsLost shown old new
DoesCall Take would shown old new = (taken : Taken) × Takes (Some taken) shown old new
DoesCall TakeLost would shown old new = Takes None shown old new
DoesCall Give would shown old new = Gives would old new

-- a call under some judge that is bounded
pub record Does (call : Call) (shown : Shown) (old new : Shape) : Type 0 where
  pub would : ℕ → Facts → Ruling
  pub bounded : IsBounded would
  pub does : DoesCall call would shown old new

-- such calls one after another, the last one first in the list. A call that leaves all as it was, as a give for which
-- no memory is found, is none.
abbrev pub DoesAll : List Call → Shown → Shape → Shape → Type 0
DoesAll [] shown old new = new ≡ old
DoesAll (call ∷ calls) shown old new = (mid : Shape) × DoesAll calls shown old mid × Does call shown mid new

-- the calls for which no memory was found, each of which may have read once in vain
abbrev pub lost_of : Call → ℕ
lost_of Step = 0
lost_of StepLost = 1
lost_of Take = 0
lost_of TakeLost = 1
lost_of Give = 0

abbrev pub lost_by : List Call → ℕ
lost_by [] = 0
lost_by (call ∷ calls) = lost_by calls + lost_of call
