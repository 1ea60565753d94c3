-- HOW MANY RECORDS A PLAN OVER ONE FROM ITEM FETCHES where a short index was scanned at opening.
use Rattle.std.specs.Prelude.{◌≡◌, ℕ, ◌+◌, List, [], ◌∷◌, Option}
use Rattle.rv_model.specs.declared.state.Offer.{Offer}
use Rattle.rv_judge.specs.declared.judging.Facts.{Facts}
use Rattle.rv_judge.specs.Verdicts.{Ruling}
use Rattle.rv_reader.specs.Shown.{Shown}
use Rattle.rv_join.specs.Alone.{FewFetches, IsAlone}
use Rattle.rv_cursor.specs.Moves.{FetchMoves, Move, MovesByAll, Ruled, StepsBacks, Turn}
use Rattle.rv_cursor.specs.Moves.Move.{Front, Lost, Take, Give}
use Rattle.rv_reader.specs.declared.step.Step.{Step}

-- the foreground steps for which no memory was found
abbrev pub lost_of : Move → ℕ
lost_of Front = 0
lost_of Lost = 1
lost_of Take = 0
lost_of Give = 0

abbrev pub lost_in : List Move → ℕ
lost_in [] = 0
lost_in (move ∷ moves) = lost_in moves + lost_of move

-- LAW: where the background is over, it stays so, and the records fetched and those left come to no more than before,
-- but for one for each foreground step for which no memory was found
abbrev pub MovesFetchFew : Type 0
MovesFetchFew =
    (moves : List Move) (would : ℕ → Facts → Ruling) (shown : Shown) (old new : Ruled)
    → MovesByAll moves would shown old new → IsAlone old.plan → FewFetches (lost_in moves) shown old.plan new.plan

-- a plan moved, and found memory for each of its foreground steps
pub record LosesNone (would : ℕ → Facts → Ruling) (shown : Shown) (old new : Ruled) : Type 0 where
  pub moves : List Move
  pub made : MovesByAll moves would shown old new
  pub none : lost_in moves ≡ 0

-- LAW: so do a FETCH and a turn of it that are answered, and a STEP
abbrev pub FetchLosesNone : Type 0
FetchLosesNone =
    (hand : Option Offer) (most : ℕ) (would : ℕ → Facts → Ruling) (shown : Shown) (old new : Ruled)
    → FetchMoves hand most would shown old new → LosesNone would shown old new

abbrev pub TurnLosesNone : Type 0
TurnLosesNone =
    (step : Step Offer) (most : ℕ) (would : ℕ → Facts → Ruling) (shown : Shown) (old new : Ruled)
    → Turn step most would shown old new → LosesNone would shown old new

abbrev pub StepLosesNone : Type 0
StepLosesNone =
    (done : ℕ) (would : ℕ → Facts → Ruling) (shown : Shown) (old new : Ruled)
    → StepsBacks done would shown old new → LosesNone would shown old new
