-- WHAT A CORE'S CALLS SAY OF A CURSOR IS WHAT ITS LAWS ASK: calls that move its plan, and pieces given to it.
use Rattle.std.specs.Prelude.{◌≡◌, ℕ, ◌+◌, List, [], ◌∷◌, Some, slice_get}
use Rattle.rv_judge.specs.declared.counting.Counts.{Counts}
use Rattle.rv_judge.specs.declared.judging.Facts.{Facts}
use Rattle.rv_judge.specs.Verdicts.{Ruling}
use Rattle.rv_reader.specs.Shown.{Shown}
use Rattle.rv_jscan.specs.declared.jscan.Given.{Given}
use Rattle.rv_jscan.specs.Pieces.{Pieced}
use Rattle.rv_cursor.specs.declared.cursor.Open.{Open}
use Rattle.rv_cursor.specs.Left.{seen_by}
use Rattle.rv_cursor.specs.Moves.{Move, MovesByAll, Ruled, ruled}
use Rattle.rv_cursor.specs.Moves.Move.{Front, Lost, Take, Give}
use Rattle.rv_core.specs.Obeying.{AnyOf, MovesAt, SeesSame}
use Rattle.rv_core.specs.Pieces.{GivesAt, TriesAt}
use Rattle.rv_core.specs.Short.{held}
use Rattle.skew_judges.specs.Guard.{IsBounded}
use Rattle.rv_bounded.specs.Cursors.{CallGives, CallSpends, MovesLose}
use Rattle.rv_bounded.specs.Plans.{lost_leaf}

-- LAW: a call that moves the plan of the cursor in a place, where what the open cursors see stays
abbrev pub CallIsSpent : Type 0
CallIsSpent =
    (would : ℕ → Facts → Ruling) (store later : Shown) (place judge ruled_to lost : ℕ) (old new : List Open)
    (call : MovesAt (AnyOf would) store place judge ruled_to old new) → IsBounded would → SeesSame store later new
    → MovesLose call.moved.moves would (seen_by store call.before) (ruled call.before judge)
    (ruled call.after ruled_to) call.moved.made lost
    → CallSpends call.moved.moves lost (held store call.before) (held later call.after)

-- LAW: a call that leaves a cursor as it was
abbrev pub StillIsSpent : Type 0
StillIsSpent =
    (would : ℕ → Facts → Ruling) (store later : Shown) (judge place : ℕ) (cs : List Open) (c : Open)
    → IsBounded would → slice_get cs place ≡ Some c → SeesSame store later cs
    → CallSpends [] 0 (held store c) (held later c)

-- LAW: a piece that is taken by a call of its own
abbrev pub TakeIsSpent : Type 0
TakeIsSpent =
    (would : ℕ → Facts → Ruling) (state : ℕ) (shown : Shown) (place : ℕ) (before after : Counts) (old new : List Open)
    (tries : TriesAt shown place before after old new) → IsBounded would
    → CallSpends (Take ∷ []) (lost_leaf tries.left.plan.stack.at.here) (held shown tries.cursor)
    (held shown tries.left)

-- LAW: a piece that is given by a call of its own
abbrev pub GiveIsGiven : Type 0
GiveIsGiven =
    (would : ℕ → Facts → Ruling) (state after place : ℕ) (shown : Shown) (old new : List Open) (piece : Pieced)
    (given : Given) (gives : GivesAt would state after place old piece given new) → IsBounded would
    → CallGives (held shown gives.cursor) (held shown gives.left)

-- the moves that may lose a read
abbrev pub steps_and_takes : List Move → ℕ
steps_and_takes [] = 0
steps_and_takes (Front ∷ moves) = steps_and_takes moves + 1
steps_and_takes (Lost ∷ moves) = steps_and_takes moves + 1
steps_and_takes (Take ∷ moves) = steps_and_takes moves + 1
steps_and_takes (Give ∷ moves) = steps_and_takes moves

-- LAW: moves lose at most one read for each step and each take
abbrev pub MovesLoseFew : Type 0
MovesLoseFew =
    (moves : List Move) (would : ℕ → Facts → Ruling) (shown : Shown) (old new : Ruled)
    (made : MovesByAll moves would shown old new) → MovesLose moves would shown old new made (steps_and_takes moves)
