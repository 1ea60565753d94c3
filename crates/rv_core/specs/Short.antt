-- HOW MANY RECORDS A SHORT RANGE MAKES A CURSOR FETCH, from its opening on.
use Rattle.std.specs.Prelude.{◌≡◌, ◌≤◌, ◌+◌, ℕ, true, List, [], ◌∷◌, Some, slice_get}
use Rattle.rv_judge.specs.declared.counting.Counts.{Counts}
use Rattle.rv_judge.specs.declared.judging.Facts.{Facts}
use Rattle.rv_judge.specs.Verdicts.{Ruling}
use Rattle.rv_catalog.specs.declared.def.IndexDef.{IndexDef}
use Rattle.rv_catalog.specs.declared.def.Select.{Select}
use Rattle.rv_reader.specs.Shown.{Shown}
use Rattle.rv_access.specs.Accesses.{Settled, query_of}
use Rattle.rv_retrieval.specs.Short.{has_short}
use Rattle.rv_join.specs.Alone.{IsAlone}
use Rattle.rv_join.specs.Plans.{plan_trace}
use Rattle.rv_cursor.specs.declared.cursor.Open.{Open}
use Rattle.rv_cursor.specs.Fetches.{lost_in}
use Rattle.rv_cursor.specs.Left.{SameCursor, seen_by}
use Rattle.rv_cursor.specs.Moves.{Move, MovesByAll, Ruled, TakesOut, ruled}
use Rattle.rv_core.specs.Obeying.{AnyOf, BeginsWithin, MovesAt, SeesSame}
use Rattle.rv_core.specs.Pieces.{TriesAt}

-- an open cursor, and what the store shows
pub record Held : Type 0 where
  pub store : Shown
  pub cursor : Open

abbrev pub held : Shown → Open → Held
held store cursor = record { store = store; cursor = cursor }

-- A CALL MOVES A CURSOR'S PLAN, or does not touch it, under some judge; and what the cursor sees stays
pub record CallMoves (moves : List Move) (old new : Held) : Type 0 where
  pub would : ℕ → Facts → Ruling
  pub state : ℕ
  pub after : ℕ
  pub same : SameCursor old.cursor new.cursor
  pub made : MovesByAll moves would (seen_by old.store old.cursor) (ruled old.cursor state) (ruled new.cursor after)
  pub sees : seen_by new.store new.cursor ≡ seen_by old.store new.cursor

-- so do calls one after another, the last one first in the list
abbrev pub CallsMove : List (List Move) → Held → Held → Type 0
CallsMove [] old new = new ≡ old
CallsMove (moves ∷ calls) old new = (mid : Held) × CallsMove calls old mid × CallMoves moves mid new

-- the foreground steps of all of them for which no memory was found
abbrev pub lost_by : List (List Move) → ℕ
lost_by [] = 0
lost_by (moves ∷ calls) = lost_by calls + lost_in moves

-- LAW: where OPEN found a restricted index of its one FROM item with an exact estimate of at most 20, the background
-- is over and stays so, and the trace never counts more than 20 fetched records, but for one for each foreground step
-- for which no memory was found; whatever calls come, and whatever judges rule
abbrev pub ShortRangeIsFew : Type 0
ShortRangeIsFew =
    (s : Select) (indexes : List IndexDef) (calls : List (List Move)) (opened now : Held)
    → BeginsWithin (seen_by opened.store opened.cursor) s indexes opened.cursor.snap opened.cursor.plan
    → has_short (query_of opened.cursor.plan.stack.at.here) (seen_by opened.store opened.cursor) ≡ true
    → IsAlone opened.cursor.plan → CallsMove calls opened now
    → Settled now.cursor.plan.stack.at.here × ((plan_trace now.cursor.plan).fetches ≤ 20 + lost_by calls)

-- LAW: a piece that is taken by itself is such a move, too
abbrev pub TakeIsMove : Type 0
TakeIsMove =
    (state : ℕ) (shown : Shown) (place : ℕ) (before after : Counts) (old new : List Open)
    (tries : TriesAt shown place before after old new)
    → TakesOut (seen_by shown tries.cursor) (ruled tries.cursor state) (ruled tries.left state)

-- WHAT THE CALLS SAY OF PLANS IS SUCH MOVES, where what the open cursors see stays.

-- LAW: so is what is said of the cursor in a place
abbrev pub CallIsMoves : Type 0
CallIsMoves =
    (would : ℕ → Facts → Ruling) (store later : Shown) (place judge ruled_to : ℕ) (old new : List Open)
    (call : MovesAt (AnyOf would) store place judge ruled_to old new) → SeesSame store later new
    → CallMoves call.moved.moves (held store call.before) (held later call.after)

-- moves that found memory for each foreground step
pub record AnsweredMoves (old new : Held) : Type 0 where
  pub moves : List Move
  pub none : lost_in moves ≡ 0
  pub call : CallMoves moves old new

-- LAW: a call that is answered has such, where the cursor in a place moved in this way
abbrev pub AnsweredIsMoves : (Open → Shown → Ruled → Ruled → Type 0) → Type 0
AnsweredIsMoves way =
    (store later : Shown) (place judge ruled_to : ℕ) (old new : List Open)
    (call : MovesAt way store place judge ruled_to old new) → SeesSame store later new
    → AnsweredMoves (held store call.before) (held later call.after)

-- LAW: a cursor that a call left as it was made no move
abbrev pub StillMoves : Type 0
StillMoves =
    (would : ℕ → Facts → Ruling) (store later : Shown) (judge place : ℕ) (cs : List Open) (c : Open)
    → slice_get cs place ≡ Some c → SeesSame store later cs → CallMoves [] (held store c) (held later c)
