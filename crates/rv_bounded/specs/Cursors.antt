-- HOW MUCH A CURSOR OVER ONE FROM ITEM READS UNDER JUDGES THAT ARE BOUNDED, from its opening on.
use Rattle.std.specs.Prelude.{◌≡◌, ℕ, Bool, ◌+◌, ◌*◌, ◌/◌, ◌^◌, ◌<◌, ◌≤◌, List, [], ◌∷◌, length, Box}
use Rattle.std.specs.declared.alloc.Global.{Global}
use Rattle.rv_judge.specs.declared.events.Strategy.TheVariants.{BackgroundOnly, FastFirst}
use Rattle.rv_judge.specs.declared.judging.Facts.{Facts}
use Rattle.rv_judge.specs.Verdicts.{Ruling}
use Rattle.rv_catalog.specs.declared.def.Select.{Select}
use Rattle.rv_reader.specs.Shown.{Shown}
use Rattle.rv_model.specs.declared.state.State.{State}
use Rattle.rv_jscan.specs.declared.jscan.Given.{Given}
use Rattle.rv_jscan.specs.Pieces.{Pieced}
use Rattle.rv_retrieval.specs.Shape.{Shape}
use Rattle.rv_join.specs.Alone.{IsAlone}
use Rattle.rv_join.specs.Plans.{plan_trace}
use Rattle.rv_cursor.specs.declared.cursor.Open.{Open}
use Rattle.rv_cursor.specs.Left.{seen_by}
use Rattle.rv_cursor.specs.Moves.{Move, MovesBy, MovesByAll, Ruled, ruled}
use Rattle.rv_cursor.specs.Moves.Move.{Front, Lost, Take, Give}
use Rattle.rv_core.specs.Obeying.{OpensPlan, Plans}
use Rattle.rv_core.specs.Pieces.{GivesAt}
use Rattle.rv_core.specs.Short.{CallMoves, Held}
use Rattle.skew_judges.specs.Guard.{IsBounded}
use Rattle.rv_bounded.specs.Bounds.{reads_told, spare}
use Rattle.rv_bounded.specs.Plans.{PlanBegins, PlanOpens, lost_call, lost_leaf}

-- what a move loses at most, each of which may have read once in vain
abbrev pub MoveLoses : (move : Move) (would : ℕ → Facts → Ruling) (shown : Shown) (old new : Ruled)
    → MovesBy move would shown old new → ℕ → Type 0
MoveLoses Front would shown old new by lost = (one : IsAlone old.plan) → lost_call (by.1.once one).calls ≤ lost
MoveLoses Lost would shown old new by lost = (one : IsAlone old.plan) → lost_call (by.once one).calls ≤ lost
MoveLoses Take would shown old new by lost = lost_leaf new.plan.stack.at.here ≤ lost
MoveLoses Give would shown old new by lost = Unit {0}

abbrev pub MovesLose : (moves : List Move) (would : ℕ → Facts → Ruling) (shown : Shown) (old new : Ruled)
    → MovesByAll moves would shown old new → ℕ → Type 0
MovesLose [] would shown old new made lost = Unit {0}
MovesLose (move ∷ moves) would shown old new made lost =
    (m k : ℕ) × MovesLose moves would shown old made.0 made.1 m × MoveLoses move would shown made.0 new made.2 k
    × (m + k ≤ lost)

-- A CALL MOVES A CURSOR'S PLAN under a judge that is bounded, and loses at most so many
pub record CallSpends (moves : List Move) (lost : ℕ) (old new : Held) : Type 0 where
  pub call : CallMoves moves old new
  pub bounded : IsBounded call.would
  pub loses : MovesLose moves call.would (seen_by old.store old.cursor) (ruled old.cursor call.state)
      (ruled new.cursor call.after) call.made lost

-- A PIECE IS GIVEN TO THE CURSOR by a call of its own, under a judge that is bounded; what the store shows stays
pub record CallGives (old new : Held) : Type 0 where
  pub would : ℕ → Facts → Ruling
  pub bounded : IsBounded would
  pub state : ℕ
  pub after : ℕ
  pub place : ℕ
  pub opens : List Open
  pub later : List Open
  pub piece : Pieced
  pub given : Given
  pub gives : GivesAt would state after place opens piece given later
  pub was : gives.cursor ≡ old.cursor
  pub is : gives.left ≡ new.cursor
  pub store : new.store ≡ old.store

-- a call of a core, as a cursor sees it: it moves its plan, or gives it a piece
pub data CursorCall : Type 0 where
  Moving : List Move → CursorCall
  Giving : CursorCall

abbrev pub CallDoes : CursorCall → ℕ → Held → Held → Type 0
CallDoes (Moving moves) lost old new = CallSpends moves lost old new
CallDoes Giving lost old new = CallGives old new

-- such calls one after another, the last one first in the list
abbrev pub CallsSpend : List CursorCall → ℕ → Held → Held → Type 0
CallsSpend [] lost old new = new ≡ old
CallsSpend (call ∷ calls) lost old new =
    (mid : Held) × (m k : ℕ) × CallsSpend calls m old mid × CallDoes call k mid new × (m + k ≤ lost)

-- LAW: the plan of a cursor that an OPEN of a core adds begins so, over one FROM item
abbrev pub OpensBegin : Type 0
OpensBegin =
    (race : Bool) (shown : Shown) (s : Select) (db : State) (session : ℕ) (name : List ℕ) (old new : Plans)
    (opens : OpensPlan race shown s db session name old new) → IsAlone opens.cursor.plan
    → PlanBegins (seen_by shown opens.cursor) opens.cursor.plan opens.cursor.plan.stack.at.here

-- LAW: a cursor over one FROM item that a background-only retrieval reads, in which no index is short, never reads more
-- beside what its opening read than twice the table's pages, two leaves for each planned scan and 48 records, but for
-- one for each call of the retrieval for which no memory was found; whatever calls of the core come, each under a judge
-- of its own
abbrev pub CursorsAreBounded : Type 0
CursorsAreBounded =
    (calls : List CursorCall) (lost : ℕ) (opened now : Held) (v : Box Shape Global)
    → PlanOpens (seen_by opened.store opened.cursor) opened.cursor.plan v → v.value.strategy ≡ BackgroundOnly
    → (seen_by opened.store opened.cursor).pages v.value.query.table v.value.query.snap < 2 ^ 63
    → CallsSpend calls lost opened now
    → reads_told (plan_trace now.cursor.plan)
    ≤ reads_told (plan_trace opened.cursor.plan)
    + (2 * (seen_by opened.store opened.cursor).pages v.value.query.table v.value.query.snap
    + 2 * length v.value.joint.plans + 48) + lost

-- LAW: and where it is fast-first, than twice the table's pages, twice an eighth of them, and 50 for each planned scan,
-- and of a table that has fewer than 64 pages an eighth of them more
abbrev pub FastCursorsAreBounded : Type 0
FastCursorsAreBounded =
    (calls : List CursorCall) (lost : ℕ) (opened now : Held) (v : Box Shape Global)
    → PlanOpens (seen_by opened.store opened.cursor) opened.cursor.plan v → v.value.strategy ≡ FastFirst
    → (seen_by opened.store opened.cursor).pages v.value.query.table v.value.query.snap < 2 ^ 63
    → CallsSpend calls lost opened now
    → reads_told (plan_trace now.cursor.plan)
    ≤ reads_told (plan_trace opened.cursor.plan)
    + (2 * (seen_by opened.store opened.cursor).pages v.value.query.table v.value.query.snap
    + (2 * ((seen_by opened.store opened.cursor).pages v.value.query.table v.value.query.snap / 8)
    + spare ((seen_by opened.store opened.cursor).pages v.value.query.table v.value.query.snap))
    + 50 * length v.value.joint.plans) + lost
