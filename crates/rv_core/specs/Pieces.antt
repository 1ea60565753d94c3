-- WHICH OPEN CURSOR'S PIECE IS HANDED OUT, and what becomes of a piece that is given.
use Rattle.std.specs.Prelude.{◌≡◌, ℕ, ◌==◌, ◌&&◌, Bool, List, Option, Some, None, is_some, nat_lt, position, slice_get, slice_set}
use Rattle.rv_judge.specs.declared.counting.Counts.{Counts}
use Rattle.rv_judge.specs.declared.judging.Facts.{Facts}
use Rattle.rv_judge.specs.Verdicts.{Ruling}
use Rattle.rv_reader.specs.Shown.{Shown}
use Rattle.rv_jscan.specs.declared.jscan.Given.{Given}
use Rattle.rv_jscan.specs.declared.jscan.Given.TheVariants.{Stale}
use Rattle.rv_jscan.specs.declared.jscan.Taken.{Taken}
use Rattle.rv_jscan.specs.declared.jscan.Taken.TheVariants.{Nothing}
use Rattle.rv_jscan.specs.Pieces.{Pieced}
use Rattle.rv_access.specs.Accesses.{Settled}
use Rattle.rv_access.specs.Given.{CountsPiece, GivesOn, TakesPiece, piece_read}
use Rattle.rv_access.specs.Stepping.{SameCourse}
use Rattle.rv_judge.specs.Tracing.{CountsRise, SameCounts}
use Rattle.rv_join.specs.Alone.{IsAlone, TakesOnce}
use Rattle.rv_join.specs.Levels.{first_of}
use Rattle.rv_join.specs.Pieces.{GivesPiece, TakesAwaited, plan_awaited, plan_pieces, waited, waiting}
use Rattle.rv_join.specs.Plans.{PlanFits, PlanStays, plan_trace}
use Rattle.rv_cursor.specs.declared.cursor.Open.{Open}
use Rattle.rv_cursor.specs.Left.{seen_by}

abbrev pub is_waiting : Open → Bool
is_waiting c = is_some (plan_awaited c.plan)

abbrev pub or_else : Option ℕ → Option ℕ → Option ℕ
or_else (Some place) other = Some place
or_else None other = other

-- Of the open cursors that await a piece, the first with a number above another; where there is none above, the
-- first. Open cursors stand in ascending order of their numbers, so the first has the lowest.
abbrev pub next_waiting : ℕ → List Open → Option ℕ
next_waiting after opens =
    or_else (position (λ (c : Open). nat_lt after c.number && is_waiting c) opens) (position is_waiting opens)

-- the plan of the cursor in a place was called, and nothing else
pub record CallsOne (place : ℕ) (old new : List Open) (c d : Open) : Type 0 where
  pub here : slice_get old place ≡ Some c
  pub called : new ≡ slice_set old place d
  pub same : d ≡ record c { plan = d.plan }

-- A TAKE from the cursor in a place, whatever it answers: the same piece is awaited, none is counted, and its leaf,
-- which is read where it is not held, is counted in the trace, which tells no more than before. Over one FROM item
-- nothing is read where the background is over.
pub record TriesAt (shown : Shown) (place : ℕ) (before after : Counts) (old new : List Open) : Type 0 where
  pub cursor : Open
  pub left : Open
  pub calls : CallsOne place old new cursor left
  pub awaited : plan_awaited left.plan ≡ plan_awaited cursor.plan
  pub pieces : plan_pieces left.plan ≡ plan_pieces cursor.plan
  pub course : SameCourse (first_of cursor.plan.stack).here (first_of left.plan.stack).here
  pub reads : after ≡ piece_read (waiting cursor.plan) before
  pub counts : CountsRise (plan_trace cursor.plan) (plan_trace left.plan) before after
  pub once : IsAlone cursor.plan → TakesOnce (seen_by shown cursor) before after cursor.plan.stack.at left.plan.stack.at
  pub stays : PlanStays (seen_by shown cursor) cursor.plan left.plan
  pub fits : PlanFits (seen_by shown cursor) left.plan

-- the piece that it answers is the one that was awaited before the call, and that may now be given
pub record TakesAt (shown : Shown) (place : ℕ) (before after : Counts) (old new : List Open)
    (taken : Taken) : Type 0 where
  pub tries : TriesAt shown place before after old new
  pub answers : TakesAwaited tries.cursor.plan taken
  pub ready : TakesPiece (waiting tries.left.plan) taken

-- what a take of the next awaited piece answers, and what it does where it finds no memory
abbrev pub TakesNext : Shown → Option ℕ → Counts → Counts → List Open → List Open → Taken → Type 0
TakesNext shown None before after old new taken = (taken ≡ Nothing) × (new ≡ old) × (after ≡ before)
TakesNext shown (Some place) before after old new taken = TakesAt shown place before after old new taken

abbrev pub TriesNext : Shown → Option ℕ → Counts → Counts → List Open → List Open → Type 0
TriesNext shown None before after old new = (new ≡ old) × (after ≡ before)
TriesNext shown (Some place) before after old new = TriesAt shown place before after old new

-- the open cursor of a number
abbrev pub numbered : ℕ → List Open → Option ℕ
numbered number opens = position (λ (c : Open). c.number == number) opens

-- A GIVE to the cursor in a place: accepted exactly where the piece is the awaited one, once taken; an accepted piece
-- is counted and the judge obeyed, a stale one changes nothing; what was drawn from
-- what the cursor sees still is, and its rest stays
pub record GivesAt (would : ℕ → Facts → Ruling) (state after : ℕ) (place : ℕ) (old : List Open) (piece : Pieced)
    (given : Given) (new : List Open) : Type 0 where
  pub cursor : Open
  pub left : Open
  pub calls : CallsOne place old new cursor left
  pub answers : GivesPiece cursor.plan piece given left.plan
  pub obeys : GivesOn would state after piece given (waiting cursor.plan) (waited cursor.plan left.plan)
  pub pieces : CountsPiece given (plan_pieces cursor.plan) (plan_pieces left.plan)
  pub counts : SameCounts (plan_trace cursor.plan) (plan_trace left.plan)
  pub stays : (shown : Shown) → PlanFits (seen_by shown cursor) cursor.plan
      → PlanStays (seen_by shown cursor) cursor.plan left.plan
  pub fits : (shown : Shown) → PlanFits (seen_by shown cursor) cursor.plan → PlanFits (seen_by shown cursor) left.plan

-- What a give answers: that of the piece's cursor, and stale with nothing awaited where that is not open.
abbrev pub GivesTo : Option ℕ → (ℕ → Facts → Ruling) → ℕ → ℕ → List Open → Pieced → Given → List Open → Type 0
GivesTo None would state after old piece given new = (given ≡ Stale piece.id None) × (new ≡ old) × (after ≡ state)
GivesTo (Some place) would state after old piece given new = GivesAt would state after place old piece given new

-- Over one FROM item a plan whose background is over awaits no piece: whatever is given, its cursor is left as it is.
pub record KeepsSettled (old new : List Open) : Type 0 where
  pub each : (place : ℕ) (c d : Open) → slice_get old place ≡ Some c → slice_get new place ≡ Some d
      → IsAlone c.plan → Settled c.plan.stack.at.here → d ≡ c
