-- WHAT A CURSOR READS OVER ITS WHOLE LIFE, and how soon a FETCH ends.
use Rattle.std.specs.Prelude.{◌≡◌, ℕ, ◌+◌, ◌≤◌, true, List, [], ◌∷◌, length, Option}
use Rattle.rv_keylist.specs.Keys.{has_key}
use Rattle.rv_judge.specs.declared.judging.Facts.{Facts}
use Rattle.rv_judge.specs.declared.events.Control.TheVariants.{FinalList}
use Rattle.rv_judge.specs.Verdicts.{Ruling}
use Rattle.rv_judge.specs.Counting.{reads}
use Rattle.rv_catalog.specs.declared.def.IndexDef.{IndexDef}
use Rattle.rv_catalog.specs.declared.def.Select.{Select}
use Rattle.rv_model.specs.declared.state.Offer.{Offer}
use Rattle.rv_reader.specs.Shown.{Shown}
use Rattle.rv_jscan.specs.Pieces.{Pieced}
use Rattle.rv_jscan.specs.declared.jscan.Given.TheVariants.{Accepted}
use Rattle.rv_union.specs.Effort.{keys_work}
use Rattle.rv_union.specs.Given.{Awaits}
use Rattle.rv_union.specs.Rulings.{GivesOn}
use Rattle.rv_union.specs.Unioned.{UnionFits, Unioned, meets_any}
use Rattle.rv_access.specs.declared.access.Access.{Access}
use Rattle.rv_access.specs.declared.access.Access.TheVariants.{Competing, Racing, Uniting}
use Rattle.rv_join.specs.Alone.{IsAlone, plan_effort, plan_life}
use Rattle.rv_join.specs.Plans.{Planned, plan_trace, plan_work}
use Rattle.rv_join.specs.Work.{held_rows}
use Rattle.rv_cursor.specs.Fetches.{lost_in}
use Rattle.rv_cursor.specs.Left.{seen_by}
use Rattle.rv_cursor.specs.Moves.{FetchMoves, Move, MovesByAll, Ruled, StepsBacks}
use Rattle.rv_cursor.specs.Moves.Move.{Front, Lost, Take, Give}
use Rattle.rv_core.specs.Obeying.{BeginsWithin}
use Rattle.rv_core.specs.Short.{CallsMove, Held, lost_by}
use Rattle.rv_bounded.specs.Bounds.{reads_told}

-- the pieces that some moves take, and those that they give
abbrev pub taken_of : Move → ℕ
taken_of Front = 0
taken_of Lost = 0
taken_of Take = 1
taken_of Give = 0

abbrev pub taken_in : List Move → ℕ
taken_in [] = 0
taken_in (move ∷ moves) = taken_in moves + taken_of move

abbrev pub given_of : Move → ℕ
given_of Front = 0
given_of Lost = 0
given_of Take = 0
given_of Give = 1

abbrev pub given_in : List Move → ℕ
given_in [] = 0
given_in (move ∷ moves) = given_in moves + given_of move

-- those of calls one after another
abbrev pub taken_by : List (List Move) → ℕ
taken_by [] = 0
taken_by (moves ∷ calls) = taken_by calls + taken_in moves

abbrev pub given_by : List (List Move) → ℕ
given_by [] = 0
given_by (moves ∷ calls) = given_by calls + given_in moves

-- what a plan over one FROM item has read, and the effort that is left
abbrev pub spent : Shown → Planned → ℕ
spent shown p = reads p.reads + plan_effort shown p

-- LAW: they come to no more than before, but for one for each foreground step for which no memory was found, and one
-- for each piece that was taken and not given
abbrev pub MovesSpend : Type 0
MovesSpend =
    (moves : List Move) (would : ℕ → Facts → Ruling) (shown : Shown) (old new : Ruled)
    → MovesByAll moves would shown old new → IsAlone old.plan
    → spent shown new.plan + given_in moves ≤ spent shown old.plan + lost_in moves + taken_in moves

-- LAW: OVER ITS WHOLE LIFE a cursor over one FROM item reads at most the bound that it had at OPEN, but for these;
-- whatever calls come, and whatever judges rule
abbrev pub LifeIsBounded : Type 0
LifeIsBounded =
    (s : Select) (indexes : List IndexDef) (calls : List (List Move)) (opened now : Held)
    → BeginsWithin (seen_by opened.store opened.cursor) s indexes opened.cursor.snap opened.cursor.plan
    → IsAlone opened.cursor.plan → CallsMove calls opened now
    → reads_told (plan_trace now.cursor.plan) + given_by calls
    ≤ plan_life s indexes (seen_by opened.store opened.cursor) opened.cursor.snap opened.cursor.plan
    + lost_by calls + taken_by calls

-- a plan moved, found memory for each of its foreground steps, and took so many pieces more than it gave
pub record TakesGive (more : ℕ) (would : ℕ → Facts → Ruling) (shown : Shown) (old new : Ruled) : Type 0 where
  pub moves : List Move
  pub made : MovesByAll moves would shown old new
  pub none : lost_in moves ≡ 0
  pub pieces : taken_in moves ≤ given_in moves + more

-- LAW: a STEP that is answered gives each piece that it takes
abbrev pub StepTakesGive : Type 0
StepTakesGive =
    (done : ℕ) (would : ℕ → Facts → Ruling) (shown : Shown) (old new : Ruled)
    → StepsBacks done would shown old new → TakesGive 0 would shown old new

-- LAW: so does a FETCH that is answered, but for one at most in each turn
abbrev pub FetchTakesGive : Type 0
FetchTakesGive =
    (hand : Option Offer) (most : ℕ) (would : ℕ → Facts → Ruling) (shown : Shown) (old new : Ruled)
    (fetch : FetchMoves hand most would shown old new) → TakesGive (fetch.turns + 1) would shown old new

-- LAW: A FETCH TAKES AT MOST AS MANY TURNS AS ITS PLAN HAS WORK LEFT, and one more: each that works on lowers that work
abbrev pub FetchEndsSoon : Type 0
FetchEndsSoon =
    (hand : Option Offer) (most : ℕ) (would : ℕ → Facts → Ruling) (shown : Shown) (old new : Ruled)
    (fetch : FetchMoves hand most would shown old new)
    → fetch.turns + plan_work shown fetch.mid.plan ≤ plan_work shown old.plan

-- a list has each row that meets some member of a union
pub record HasMet (rows : List ℕ) (u : Unioned) (shown : Shown) : Type 0 where
  pub met : (n : ℕ) → meets_any u.plans shown u.snap n ≡ true → has_key n rows ≡ true

-- LAW: WHERE A PIECE COMPLETES THE LIST OF A UNION, it has at most as many keys to fetch as there are different rows
-- that meet some member: a list that has each of these is no shorter
abbrev pub ListIsFew : Type 0
ListIsFew =
    (would : ℕ → Facts → Ruling) (state after : ℕ) (shown : Shown) (rows : List ℕ) (piece : Pieced) (old new : Unioned)
    → Awaits old piece → GivesOn would state after piece Accepted old new → new.control ≡ FinalList
    → UnionFits new shown → HasMet rows new shown → keys_work new ≤ length rows

-- a union that fetches its list, of which so many keys are left
abbrev pub IsListing : Access → ℕ → Type 0
IsListing (Competing v) keys = ⊥
IsListing (Racing r) keys = ⊥
IsListing (Uniting u) keys = (u.value.union.control ≡ FinalList) × (keys_work u.value.union ≡ keys)

-- LAW: from then on a cursor over one FROM item that a union reads reads at most one for each key that is left, and one
-- where a row is held, but for one for each foreground step for which no memory was found, and one for each piece that
-- was taken and not given
abbrev pub ListReadsFew : Type 0
ListReadsFew =
    (moves : List Move) (would : ℕ → Facts → Ruling) (shown : Shown) (old new : Ruled) (keys : ℕ)
    → MovesByAll moves would shown old new → IsAlone old.plan → IsListing old.plan.stack.at.here keys
    → reads_told (plan_trace new.plan) + given_in moves
    ≤ reads_told (plan_trace old.plan) + keys + held_rows old.plan.stack.at.row + lost_in moves + taken_in moves
