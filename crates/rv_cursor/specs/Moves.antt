-- HOW A CURSOR'S PLAN MOVES: by foreground steps, and by pieces that are taken, sieved and given, upon which the
-- judge is obeyed.
use Rattle.std.specs.Prelude.{◌≡◌, ◌⊎◌, ℕ, ◌<◌, ◌≤◌, Bool, true, false, Option, Some, None, IfSome, IsSome, List, [], ◌∷◌, zero, suc}
use Rattle.rv_lang.specs.declared.reply.Reply.{Reply}
use Rattle.rv_model.specs.declared.state.Offer.{Offer}
use Rattle.rv_judge.specs.declared.judging.Facts.{Facts}
use Rattle.rv_judge.specs.declared.counting.Counts.{Counts}
use Rattle.rv_judge.specs.Verdicts.{Ruling}
use Rattle.rv_judge.specs.Counting.{one_more}
use Rattle.rv_jscan.specs.Pieces.{Pieced}
use Rattle.rv_jscan.specs.declared.jscan.Given.TheVariants.{Accepted}
use Rattle.rv_reader.specs.Shown.{Shown}
use Rattle.rv_access.specs.Accesses.{Settled}
use Rattle.rv_access.specs.Given.{AwaitsPiece, GivesOn, piece_read}
use Rattle.rv_access.specs.Stepping.{SameCourse}
use Rattle.rv_judge.specs.Tracing.{CountsRise, SameCounts}
use Rattle.rv_join.specs.Alone.{FewFetches, IsAlone, PlanAsks, PlanSpends, Spends, StepsOnce, TakesOnce, plan_effort}
use Rattle.rv_join.specs.Levels.{first_of}
use Rattle.rv_join.specs.Pieces.{plan_awaited, plan_pieces, stack_builds, waited, waiting}
use Rattle.rv_join.specs.Plans.{PlanFits, PlanMoves, PlanStays, Planned, plan_trace, plan_work}
use Rattle.rv_reader.specs.declared.step.Step.{Step}
use Rattle.rv_reader.specs.declared.step.Step.TheVariants.{Row, Working, End}
use Rattle.rv_cursor.specs.declared.cursor.Open.{Open}
use Rattle.rv_reader.specs.declared.step.Step.TheVariants as turned

-- a plan, and where the judge stands that rules on its scans
pub record Ruled : Type 0 where
  pub plan : Planned
  pub judge : ℕ

-- the plan of a cursor, and where the judge stands
abbrev pub ruled : Open → ℕ → Ruled
ruled c state = record { plan = c.plan; judge = state }

-- where no memory is found for a foreground step, one record may be read in vain
abbrev pub wanting : Option (Step Offer) → ℕ
wanting (Some step) = 0
wanting None = 1

-- A FOREGROUND STEP, which answers this, or for which no memory is found: at most one step of the innermost open
-- retrieval, which asks the judge as often as that step does, and obeys it. Over one FROM item it lowers the effort
-- by its reads, and Working by at least one; and where the background is over, the records fetched and those left
-- come to no more than before.
pub record StepsFront (answer : Option (Step Offer)) (would : ℕ → Facts → Ruling) (shown : Shown)
    (old new : Ruled) : Type 0 where
  pub asked : new.plan.asked ≡ old.plan.asked
  pub before : Counts
  pub after : Counts
  pub counts : CountsRise (plan_trace old.plan) (plan_trace new.plan) before after
  pub asks : PlanAsks would old.judge new.judge shown before after old.plan new.plan
  pub once : IsAlone old.plan
      → StepsOnce would old.judge new.judge shown before after old.plan.stack.at new.plan.stack.at
  pub work : plan_work shown new.plan ≤ plan_work shown old.plan
  pub answers : IfSome answer (λ step. PlanMoves shown step old.plan new.plan)
  pub spends : IsAlone old.plan
      → IfSome answer (λ step. PlanSpends step before after (plan_effort shown old.plan) (plan_effort shown new.plan))
  pub few : IsAlone old.plan → FewFetches (wanting answer) shown old.plan new.plan
  pub fits : PlanFits shown new.plan

-- THE AWAITED PIECE IS TAKEN, or no memory was found for it: its leaf is read where it is not held; it is awaited as
-- before, and none was counted; and the trace tells no more than before
pub record TakesOut (shown : Shown) (old new : Ruled) : Type 0 where
  pub judge : new.judge ≡ old.judge
  pub before : Counts
  pub after : Counts
  pub reads : after ≡ piece_read (waiting old.plan) before
  pub counts : CountsRise (plan_trace old.plan) (plan_trace new.plan) before after
  pub once : IsAlone old.plan → TakesOnce shown before after old.plan.stack.at new.plan.stack.at
  pub awaited : plan_awaited new.plan ≡ plan_awaited old.plan
  pub pieces : plan_pieces new.plan ≡ plan_pieces old.plan
  pub course : SameCourse (first_of old.plan.stack).here (first_of new.plan.stack).here
  pub stays : PlanStays shown old.plan new.plan
  pub fits : PlanFits shown new.plan

-- THAT PIECE, SIEVED, IS GIVEN and accepted: where it is not the last of its scan the judge is asked once, and
-- obeyed. Over one FROM item there is none where the background is over.
pub record GivesBack (would : ℕ → Facts → Ruling) (shown : Shown) (old new : Ruled) : Type 0 where
  pub piece : Pieced
  pub awaits : AwaitsPiece (waiting old.plan) piece
  pub obeys : GivesOn would old.judge new.judge piece Accepted (waiting old.plan) (waited old.plan new.plan)
  pub counted : plan_pieces new.plan ≡ one_more (plan_pieces old.plan)
  pub counts : SameCounts (plan_trace old.plan) (plan_trace new.plan)
  pub lowers : plan_work shown new.plan < plan_work shown old.plan
  pub less : IsAlone old.plan → plan_effort shown new.plan < plan_effort shown old.plan
  pub settled : IsAlone old.plan → Settled old.plan.stack.at.here → new ≡ old
  pub stays : PlanStays shown old.plan new.plan
  pub fits : PlanFits shown new.plan

-- what happens to a plan: a foreground step, one for which no memory is found, and a piece that is taken or given
pub data Move : Type 0 where
  Front : Move
  Lost : Move
  Take : Move
  Give : Move

abbrev pub MovesBy : Move → (ℕ → Facts → Ruling) → Shown → Ruled → Ruled → Type 0
MovesBy Front would shown old new = (step : Step Offer) × StepsFront (Some step) would shown old new
MovesBy Lost would shown old new = StepsFront None would shown old new
MovesBy Take would shown old new = TakesOut shown old new
MovesBy Give would shown old new = GivesBack would shown old new

-- these one after another, the last one first in the list
abbrev pub MovesByAll : List Move → (ℕ → Facts → Ruling) → Shown → Ruled → Ruled → Type 0
MovesByAll [] would shown old new = new ≡ old
MovesByAll (move ∷ moves) would shown old new =
    (mid : Ruled) × MovesByAll moves would shown old mid × MovesBy move would shown mid new

-- A PLAN MOVED by foreground steps and pieces taken, sieved and given alone
pub record Moves (would : ℕ → Facts → Ruling) (shown : Shown) (old new : Ruled) : Type 0 where
  pub moves : List Move
  pub made : MovesByAll moves would shown old new

-- A BACKGROUND STEP: the awaited piece is taken, sieved and given. Over one FROM item the effort falls by what the
-- take reads, and by at least one more.
pub record StepsBack (would : ℕ → Facts → Ruling) (shown : Shown) (old new : Ruled) : Type 0 where
  pub taken : Ruled
  pub takes : TakesOut shown old taken
  pub spends : IsAlone old.plan
      → Spends takes.before takes.after (plan_effort shown old.plan) (plan_effort shown taken.plan)
  pub gives : GivesBack would shown taken new

-- a background step, or none since no piece is awaited
abbrev pub WorksPiece : Bool → (ℕ → Facts → Ruling) → Shown → Ruled → Ruled → Type 0
WorksPiece true would shown old new = StepsBack would shown old new
WorksPiece false would shown old new = (plan_awaited old.plan ≡ None) × (new ≡ old)

-- NO MEMORY WAS FOUND FOR A BACKGROUND STEP: of the piece that is awaited the leaf may be held now, and it was not given
pub record LacksMemory (shown : Shown) (old new : Ruled) : Type 0 where
  pub awaits : IsSome (plan_awaited old.plan)
  pub takes : TakesOut shown old new

-- so many background steps
abbrev pub StepsBacks : ℕ → (ℕ → Facts → Ruling) → Shown → Ruled → Ruled → Type 0
StepsBacks zero would shown old new = new ≡ old
StepsBacks (suc n) would shown old new =
    (mid : Ruled) × StepsBacks n would shown old mid × StepsBack would shown mid new

-- so many of them, each while both sides of some retrieval run
abbrev pub StepsBeside : ℕ → (ℕ → Facts → Ruling) → Shown → Ruled → Ruled → Type 0
StepsBeside zero would shown old new = new ≡ old
StepsBeside (suc n) would shown old new =
    (mid : Ruled) × StepsBeside n would shown old mid × (stack_builds mid.plan.stack ≡ true)
    × StepsBack would shown mid new

-- they are as many as asked, or no retrieval has both sides running, or none awaits a piece
pub record EndsBeside (done most : ℕ) (last new : Ruled) : Type 0 where
  pub same : new ≡ last
  pub fewer : done < most → (stack_builds last.plan.stack ≡ false) ⊎ (plan_awaited last.plan ≡ None)

-- one more was to be done, for which no memory was found
pub record LacksBeside (done most : ℕ) (shown : Shown) (last new : Ruled) : Type 0 where
  pub fewer : done < most
  pub builds : stack_builds last.plan.stack ≡ true
  pub lacks : LacksMemory shown last new

-- UP TO SO MANY OF THEM; fewer only where no retrieval has both sides running, none awaits a piece, or no memory was
-- found for the next one
pub record Beside (most : ℕ) (would : ℕ → Facts → Ruling) (shown : Shown) (old new : Ruled) : Type 0 where
  pub done : ℕ
  pub within : done ≤ most
  pub last : Ruled
  pub steps : StepsBeside done would shown old last
  pub ends : EndsBeside done most last new ⊎ LacksBeside done most shown last new

-- A TURN OF A FETCH, which is what it does before another call may come between.

-- beside a step that finds the end nothing is done
abbrev pub BesideBy : Step Offer → ℕ → (ℕ → Facts → Ruling) → Shown → Ruled → Ruled → Type 0
BesideBy (Row o) most would shown old new = Beside most would shown old new
BesideBy End most would shown old new = new ≡ old
BesideBy Working most would shown old new = Beside most would shown old new

-- a foreground step that answers this, and the background steps beside it
pub record Turn (step : Step Offer) (most : ℕ) (would : ℕ → Facts → Ruling) (shown : Shown)
    (old new : Ruled) : Type 0 where
  pub stepped : Ruled
  pub front : StepsFront (Some step) would shown old stepped
  pub beside : BesideBy step most would shown stepped new

-- a reply is made where a row was brought or the end was found, and none exactly where the step answered Working
abbrev pub RepliesTo : Step Offer → Option (Reply × Reply) → Type 0
RepliesTo (Row o) replies = IsSome replies
RepliesTo End replies = IsSome replies
RepliesTo Working replies = replies ≡ None

-- the replies that are made behind a turn: these, or none yet where the plan works on
abbrev pub part_of : Step (Unit {0}) → Reply × Reply → Option (Reply × Reply)
part_of (turned.Row held) replies = Some replies
part_of turned.End replies = Some replies
part_of turned.Working replies = None

-- where a row is in hand, it is given and nothing else is done
abbrev pub TurnMoves : Option Offer → Option (Reply × Reply) → ℕ → (ℕ → Facts → Ruling) → Shown → Ruled → Ruled → Type 0
TurnMoves (Some o) replies most would shown old new = IsSome replies × (new ≡ old)
TurnMoves None replies most would shown old new =
    (step : Step Offer) × RepliesTo step replies × Turn step most would shown old new

-- A FETCH IS TURNS: so many that work on, and a last one, which makes the replies.

abbrev pub TurnsOn : ℕ → ℕ → (ℕ → Facts → Ruling) → Shown → Ruled → Ruled → Type 0
TurnsOn zero most would shown old new = new ≡ old
TurnsOn (suc n) most would shown old new =
    (mid : Ruled) × TurnsOn n most would shown old mid × Turn Working most would shown mid new

pub record FetchMoves (hand : Option Offer) (most : ℕ) (would : ℕ → Facts → Ruling) (shown : Shown)
    (old new : Ruled) : Type 0 where
  pub turns : ℕ
  pub mid : Ruled
  pub made : TurnsOn turns most would shown old mid
  pub replies : Reply × Reply
  pub last : TurnMoves hand (Some replies) most would shown mid new
