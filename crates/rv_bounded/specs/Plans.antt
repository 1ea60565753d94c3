-- HOW MUCH A PLAN OVER ONE FROM ITEM READS UNDER JUDGES THAT ARE BOUNDED: the calls that a cursor makes of its plan,
-- one after another, each under a judge of its own, over what the cursor sees.
use Rattle.std.specs.Prelude.{◌≡◌, ℕ, ◌+◌, ◌*◌, ◌/◌, ◌^◌, ◌<◌, ◌≤◌, false, not, ◌&&◌, List, [], ◌∷◌, length}
use Rattle.std.specs.Prelude.{Some, None, is_some, if◌then◌else◌, Box}
use Rattle.std.specs.declared.alloc.Global.{Global}
use Rattle.std.proofs.Common.{inl, inr}
use Rattle.rv_judge.specs.declared.counting.Counts.{Counts}
use Rattle.rv_judge.specs.declared.events.Strategy.TheVariants.{BackgroundOnly, FastFirst}
use Rattle.rv_judge.specs.declared.judging.Facts.{Facts}
use Rattle.rv_judge.specs.Tracing.{CountsRise, SameCounts}
use Rattle.rv_judge.specs.Verdicts.{Ruling}
use Rattle.rv_reader.specs.Shown.{Shown}
use Rattle.rv_jscan.specs.declared.jscan.Given.{Given}
use Rattle.rv_jscan.specs.Pieces.{Pieced}
use Rattle.rv_retrieval.specs.Shape.{Shape}
use Rattle.rv_retrieval.specs.Short.{has_short}
use Rattle.rv_access.specs.declared.access.Access.{Access}
use Rattle.rv_access.specs.declared.access.Access.TheVariants.{Competing}
use Rattle.rv_access.specs.Accesses.{held_of}
use Rattle.rv_access.specs.Given.{GivesOn, awaited, piece_read}
use Rattle.rv_join.specs.Alone.{CallsOnce, IsAlone, StepsOnce, TakesOnce}
use Rattle.rv_join.specs.Pieces.{GivesPiece, waited, waiting}
use Rattle.rv_join.specs.Plans.{LeadsWith, PlanFits, Planned, plan_trace}
use Rattle.skew_judges.specs.Guard.{IsBounded}
use Rattle.rv_bounded.specs.Bounds.{reads_told, spare}

-- a step, whatever it answers, from and to some state of the judge
pub record PlanSteps (would : ℕ → Facts → Ruling) (shown : Shown) (old new : Planned) : Type 0 where
  pub state : ℕ
  pub after : ℕ
  pub before : Counts
  pub behind : Counts
  pub asked : new.asked ≡ old.asked
  pub once : IsAlone old → StepsOnce would state after shown before behind old.stack.at new.stack.at
  pub counts : CountsRise (plan_trace old) (plan_trace new) before behind
  pub fits : PlanFits shown new

-- the awaited piece is taken, or no memory is found for it
pub record PlanTakes (shown : Shown) (old new : Planned) : Type 0 where
  pub before : Counts
  pub behind : Counts
  pub asked : new.asked ≡ old.asked
  pub once : IsAlone old → TakesOnce shown before behind old.stack.at new.stack.at
  pub reads : behind ≡ piece_read (waiting old) before
  pub counts : CountsRise (plan_trace old) (plan_trace new) before behind
  pub fits : PlanFits shown new

-- a piece is given, the awaited one or another
pub record PlanGives (would : ℕ → Facts → Ruling) (shown : Shown) (old new : Planned) : Type 0 where
  pub state : ℕ
  pub after : ℕ
  pub piece : Pieced
  pub given : Given
  pub asked : new.asked ≡ old.asked
  pub answers : GivesPiece old piece given new
  pub obeys : GivesOn would state after piece given (waiting old) (waited old new)
  pub counts : SameCounts (plan_trace old) (plan_trace new)
  pub fits : PlanFits shown new

pub data PlanCall : Type 0 where
  Steps : PlanCall
  Takes : PlanCall
  Gives : PlanCall

abbrev pub PlanDoes : PlanCall → (ℕ → Facts → Ruling) → Shown → Planned → Planned → Type 0
PlanDoes Steps would shown old new = PlanSteps would shown old new
PlanDoes Takes would shown old new = PlanTakes shown old new
PlanDoes Gives would shown old new = PlanGives would shown old new

-- a call of the one retrieval for which no memory was found
abbrev pub lost_call : {would : ℕ → Facts → Ruling} {state after : ℕ} {shown : Shown} {c d : Counts} {old new : Access}
    → CallsOnce would state after shown c d old new → ℕ
lost_call (inl (Some fg, calls)) = 0
lost_call (inl (None, calls)) = 1
lost_call (inr still) = 0

-- a piece is awaited whose leaf is not held
abbrev pub lost_leaf : Access → ℕ
lost_leaf a = if is_some (awaited a) && not (is_some (held_of a)) then 1 else 0

-- what a call loses at most where no memory is found for it, which may have read once in vain
abbrev pub PlanLoses : (call : PlanCall) (would : ℕ → Facts → Ruling) (shown : Shown) (old new : Planned)
    → PlanDoes call would shown old new → ℕ → Type 0
PlanLoses Steps would shown old new does lost = (one : IsAlone old) → lost_call (does.once one).calls ≤ lost
PlanLoses Takes would shown old new does lost = lost_leaf new.stack.at.here ≤ lost
PlanLoses Gives would shown old new does lost = Unit {0}

-- a call under some judge that is bounded, which loses at most so many
pub record PlanSpends (call : PlanCall) (shown : Shown) (lost : ℕ) (old new : Planned) : Type 0 where
  pub would : ℕ → Facts → Ruling
  pub bounded : IsBounded would
  pub does : PlanDoes call would shown old new
  pub loses : PlanLoses call would shown old new does lost

-- such calls one after another, the last one first in the list
abbrev pub PlanSpendsAll : List PlanCall → Shown → ℕ → Planned → Planned → Type 0
PlanSpendsAll [] shown lost old new = new ≡ old
PlanSpendsAll (call ∷ calls) shown lost old new =
    (mid : Planned) × (m k : ℕ) × PlanSpendsAll calls shown m old mid × PlanSpends call shown k mid new × (m + k ≤ lost)

-- WHAT `open` TELLS OF A PLAN over one FROM item, which this access reads
pub record PlanBegins (shown : Shown) (opened : Planned) (access : Access) : Type 0 where
  pub fits : PlanFits shown opened
  pub leads : LeadsWith shown opened
  pub one : IsAlone opened
  pub here : opened.stack.at.here ≡ access

-- the same of one that a retrieval reads, in which no index is short
pub record PlanOpens (shown : Shown) (opened : Planned) (v : Box Shape Global) : Type 0 where
  pub begins : PlanBegins shown opened (Competing v)
  pub long : has_short v.value.query shown ≡ false

-- LAW: where that retrieval is background-only, such a plan never reads more beside what its opening read than twice
-- the table's pages, two leaves for each planned scan and 48 records, but for one for each call for which no memory was
-- found; whatever calls come, in whatever order, under whatever judges that are bounded
abbrev pub PlansAreBounded : Type 0
PlansAreBounded =
    (shown : Shown) (calls : List PlanCall) (lost : ℕ) (opened now : Planned) (v : Box Shape Global)
    → PlanOpens shown opened v → v.value.strategy ≡ BackgroundOnly
    → shown.pages v.value.query.table v.value.query.snap < 2 ^ 63 → PlanSpendsAll calls shown lost opened now
    → reads_told (plan_trace now)
    ≤ reads_told (plan_trace opened)
    + (2 * shown.pages v.value.query.table v.value.query.snap + 2 * length v.value.joint.plans + 48) + lost

-- LAW: and where it is fast-first, than twice the table's pages, twice an eighth of them, and 50 for each planned scan,
-- and of a table that has fewer than 64 pages an eighth of them more
abbrev pub FastPlansAreBounded : Type 0
FastPlansAreBounded =
    (shown : Shown) (calls : List PlanCall) (lost : ℕ) (opened now : Planned) (v : Box Shape Global)
    → PlanOpens shown opened v → v.value.strategy ≡ FastFirst
    → shown.pages v.value.query.table v.value.query.snap < 2 ^ 63 → PlanSpendsAll calls shown lost opened now
    → reads_told (plan_trace now)
    ≤ reads_told (plan_trace opened)
    + (2 * shown.pages v.value.query.table v.value.query.snap
    + (2 * (shown.pages v.value.query.table v.value.query.snap / 8)
    + spare (shown.pages v.value.query.table v.value.query.snap)) + 50 * length v.value.joint.plans) + lost
