-- How many turns a FETCH takes.
use Rattle.std.proofs.Common.{◌≡◌, ◌⊎◌, ℕ, ◌+◌, ◌<◌, ◌≤◌, Option, inl, inr, ap, arith, le_trans, zero, suc}
use Rattle.rv_judge.specs.declared.judging.Facts.{Facts}
use Rattle.rv_judge.specs.Verdicts.{Ruling}
use Rattle.rv_model.specs.declared.state.Offer.{Offer}
use Rattle.rv_reader.specs.Shown.{Shown}
use Rattle.rv_join.specs.Plans.{plan_work}
use Rattle.rv_reader.specs.declared.step.Step.TheVariants.{Working}
use Rattle.rv_cursor.specs.Moves.{Beside, EndsBeside, FetchMoves, LacksBeside, Ruled, StepsBack, StepsBeside, Turn, TurnsOn}

same_work : (shown : Shown) (old new : Ruled) → new ≡ old → plan_work shown new.plan ≤ plan_work shown old.plan
same_work shown old new same = at (plan_work shown old.plan) (plan_work shown new.plan) (ap (λ (r : Ruled). plan_work shown r.plan) same)
  where
    at : (a b : ℕ) → b ≡ a → b ≤ a
    at a b e = omega (arith, e)

then_less : (a b c : ℕ) → b ≤ a → c < b → c ≤ a
then_less a b c first then = omega (arith, first, then)

back_works : (would : ℕ → Facts → Ruling) (shown : Shown) (old new : Ruled) → StepsBack would shown old new → plan_work shown new.plan ≤ plan_work shown old.plan
back_works would shown old new b = then_less (plan_work shown old.plan) (plan_work shown b.taken.plan) (plan_work shown new.plan) b.takes.stays.work b.gives.lowers

steps_work : (done : ℕ) (would : ℕ → Facts → Ruling) (shown : Shown) (old new : Ruled) → StepsBeside done would shown old new → plan_work shown new.plan ≤ plan_work shown old.plan
steps_work zero would shown old new steps = same_work shown old new steps
steps_work (suc n) would shown old new steps = le_trans (back_works would shown steps.0 new steps.3) (steps_work n would shown old steps.0 steps.1)

ends_work : (done most : ℕ) (shown : Shown) (last new : Ruled) → EndsBeside done most last new ⊎ LacksBeside done most shown last new → plan_work shown new.plan ≤ plan_work shown last.plan
ends_work done most shown last new (inl e) = same_work shown last new e.same
ends_work done most shown last new (inr l) = l.lacks.takes.stays.work

beside_works : (most : ℕ) (would : ℕ → Facts → Ruling) (shown : Shown) (old new : Ruled) → Beside most would shown old new → plan_work shown new.plan ≤ plan_work shown old.plan
beside_works most would shown old new b = le_trans (ends_work b.done most shown b.last new b.ends) (steps_work b.done would shown old b.last b.steps)

-- a turn that works on lowers the work left
turn_works : (most : ℕ) (would : ℕ → Facts → Ruling) (shown : Shown) (old new : Ruled) → Turn Working most would shown old new → plan_work shown new.plan < plan_work shown old.plan
turn_works most would shown old new t = down (plan_work shown old.plan) (plan_work shown t.stepped.plan) (plan_work shown new.plan) t.front.answers.work (beside_works most would shown t.stepped new t.beside)
  where
    down : (a b c : ℕ) → b < a → c ≤ b → c < a
    down a b c first then = omega (arith, first, then)

turns_on : (n a b c : ℕ) → n + b ≤ a → c < b → suc n + c ≤ a
turns_on n a b c first then = omega (arith, first, then)

pub turns_work : (n most : ℕ) (would : ℕ → Facts → Ruling) (shown : Shown) (old new : Ruled) → TurnsOn n most would shown old new → n + plan_work shown new.plan ≤ plan_work shown old.plan
turns_work zero most would shown old new t = none (plan_work shown old.plan) (plan_work shown new.plan) (same_work shown old new t)
  where
    none : (a b : ℕ) → b ≤ a → 0 + b ≤ a
    none a b h = omega (arith, h)
turns_work (suc n) most would shown old new t = turns_on n (plan_work shown old.plan) (plan_work shown t.0.plan) (plan_work shown new.plan) (turns_work n most would shown old t.0 t.1) (turn_works most would shown t.0 new t.2)

pub fetch_ends : (hand : Option Offer) (most : ℕ) (would : ℕ → Facts → Ruling) (shown : Shown) (old new : Ruled) (fetch : FetchMoves hand most would shown old new) → fetch.turns + plan_work shown fetch.mid.plan ≤ plan_work shown old.plan
fetch_ends hand most would shown old new fetch = turns_work fetch.turns most would shown old fetch.mid fetch.made
