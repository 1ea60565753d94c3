-- What a step of the stage in which a plan is comes to, before its reads are counted.
use Rattle.std.proofs.Common.{◌≡◌, ℕ, Result, IfOk, OnErr, OnOk, inr, refl, subst, sym, ap}
use Rattle.rv_judge.specs.declared.counting.Counts.{Counts}
use Rattle.rv_judge.specs.declared.judging.Facts.{Facts}
use Rattle.rv_judge.specs.Verdicts.{Ruling}
use Rattle.rv_model.specs.declared.state.Offer.{Offer}
use Rattle.rv_reader.specs.Shown.{Shown}
use Rattle.rv_reader.specs.declared.step.Step.{Step}
use Rattle.rv_access.specs.Accesses.{SamePlans}
use Rattle.rv_join.specs.declared.gather.Stage.TheVariants.{AsFound, Giving}
use Rattle.rv_join.specs.Alone.{Fetches, IsAlone, MovedSpends, PlanAsks, PlanSpends, StackAsks, StepsOnce, level_effort, plan_effort}
use Rattle.rv_join.specs.Levels.{Stacked, first_of}
use Rattle.rv_join.specs.Moves.{Kept, Moves}
use Rattle.rv_join.specs.Plans.{Gives, HoldsGood, PlanKept, PlanMoves, Planned, RisesAlone}
use Rattle.rv_value.proofs.Lists.{on_ok}
use Rattle.rv_join.proofs.Going.{asks_none}
use Rattle.rv_access.proofs.Accesses.{plans_stay}
use Rattle.rv_join.proofs.OneItem.{fetches_same, given_spends, moved_spends, no_call}
use Rattle.rv_join.proofs.Planning.{found_failed, found_fits, found_step, given_fits, given_step, not_given}

pub record Staged {E : Type 0} (r : Result (Step Offer) E) (would : ℕ → Facts → Ruling) (state after : ℕ) (shown : Shown) (c d : Counts) (old mid : Planned) : Type 0 where
  pub step : IfOk r (λ m. PlanMoves shown m old mid)
  pub holds : HoldsGood shown mid
  pub alone : RisesAlone old mid c d
  pub asks : PlanAsks would state after shown c d old mid
  pub once : IsAlone old → StepsOnce would state after shown c d old.stack.at mid.stack.at
  pub spends : IsAlone old → IfOk r (λ m. PlanSpends m c d (plan_effort shown old) (plan_effort shown mid))
  pub fetches : IsAlone old → OnOk r (Fetches shown c d old.stack.at.here mid.stack.at.here)
  pub plans : SamePlans (first_of old.stack).here (first_of mid.stack).here
  pub reads : mid.reads ≡ old.reads
  pub err : OnErr r (PlanKept shown old mid)

-- offers are given as they are found
pub found_staged : {E : Type 0} (r : Result (Step Offer) E) (would : ℕ → Facts → Ruling) (state after : ℕ) (shown : Shown) (c d : Counts) (old v : Planned) (stack : Stacked) → old ≡ v → HoldsGood shown v → v.stage ≡ AsFound → IfOk r (λ m. Moves old.asked shown m old.stack stack) → RisesAlone old (record old { stack = stack }) c d
    → StackAsks would state after old.asked shown c d old.stack stack → (IsAlone old → StepsOnce would state after shown c d old.stack.at stack.at) → (IsAlone old → IfOk r (λ m. MovedSpends m c d (level_effort shown old.stack.at) (level_effort shown stack.at)))
    → (IsAlone old → OnOk r (Fetches shown c d old.stack.at.here stack.at.here)) → SamePlans (first_of old.stack).here (first_of stack).here → OnErr r (Kept old.asked shown old.stack stack) → Staged r would state after shown c d v (record old { stack = stack })
found_staged r would state after shown c d old v stack is holds found moves alone asks once spends fetches plans err =
    let new : Planned = record old { stack = stack } in
    let good = subst (HoldsGood shown) (sym is) holds in
    let stage = subst (λ (p : Planned). p.stage ≡ AsFound) (sym is) found in
    subst (λ (p : Planned). Staged r would state after shown c d p new) is (record {
      step = found_step r shown old new good stage moves refl;
      holds = found_fits r shown old new good stage moves err refl;
      alone = alone;
      asks = asks;
      once = once;
      spends = λ one. moved_spends r c d _ _ (spends one);
      fetches = fetches;
      plans = plans;
      reads = refl;
      err = found_failed r shown old new stage err refl;
    })

-- the next of the offers that are sorted is given, and nothing is read
pub given_staged : {E : Type 0} (r : Result (Step Offer) E) (would : ℕ → Facts → Ruling) (state : ℕ) (shown : Shown) (c : Counts) (old new : Planned) → HoldsGood shown old → old.stage ≡ Giving → IfOk r (λ m. Gives m old.gathered new.gathered) → new ≡ record old { gathered = new.gathered } → OnErr r (new ≡ old) → Staged r would state state shown c c old new
given_staged r would state shown c old new holds giving gives same err =
    let stack = ap (λ (p : Planned). p.stack) same in
    record {
      step = given_step r shown old new holds giving gives same;
      holds = given_fits r shown old new holds giving gives err same;
      alone = λ one. inr (ap (λ (v : Stacked). (first_of v).here) stack, refl);
      asks = asks_none would state state old.asked shown c old.stack new.stack stack refl;
      once = λ one. subst (λ (v : Stacked). StepsOnce would state state shown c c old.stack.at v.at) (sym stack) (no_call would state shown c old.stack.at);
      spends = λ one. subst (λ (p : Planned). IfOk r (λ m. PlanSpends m c c (plan_effort shown old) (plan_effort shown p))) (sym same) (given_spends r _ _ gives c (plan_effort shown old));
      fetches = λ one. on_ok r _ (fetches_same shown c old new same);
      plans = subst (λ (v : Stacked). SamePlans (first_of old.stack).here (first_of v).here) (sym stack) (plans_stay (first_of old.stack).here);
      reads = ap (λ (p : Planned). p.reads) same;
      err = not_given r shown old new err;
    }
