-- How nested loops go on, and what a step of a plan asks.
use Rattle.std.proofs.Common.{◌≡◌, ℕ, [], ◌∷◌, ◌++◌, Result, Ok, Err, IfOk, OnOk, OnErr, refl, sym, subst, inl, inr}
use Rattle.rv_judge.specs.declared.counting.Counts.{Counts}
use Rattle.rv_judge.specs.declared.judging.Facts.{Facts}
use Rattle.rv_judge.specs.Verdicts.{Ruling}
use Rattle.rv_judge.specs.Counting.{raised}
use Rattle.rv_reader.specs.Shown.{Shown}
use Rattle.rv_retrieval.specs.Short.{OnlyLeaves}
use Rattle.rv_join.specs.declared.level.Level.{Level}
use Rattle.rv_join.specs.declared.places.Asked.{Asked}
use Rattle.rv_join.specs.Alone.{Fetches, GoesOn, IsAlone, PlanAsks, PlanSpends, StackAsks, StepsOnce, level_effort, plan_effort}
use Rattle.rv_join.specs.Alone.Onward.{Rests, Uses, Opens, Fails, Returns}
use Rattle.rv_join.specs.Levels.{Stacked, down, used}
use Rattle.rv_join.specs.Moves.{OpensInner}
use Rattle.rv_join.specs.Plans.{Planned}
use Rattle.rv_reader.specs.declared.step.Step.{Step}
use Rattle.rv_model.specs.declared.state.Offer.{Offer}

pub goes_not : (a : Asked) (shown : Shown) (c : Counts) (v : Stacked) → GoesOn a shown c c v v
goes_not a shown c v = (Rests, (refl, refl))

pub goes_same : (a : Asked) (shown : Shown) (c : Counts) (old new : Stacked) → new ≡ old → GoesOn a shown c c old new
goes_same a shown c old new same = (Rests, (same, refl))

-- no memory was found to open the next item's access
pub goes_fails : (a : Asked) (shown : Shown) (c d : Counts) (old new : Stacked) → OnlyLeaves c d → new ≡ old → GoesOn a shown c d old new
goes_fails a shown c d old new only same = (Fails, (same, only))

pub goes_down : (a : Asked) (shown : Shown) (c d : Counts) (old new : Stacked) (inner : Level) → OpensInner a shown (raised old.openings 1) c d old.at inner → new ≡ down old inner → GoesOn a shown c d old new
goes_down a shown c d old new inner opens is = (Opens inner, (is, opens))

-- the row that is held was used, or no memory was found for that
pub goes_used : {X E : Type 0} (r : Result X E) (a : Asked) (shown : Shown) (c : Counts) (old new : Stacked) → OnOk r (new ≡ used old) → OnErr r (new ≡ old) → GoesOn a shown c c old new
goes_used (Ok x) a shown c old new ok err = (Uses, (ok, refl))
goes_used (Err e) a shown c old new ok err = (Rests, (err, refl))

pub goes_up : (a : Asked) (shown : Shown) (c : Counts) (old new : Stacked) → old.above ≡ new.above ++ new.at ∷ [] → new.openings ≡ old.openings → GoesOn a shown c c old new
goes_up a shown c old new above openings = (Returns, (above, openings, refl))

-- the innermost retrieval was called, and the loops went on
pub calls_on : (would : ℕ → Facts → Ruling) (state after : ℕ) (a : Asked) (shown : Shown) (c d e : Counts) (old mid new : Stacked) → mid ≡ record old { at = mid.at } → StepsOnce would state after shown c d old.at mid.at → GoesOn a shown d e mid new → StackAsks would state after a shown c e old new
calls_on would state after a shown c d e old mid new same once goes = inl (record { level = mid.at; counts = d; once = once; goes = subst (λ (v : Stacked). GoesOn a shown d e v new) same goes })

pub calls_at : (would : ℕ → Facts → Ruling) (state after : ℕ) (a : Asked) (shown : Shown) (c d : Counts) (old mid : Stacked) → mid ≡ record old { at = mid.at } → StepsOnce would state after shown c d old.at mid.at → StackAsks would state after a shown c d old mid
calls_at would state after a shown c d old mid same once = calls_on would state after a shown c d d old mid mid same once (goes_not a shown d mid)

-- nothing was called
pub asks_none : (would : ℕ → Facts → Ruling) (state after : ℕ) (a : Asked) (shown : Shown) (c : Counts) (old new : Stacked) → new ≡ old → after ≡ state → StackAsks would state after a shown c c old new
asks_none would state after a shown c old new same quiet = inr (same, refl, quiet)

-- behind the step the stack stays
pub asks_then : (would : ℕ → Facts → Ruling) (state after : ℕ) (shown : Shown) (c d : Counts) (old mid new : Planned) → PlanAsks would state after shown c d old mid → new.stack ≡ mid.stack → PlanAsks would state after shown c d old new
asks_then would state after shown c d old mid new asks same = subst (λ (v : Stacked). StackAsks would state after old.asked shown c d old.stack v) (sym same) asks

pub once_then : (would : ℕ → Facts → Ruling) (state after : ℕ) (shown : Shown) (c d : Counts) (old mid new : Planned) → (IsAlone old → StepsOnce would state after shown c d old.stack.at mid.stack.at) → new.stack ≡ mid.stack → IsAlone old → StepsOnce would state after shown c d old.stack.at new.stack.at
once_then would state after shown c d old mid new once same one = subst (λ (v : Stacked). StepsOnce would state after shown c d old.stack.at v.at) (sym same) (once one)

pub spends_then : {E : Type 0} (r : Result (Step Offer) E) (shown : Shown) (c d : Counts) (old mid new : Planned) → (IsAlone old → IfOk r (λ m. PlanSpends m c d (plan_effort shown old) (plan_effort shown mid))) → new.stack ≡ mid.stack → IsAlone old → IfOk r (λ m. PlanSpends m c d (plan_effort shown old) (plan_effort shown new))
spends_then r shown c d old mid new spends same one = subst (λ (v : Stacked). IfOk r (λ m. PlanSpends m c d (plan_effort shown old) (level_effort shown v.at))) (sym same) (spends one)

pub fetches_then : (shown : Shown) (c d : Counts) (old mid new : Planned) → (IsAlone old → Fetches shown c d old.stack.at.here mid.stack.at.here) → new.stack ≡ mid.stack → IsAlone old → Fetches shown c d old.stack.at.here new.stack.at.here
fetches_then shown c d old mid new fetches same one = subst (λ (v : Stacked). Fetches shown c d old.stack.at.here v.at.here) (sym same) (fetches one)

pub fetches_if : {X E : Type 0} (r : Result X E) (shown : Shown) (c d : Counts) (old mid new : Planned) → (IsAlone old → Fetches shown c d old.stack.at.here mid.stack.at.here) → new.stack ≡ mid.stack → IsAlone old → OnOk r (Fetches shown c d old.stack.at.here new.stack.at.here)
fetches_if (Ok x) shown c d old mid new fetches same one = fetches_then shown c d old mid new fetches same one
fetches_if (Err e) shown c d old mid new fetches same one = tt
