-- Steps of a search one after another, from its opening to its end.
use Rattle.std.proofs.Common.{◌≡◌, ◌⊎◌, ℕ, List, [], ◌∷◌, ◌++◌, false, refl, sym, subst, inr, Result, Ok, Err, IfOk, OnOk, OnErr}
use Rattle.rv_judge.specs.declared.counting.Counts.{Counts}
use Rattle.rv_judge.specs.declared.judging.Facts.{Facts}
use Rattle.rv_judge.specs.Tracing.{CountsAll}
use Rattle.rv_judge.specs.Verdicts.{Ruling}
use Rattle.rv_reader.specs.Shown.{Shown}
use Rattle.rv_choice.specs.declared.query.Query.{Query}
use Rattle.rv_reader.specs.declared.step.Step.{Step}
use Rattle.rv_value.specs.declared.record.Record.{Record}
use Rattle.rv_reader.specs.declared.step.Step.TheVariants.{End}
use Rattle.rv_retrieval.specs.Opened.{Opened}
use Rattle.rv_retrieval.specs.Shape.{Shape}
use Rattle.rv_retrieval.specs.Short.{OnlyLeaves, has_short}
use Rattle.rv_retrieval.specs.Stepping.{StepsAs}
use Rattle.rv_search.specs.Searching.{Goes, GoesOut, GoesSome, Ran, RanFetched, RanOut, Searched, StepsAll, searched}

steps_on : (more first : List (Step Record)) (would : ℕ → Facts → Ruling) (shown : Shown) (a b c : Searched) → StepsAll first would shown a b → StepsAll more would shown b c → StepsAll (more ++ first) would shown a c
steps_on [] first would shown a b c before then = subst (StepsAll first would shown a) (sym then) before
steps_on (fg ∷ more) first would shown a b c before then = (then.0, steps_on more first would shown a b then.0 before then.1, then.2)

-- no step
pub goes_none : (would : ℕ → Facts → Ruling) (state : ℕ) (shown : Shown) (c : Counts) (old : Shape) → Goes would state state shown c c old old
goes_none would state shown c old = record { answers = []; made = refl }

-- one step more
pub goes_on : (v w : ℕ → Facts → Ruling) (s t u : ℕ) (shown : Shown) (c d e : Counts) (old mid new : Shape) → v ≡ w → Goes w s t shown c d old mid → (fg : Step Record) × StepsAs v t u shown d e fg mid new → Goes w s u shown c e old new
goes_on v w s t u shown c d e old mid new rule before step = record {
  answers = step.0 ∷ before.answers;
  made = (searched mid t d, before.made, subst (λ (x : ℕ → Facts → Ruling). StepsAs x t u shown d e step.0 mid new) rule step.1);
}

-- the step that finds the end
pub goes_out : (v w : ℕ → Facts → Ruling) (s t u : ℕ) (shown : Shown) (c d e : Counts) (old mid new : Shape) → v ≡ w → Goes w s t shown c d old mid → StepsAs v t u shown d e End mid new → GoesOut w s u shown c e old
goes_out v w s t u shown c d e old mid new rule before step = record {
  before = before.answers;
  last = new;
  made = (searched mid t d, before.made, subst (λ (x : ℕ → Facts → Ruling). StepsAs x t u shown d e End mid new) rule step);
}

-- memory was wanting behind a step, or for it
pub some_one : (would : ℕ → Facts → Ruling) (state after : ℕ) (shown : Shown) (c d : Counts) (fg : Step Record) (old new : Shape) → StepsAs would state after shown c d fg old new → GoesSome would state after shown c old
some_one would state after shown c d fg old new step = record { last = new; counts = d; goes = record { answers = fg ∷ []; made = (searched old state c, refl, step) } }

pub some_none : (would : ℕ → Facts → Ruling) (state after : ℕ) (shown : Shown) (c : Counts) (old : Shape) → after ≡ state → GoesSome would state after shown c old
some_none would state after shown c old quiet = subst (λ (n : ℕ). GoesSome would state n shown c old) (sym quiet) (record { last = old; counts = c; goes = goes_none would state shown c old })

pub some_on : (v w : ℕ → Facts → Ruling) (s t u : ℕ) (shown : Shown) (c d : Counts) (old mid : Shape) → v ≡ w → Goes w s t shown c d old mid → GoesSome v t u shown d mid → GoesSome w s u shown c old
some_on v w s t u shown c d old mid rule before more = by (subst (λ (x : ℕ → Facts → Ruling). GoesSome x t u shown d mid) rule more)
  where
    by : GoesSome w t u shown d mid → GoesSome w s u shown c old
    by more = record {
      last = more.last;
      counts = more.counts;
      goes = record { answers = more.goes.answers ++ before.answers; made = steps_on more.goes.answers before.answers w shown (searched old s c) (searched mid t d) (searched more.last u more.counts) before.made more.goes.made };
    }

-- From the opening on.

pub ran_out : {X E : Type 0} (r : Result X E) (would : ℕ → Facts → Ruling) (state after : ℕ) (shown : Shown) (c d e : Counts) (query : Query) (v : Shape) → Opened query shown 0 0 v → OnlyLeaves c d → (has_short query shown ≡ false → d ≡ c) → CountsAll v.trace c d → OnOk r (GoesOut would state after shown d e v) → OnOk r (RanOut would state after shown c e query)
ran_out (Ok x) would state after shown c d e query v opened only unread told goes = record { begun = v; counts = d; only = only; unread = unread; told = told; opened = opened; goes = goes }
ran_out (Err x) would state after shown c d e query v opened only unread told goes = tt

pub ran_lost : {X E : Type 0} (r : Result X E) (would : ℕ → Facts → Ruling) (state after : ℕ) (shown : Shown) (d : Counts) (query : Query) (v : Shape) → Opened query shown 0 0 v → OnErr r (GoesSome would state after shown d v) → OnErr r ((after ≡ state) ⊎ Ran would state after shown query)
ran_lost (Ok x) would state after shown d query v opened goes = tt
ran_lost (Err x) would state after shown d query v opened goes = inr (record { begun = v; counts = d; opened = opened; goes = goes })

pub ran_of : (would : ℕ → Facts → Ruling) (state after : ℕ) (shown : Shown) (c d : Counts) (query : Query) → RanOut would state after shown c d query → Ran would state after shown query
ran_of would state after shown c d query ran = record {
  begun = ran.begun;
  counts = ran.counts;
  opened = ran.opened;
  goes = record { last = ran.goes.last; counts = d; goes = record { answers = End ∷ ran.goes.before; made = ran.goes.made } };
}

-- whatever it came to
pub ran_any : {X E : Type 0} (r : Result X E) (most : X → ℕ) (would : ℕ → Facts → Ruling) (state after : ℕ) (shown : Shown) (c d : Counts) (query : Query) → IfOk r (λ x. RanFetched (most x) would state after shown c d query) → OnErr r ((after ≡ state) ⊎ Ran would state after shown query) → (after ≡ state) ⊎ Ran would state after shown query
ran_any (Ok x) most would state after shown c d query ran lost = inr (ran_of would state after shown c ran.counts query ran.ran)
ran_any (Err e) most would state after shown c d query ran lost = lost

-- for what is asked in the same words
pub ran_for : (would : ℕ → Facts → Ruling) (state after : ℕ) (shown : Shown) (c d : Counts) (q r : Query) → q ≡ r → RanOut would state after shown c d q → RanOut would state after shown c d r
ran_for would state after shown c d q r same ran = subst (RanOut would state after shown c d) same ran

pub lost_for : (would : ℕ → Facts → Ruling) (state after : ℕ) (shown : Shown) (q r : Query) → q ≡ r → (after ≡ state) ⊎ Ran would state after shown q → (after ≡ state) ⊎ Ran would state after shown r
lost_for would state after shown q r same lost = subst (λ (x : Query). (after ≡ state) ⊎ Ran would state after shown x) same lost
