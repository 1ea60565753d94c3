-- A call whose reads are counted in the end leaves all else as before that.
use Rattle.std.proofs.Common.{◌≡◌, ◌+◌, ◌-◌, ◌<◌, ◌≤◌, ◌∙◌, ℕ, List, Result, Ok, Err, IfOk, OnErr, None, ap, arith, subst, sym, true}
use Rattle.rv_judge.specs.declared.counting.Counts.{Counts}
use Rattle.rv_judge.specs.declared.events.Control.TheVariants.{Done}
use Rattle.rv_judge.specs.declared.events.Trace.{Trace}
use Rattle.rv_judge.specs.declared.judging.Facts.{Facts}
use Rattle.rv_judge.specs.Verdicts.{Ruling}
use Rattle.rv_value.specs.declared.record.Record.{Record}
use Rattle.rv_reader.specs.Shown.{Shown}
use Rattle.rv_reader.specs.declared.step.Step.{Step}
use Rattle.rv_reader.specs.declared.step.Step.TheVariants.{End}
use Rattle.rv_judge.specs.Counting.{raised}
use Rattle.rv_judge.specs.Tracing.{CountsRise, SameCounts, counted}
use Rattle.rv_jscan.specs.declared.jscan.Taken.{Taken}
use Rattle.rv_jscan.specs.declared.jscan.Taken.TheVariants.{Piece, Nothing}
use Rattle.rv_retrieval.specs.Given.{AwaitsPiece, TakesPiece, awaited}
use Rattle.rv_final.specs.LaneWork.{Spends}
use Rattle.rv_final.specs.Rest.{Steps}
use Rattle.rv_final.specs.Work.{Falls, Tries}
use Rattle.rv_final.proofs.LaneWork.{spends_by}
use Rattle.rv_retrieval.specs.Effort.{effort}
use Rattle.rv_retrieval.specs.Runs.{SameCourse, Tells}
use Rattle.rv_retrieval.specs.Shape.{Ahead, DoesStep, EndsIn, Shape, is_led, rest, source}
use Rattle.rv_retrieval.specs.Short.{fetches_left}
use Rattle.rv_retrieval.specs.Stepping.{DoesIts, OnlyTakes, ReadsIts, StepsAs}
use Rattle.rv_retrieval.proofs.Tellings.{same_course, steps_tells}
use Rattle.rv_retrieval.proofs.Waiting.{counted_course, fewer_fetches, only_counted}

pub counted_same : (old mid new : Shape) (t : Trace) → mid ≡ record old { joint = mid.joint } → new ≡ record mid { trace = t } → new ≡ record old { joint = new.joint; trace = new.trace }
counted_same old mid new t m n = subst (λ (x : Shape). x ≡ record old { joint = x.joint; trace = x.trace }) (sym n) (ap (λ (x : Shape). record x { trace = t }) m)

pub takes_if : {E : Type 0} (r : Result Taken E) (mid new : Shape) (t : Trace) → new ≡ record mid { trace = t } → IfOk r (TakesPiece mid) → IfOk r (TakesPiece new)
takes_if (Ok (Piece piece)) mid new t n a = subst (λ (x : Shape). AwaitsPiece x piece) (sym n) (record { back = a.back; awaits = a.awaits })
takes_if (Ok Nothing) mid new t n a = subst (λ (x : Shape). awaited x ≡ None) (sym n) a
takes_if (Err x) mid new t n a = tt

pub counted_rise : (old mid new : Shape) (c d before after : Counts) → before ≡ c → after ≡ d → SameCounts old.trace mid.trace → new ≡ record mid { trace = counted mid.trace before after } → CountsRise old.trace new.trace c d
counted_rise old mid new c d before after b a s n =
    let rise : CountsRise old.trace (counted mid.trace c d) c d = record {
      pages = ap (λ (k : ℕ). raised k (d.pages - c.pages)) s.pages;
      leaves = ap (λ (k : ℕ). raised k (d.leaves - c.leaves)) s.leaves;
      fetches = ap (λ (k : ℕ). raised k (d.records - c.records)) s.fetches;
    } in
    subst (λ (x : Shape). CountsRise old.trace x.trace c d) (sym n) (subst (λ (x : Counts). CountsRise old.trace (counted mid.trace x after) c d) (sym b) (subst (λ (x : Counts). CountsRise old.trace (counted mid.trace c x) c d) (sym a) rise))

-- A step, of which all is said behind its counts.

pub step_if : {E : Type 0} (r : Result (Step Record) E) (v mid new : Shape) (shown : Shown) → rest new shown ≡ rest mid shown → IfOk r (DoesStep v mid shown) → IfOk r (DoesStep v new shown)
step_if (Ok s) v mid new shown e step = subst (λ (x : List Record). Steps v.query.need v.query.order s (rest v shown) x) (sym e) step
step_if (Err x) v mid new shown e step = tt

pub ends_if : {E : Type 0} (r : Result (Step Record) E) (mid new : Shape) (t : Trace) → new ≡ record mid { trace = t } → IfOk r (EndsIn mid) → r ≡ Ok End → new.control ≡ Done
ends_if r mid new t n ends is = ap (λ (x : Shape). x.control) n ∙ subst (λ x. IfOk x (EndsIn mid)) is ends

pub left_if : {X E : Type 0} (r : Result X E) (old mid new : Shape) (shown : Shown) → rest new shown ≡ rest mid shown → OnErr r (rest mid shown ≡ rest old shown) → OnErr r (rest new shown ≡ rest old shown)
left_if (Ok x) old mid new shown e h = tt
left_if (Err x) old mid new shown e h = e ∙ h

pub does_if : {E : Type 0} (r : Result (Step Record) E) (would : ℕ → Facts → Ruling) (state after : ℕ) (shown : Shown) (c d : Counts) (v mid new : Shape) → new ≡ record mid { trace = counted mid.trace c d } → IfOk r (λ s. DoesIts would state after shown c d s v mid) → IfOk r (ReadsIts v c d) → IfOk r (λ s. StepsAs would state after shown c d s v new)
does_if (Ok s) would state after shown c d v mid new n does reads = record { stepped = mid; does = does; reads = reads; counts = n }
does_if (Err x) would state after shown c d v mid new n does reads = tt

pub tells_if : {E : Type 0} (r : Result (Step Record) E) (would : ℕ → Facts → Ruling) (state after : ℕ) (shown : Shown) (c d : Counts) (v mid : Shape) → (source v ≡ Ahead → is_led v.strategy ≡ true) → IfOk r (λ s. DoesIts would state after shown c d s v mid) → OnErr r (SameCourse v mid) → Tells v → Tells mid
tells_if (Ok s) would state after shown c d v mid led does course t = steps_tells would state after shown c d s v mid led does t
tells_if (Err x) would state after shown c d v mid led does course t = same_course v mid course t

pub still_if : {X E : Type 0} (r : Result X E) (v mid new : Shape) (t : Trace) → new ≡ record mid { trace = t } → OnErr r (OnlyTakes v mid) → OnErr r (OnlyTakes v new)
still_if (Ok x) v mid new t n only = tt
still_if (Err x) v mid new t n only = only_counted v mid new t n only

pub fewer_if : {X E : Type 0} (r : Result X E) (v new : Shape) (shown : Shown) → OnErr r (OnlyTakes v new) → OnErr r (fetches_left new shown ≤ fetches_left v shown)
fewer_if (Ok x) v new shown only = tt
fewer_if (Err x) v new shown only = fewer_fetches v new shown only

pub course_on : {X E : Type 0} (r : Result X E) (v mid new : Shape) (c d : Counts) → new ≡ record mid { trace = counted mid.trace c d } → OnErr r (SameCourse v mid) → OnErr r (SameCourse v new)
course_on (Ok x) v mid new c d n course = tt
course_on (Err x) v mid new c d n course = counted_course v mid new c d n course

pub records_if : {X E : Type 0} (r : Result X E) (after before most : ℕ) (mid new : Shape) (t : Trace) (shown : Shown) → new ≡ record mid { trace = t } → IfOk r (λ s. after + fetches_left mid shown ≤ before + most) → IfOk r (λ s. after + fetches_left new shown ≤ before + most)
records_if (Ok x) after before most mid new t shown n few = subst (λ (v : Shape). after + fetches_left v shown ≤ before + most) (sym n) few
records_if (Err x) after before most mid new t shown n few = tt

pub spends_if : {E : Type 0} (r : Result (Step Record) E) (c d : Counts) (v mid new : Shape) (t : Trace) (shown : Shown) → new ≡ record mid { trace = t } → Tries c d (effort v shown) (effort mid shown) → IfOk r (λ s. Falls s c d (effort v shown) (effort mid shown)) → IfOk r (λ s. Spends s c d (effort v shown) (effort new shown))
spends_if r c d v mid new t shown n tries falls = subst (λ (x : Shape). IfOk r (λ s. Spends s c d (effort v shown) (effort x shown))) (sym n) (spends_by r c d (effort v shown) (effort mid shown) tries falls)

-- What is spent within a bound.

pub effort_within : (a b most : ℕ) → a ≤ b → b < most → a ≤ most
effort_within a b most less within = omega arith

pub spent_within : (reads before a b most : ℕ) → reads + a ≤ before + b → b < most → reads + a ≤ before + most
spent_within reads before a b most spent within = omega arith

pub tried_within : (reads before b most : ℕ) → reads ≤ before + b + 1 → b < most → reads ≤ before + most
tried_within reads before b most tried within = omega arith

pub none_within : (reads most : ℕ) → reads ≤ reads + most
none_within reads most = omega arith
