-- What the calls of an access leave, by its kinds.
use Rattle.std.proofs.Common.{◌≤◌, arith, ap, ◌≡◌, ℕ, Some, None, Result, Ok, Err, IfOk, OnErr, Box, refl, sym, ◌∙◌, subst}
use Rattle.std.specs.Box.{with_value}
use Rattle.std.specs.declared.alloc.Global.{Global}
use Rattle.rv_judge.specs.declared.counting.Counts.{Counts}
use Rattle.rv_judge.specs.declared.judging.Facts.{Facts}
use Rattle.rv_judge.specs.Runs.{Allowed}
use Rattle.rv_judge.specs.Verdicts.{Ruling}
use Rattle.rv_reader.specs.Shown.{Shown}
use Rattle.rv_jscan.specs.declared.jscan.Given.{Given}
use Rattle.rv_jscan.specs.declared.jscan.Given.TheVariants.{Accepted, Stale}
use Rattle.rv_jscan.specs.declared.jscan.Taken.{Taken}
use Rattle.rv_jscan.specs.declared.jscan.Taken.TheVariants.{Piece, Nothing}
use Rattle.rv_jscan.specs.Pieces.{Pieced}
use Rattle.rv_reader.specs.declared.step.Step.{Step}
use Rattle.rv_value.specs.declared.record.Record.{Record}
use Rattle.rv_retrieval.specs.Given.{Answers as RetrievalAnswers, TakesLeaf as RetrievalTakes, TakesPiece as RetrievalTakesPiece}
use Rattle.rv_retrieval.specs.Shape.{DoesStep as RetrievalGivesStep}
use Rattle.rv_retrieval.specs.Rulings.{GivesOn as RetrievalGives}
use Rattle.rv_retrieval.specs.Runs.{IsOfUndropped as RetrievalUndropped, indexes_asked}
use Rattle.rv_retrieval.specs.Shape.{Keeps as ShapeKeeps, Shape, is_background}
use Rattle.rv_retrieval.specs.Short.{Settled as RetrievalSettled}
use Rattle.rv_retrieval.proofs.Tellings.{allowed as retrieval_allowed}
use Rattle.rv_race.specs.Given.{Answers as RaceAnswers, TakesPiece as RaceTakesPiece}
use Rattle.rv_race.specs.Raced.{Raced}
use Rattle.rv_jscan.specs.Planned.{indexes_of, indexes_of as united_indexes}
use Rattle.rv_race.specs.Runs.{IsOfUndropped as RaceUndropped}
use Rattle.rv_race.proofs.Tellings.{allowed as race_allowed}
use Rattle.rv_union.specs.Given.{Answers as UnionAnswers, TakesPiece as UnionTakesPiece}
use Rattle.rv_union.specs.Runs.{IsOfUndropped as UnionUndropped}
use Rattle.rv_union.specs.Unioned.{Unioned}
use Rattle.rv_union.proofs.Tellings.{allowed as union_allowed}
use Rattle.rv_access.specs.declared.access.Access.{Access}
use Rattle.rv_access.specs.declared.access.Access.TheVariants.{Competing, Racing, Uniting}
use Rattle.rv_access.specs.declared.racing.RacedQuery.{RacedQuery}
use Rattle.rv_access.specs.declared.uniting.UnitedQuery.{UnitedQuery}
use Rattle.rv_access.specs.Accesses.{Keeps, SamePlans, Tells, number_of, query_of, trace_of}
use Rattle.rv_access.specs.Given.{Answers, AwaitsPiece, CountsPiece, GivesOn, IsOfUndropped, SamePieces, TakesPiece, awaited, piece_read}
use Rattle.rv_access.specs.Stepping.{GivesStep, SameCourse, SettledTake, StepsAs}
use Rattle.rv_access.proofs.Boxes.{with_race, with_retrieval, with_union}
use Rattle.rv_access.proofs.Shapes.{ShapePlans, course_plans as shape_course, given_number as shape_number, given_plans as shape_given, none_read as shape_none, piece_awaited as shape_awaited, plans_stay as shape_stays, settled_back, settled_fetches, settled_joint, steps_plans as shape_steps, take_plans, take_same}
use Rattle.rv_access.proofs.OfRaces.{given_number as race_number, none_awaited, none_read as race_none, piece_awaited as race_awaited, steps_plans as race_steps, wider}
use Rattle.rv_access.proofs.OfUnions.{given_number as union_number, none_awaited as union_none, none_read as union_unread, piece_awaited as union_awaited, steps_plans as union_steps}

-- WHAT IS ASKED, THE STRATEGY AND THE PLANNED SCANS STAY

pub plans_then : (u v w : Access) → SamePlans u v → SamePlans v w → SamePlans u w
plans_then u v w first then = record { query = then.query ∙ first.query; strategy = then.strategy ∙ first.strategy; plans = then.plans ∙ first.plans }

pub plans_stay : (a : Access) → SamePlans a a
plans_stay a = record { query = refl; strategy = refl; plans = refl }

boxed_plans : (v w : Box Shape Global) → ShapePlans v.value w.value → SamePlans (Competing v) (Competing w)
boxed_plans v w same = record { query = same.query; strategy = same.strategy; plans = same.plans }

pub steps_plans : (would : ℕ → Facts → Ruling) (state after : ℕ) (shown : Shown) (c d : Counts) (fg : Step Record) (old new : Access) → StepsAs would state after shown c d fg old new → SamePlans old new
steps_plans would state after shown c d fg (Competing v) (Competing w) steps = boxed_plans v w (shape_steps would state after shown c d fg v.value w.value steps)
steps_plans would state after shown c d fg (Competing v) (Racing s) steps = absurd steps
steps_plans would state after shown c d fg (Racing r) (Competing w) steps = absurd steps
steps_plans would state after shown c d fg (Racing r) (Racing s) steps = race_steps would state after shown c d fg r s steps
steps_plans would state after shown c d fg (Competing v) (Uniting s) steps = absurd steps
steps_plans would state after shown c d fg (Racing r) (Uniting s) steps = absurd steps
steps_plans would state after shown c d fg (Uniting u) (Competing w) steps = absurd steps
steps_plans would state after shown c d fg (Uniting u) (Racing s) steps = absurd steps
steps_plans would state after shown c d fg (Uniting u) (Uniting s) steps = union_steps would state after shown c d fg u s steps

pub course_plans : (old new : Access) → SameCourse old new → SamePlans old new
course_plans (Competing v) (Competing w) same = boxed_plans v w (shape_course v.value w.value same)
course_plans (Competing v) (Racing s) same = absurd same
course_plans (Racing r) (Competing w) same = absurd same
course_plans (Racing r) (Racing s) same = record { query = same.query; strategy = refl; plans = same.plans }
course_plans (Competing v) (Uniting s) same = absurd same
course_plans (Racing r) (Uniting s) same = absurd same
course_plans (Uniting u) (Competing w) same = absurd same
course_plans (Uniting u) (Racing s) same = absurd same
course_plans (Uniting u) (Uniting s) same = record { query = same.query; strategy = refl; plans = same.plans }

-- A GIVE, whatever it answers

pub retrieval_number : {E : Type 0} (r : Result Given E) (would : ℕ → Facts → Ruling) (state after : ℕ) (piece : Pieced) (old new : Shape) → IfOk r (λ g. RetrievalGives would state after piece g old new) → IfOk r (λ g. CountsPiece g old.joint.number new.joint.number)
retrieval_number (Ok g) would state after piece old new gives = shape_number would state after piece g old new gives
retrieval_number (Err x) would state after piece old new gives = tt

pub retrieval_plans : {E : Type 0} (r : Result Given E) (would : ℕ → Facts → Ruling) (state after : ℕ) (piece : Pieced) (b : Box Shape Global) (old new : Shape) → IfOk r (λ g. RetrievalGives would state after piece g old new) → OnErr r (new ≡ old) → SamePlans (with_retrieval b old) (with_retrieval b new)
retrieval_plans (Ok g) would state after piece b old new gives e = boxed_plans (with_value b old) (with_value b new) (shape_given would state after piece g old new gives)
retrieval_plans (Err x) would state after piece b old new gives e = boxed_plans (with_value b old) (with_value b new) (subst (ShapePlans old) (sym e) (shape_stays old))

given_number : (would : ℕ → Facts → Ruling) (state after : ℕ) (piece : Pieced) (g : Given) (old new : Access) → GivesOn would state after piece g old new → CountsPiece g (number_of old) (number_of new)
given_number would state after piece g (Competing v) (Competing w) gives = shape_number would state after piece g v.value w.value gives
given_number would state after piece g (Competing v) (Racing s) gives = absurd gives
given_number would state after piece g (Competing v) (Uniting s) gives = absurd gives
given_number would state after piece g (Racing r) (Competing w) gives = absurd gives
given_number would state after piece g (Racing r) (Racing s) gives = race_number would state after piece g r.value.race s.value.race gives.gives
given_number would state after piece g (Racing r) (Uniting s) gives = absurd gives
given_number would state after piece g (Uniting u) (Competing w) gives = absurd gives
given_number would state after piece g (Uniting u) (Racing s) gives = absurd gives
given_number would state after piece g (Uniting u) (Uniting s) gives = union_number would state after piece g u.value.union s.value.union gives.gives

-- a piece that is given is counted as it is answered
pub numbered : {E : Type 0} (r : Result Given E) (would : ℕ → Facts → Ruling) (state after : ℕ) (piece : Pieced) (old new : Access) → IfOk r (λ g. GivesOn would state after piece g old new) → IfOk r (λ g. CountsPiece g (number_of old) (number_of new))
numbered (Ok g) would state after piece old new gives = given_number would state after piece g old new gives
numbered (Err x) would state after piece old new gives = tt

-- WHAT THE CALLS ANSWER, in the words of accesses

pub retrieval_gives : {E : Type 0} (r : Result (Step Record) E) (b : Box Shape Global) (v w : Shape) (shown : Shown) → IfOk r (RetrievalGivesStep v w shown) → IfOk r (GivesStep (with_retrieval b v) (with_retrieval b w) shown)
retrieval_gives (Ok s) b v w shown gives = gives
retrieval_gives (Err x) b v w shown gives = tt

pub retrieval_takes : {E : Type 0} (r : Result Taken E) (b : Box Shape Global) (v : Shape) → IfOk r (RetrievalTakesPiece v) → IfOk r (TakesPiece (with_retrieval b v))
retrieval_takes (Ok (Piece piece)) b v takes = takes
retrieval_takes (Ok Nothing) b v takes = takes
retrieval_takes (Err x) b v takes = tt

pub race_takes : {E : Type 0} (r : Result Taken E) (b : Box RacedQuery Global) (q : RacedQuery) → IfOk r (RaceTakesPiece q.race) → IfOk r (TakesPiece (with_race b q))
race_takes (Ok (Piece piece)) b q takes = takes
race_takes (Ok Nothing) b q takes = none_awaited q.race takes
race_takes (Err x) b q takes = tt

pub union_takes : {E : Type 0} (r : Result Taken E) (b : Box UnitedQuery Global) (q : UnitedQuery) → IfOk r (UnionTakesPiece q.union) → IfOk r (TakesPiece (with_union b q))
union_takes (Ok (Piece piece)) b q takes = takes
union_takes (Ok Nothing) b q takes = union_none q.union takes
union_takes (Err x) b q takes = tt

pub retrieval_undropped : {E : Type 0} (r : Result Taken E) (b : Box Shape Global) (v : Shape) → IfOk r (RetrievalUndropped v) → IfOk r (IsOfUndropped (with_retrieval b v))
retrieval_undropped (Ok taken) b v undropped = undropped
retrieval_undropped (Err x) b v undropped = tt

pub race_undropped : {E : Type 0} (r : Result Taken E) (b : Box RacedQuery Global) (q : RacedQuery) → IfOk r (RaceUndropped q.race) → IfOk r (IsOfUndropped (with_race b q))
race_undropped (Ok taken) b q undropped = undropped
race_undropped (Err x) b q undropped = tt

pub union_undropped : {E : Type 0} (r : Result Taken E) (b : Box UnitedQuery Global) (q : UnitedQuery) → IfOk r (UnionUndropped q.union) → IfOk r (IsOfUndropped (with_union b q))
union_undropped (Ok taken) b q undropped = undropped
union_undropped (Err x) b q undropped = tt

pub retrieval_answers : {E : Type 0} (r : Result Given E) (b : Box Shape Global) (v w : Shape) (piece : Pieced) → IfOk r (λ g. RetrievalAnswers v piece g w) → IfOk r (λ g. Answers (with_retrieval b v) piece g (with_retrieval b w))
retrieval_answers (Ok Accepted) b v w piece answers = answers
retrieval_answers (Ok (Stale asked now)) b v w piece answers = (answers.0, answers.1, answers.2, ap (with_retrieval b) answers.3)
retrieval_answers (Err x) b v w piece answers = tt

pub race_answers : {E : Type 0} (r : Result Given E) (b : Box RacedQuery Global) (old : RacedQuery) (new : Raced) (piece : Pieced) → IfOk r (λ g. RaceAnswers old.race piece g new) → IfOk r (λ g. Answers (with_race b old) piece g (with_race b (record old { race = new })))
race_answers (Ok Accepted) b old new piece answers = answers
race_answers (Ok (Stale asked now)) b old new piece answers = (answers.0, answers.1, answers.2, ap (λ (race : Raced). with_race b (record old { race = race })) answers.3)
race_answers (Err x) b old new piece answers = tt

pub union_answers : {E : Type 0} (r : Result Given E) (b : Box UnitedQuery Global) (old : UnitedQuery) (new : Unioned) (piece : Pieced) → IfOk r (λ g. UnionAnswers old.union piece g new) → IfOk r (λ g. Answers (with_union b old) piece g (with_union b (record old { union = new })))
union_answers (Ok Accepted) b old new piece answers = answers
union_answers (Ok (Stale asked now)) b old new piece answers = (answers.0, answers.1, answers.2, ap (λ (union : Unioned). with_union b (record old { union = union })) answers.3)
union_answers (Err x) b old new piece answers = tt

pub same_retrieval : {X E : Type 0} (r : Result X E) (b : Box Shape Global) (v w : Shape) → OnErr r (w ≡ v) → OnErr r (with_retrieval b w ≡ with_retrieval b v)
same_retrieval (Ok x) b v w e = tt
same_retrieval (Err x) b v w e = ap (with_retrieval b) e

pub same_race : {X E : Type 0} (r : Result X E) (b : Box RacedQuery Global) (old : RacedQuery) (new : Raced) → OnErr r (new ≡ old.race) → OnErr r (with_race b (record old { race = new }) ≡ with_race b old)
same_race (Ok x) b old new e = tt
same_race (Err x) b old new e = ap (λ (race : Raced). with_race b (record old { race = race })) e

pub same_union : {X E : Type 0} (r : Result X E) (b : Box UnitedQuery Global) (old : UnitedQuery) (new : Unioned) → OnErr r (new ≡ old.union) → OnErr r (with_union b (record old { union = new }) ≡ with_union b old)
same_union (Ok x) b old new e = tt
same_union (Err x) b old new e = ap (λ (union : Unioned). with_union b (record old { union = union })) e

pub retrieval_keeps : (b : Box Shape Global) (v w : Shape) → ShapeKeeps v w → Keeps (with_retrieval b v) (with_retrieval b w)
retrieval_keeps b v w keeps = record { query = keeps.query; fits = keeps.fits; rest = keeps.rest }

-- a race and a union have nothing that a short index leaves
pub none_fewer : {X E : Type 0} (r : Result X E) → OnErr r (0 ≤ 0)
none_fewer (Ok x) = tt
none_fewer (Err x) = omega arith

-- A TAKE of a retrieval leaves the plans and the awaited piece

pub take_keeps_plans : (b : Box Shape Global) (old new : Shape) → new ≡ record old { joint = new.joint; trace = new.trace } → RetrievalTakes old new.joint → SamePlans (with_retrieval b old) (with_retrieval b new)
take_keeps_plans b old new same leaves = boxed_plans (with_value b old) (with_value b new) (take_plans old new same leaves)

pub take_keeps_piece : (b : Box Shape Global) (old new : Shape) → new ≡ record old { joint = new.joint; trace = new.trace } → RetrievalTakes old new.joint → SamePieces (with_retrieval b old) (with_retrieval b new)
take_keeps_piece b old new same leaves =
    let kept = take_same old new same leaves in
    record { awaited = kept.awaited; number = kept.number }

-- A TAKE where a short index was scanned at opening

pub settled_take : (shown : Shown) (c d : Counts) (b : Box Shape Global) (old new : Shape) → new ≡ record old { joint = new.joint; trace = new.trace } → RetrievalTakes old new.joint → RetrievalSettled old → RetrievalSettled new × (d ≡ c) → SettledTake shown c d (with_retrieval b old) (with_retrieval b new)
settled_take shown c d b old new same leaves settled after = record {
  settled = after.0;
  unread = after.1;
  same = settled_fetches shown old new same (settled_joint (is_background old.control) old.joint new.joint (settled_back old.control settled.over) leaves);
}

-- WHAT IS AWAITED

-- the awaited piece has the awaited id
pub piece_awaited : (a : Access) (piece : Pieced) → AwaitsPiece a piece → awaited a ≡ Some piece.id
piece_awaited (Competing v) piece awaits = shape_awaited v.value piece awaits
piece_awaited (Racing r) piece awaits = race_awaited r.value.race piece awaits
piece_awaited (Uniting u) piece awaits = union_awaited u.value.union piece awaits

-- nothing is read where no piece is awaited
pub none_read : (a : Access) (c : Counts) → awaited a ≡ None → c ≡ piece_read a c
none_read (Competing v) c none = shape_none v.value c none
none_read (Racing r) c none = race_none r.value.race c none
none_read (Uniting u) c none = union_unread u.value.union c none

-- A TRACE THAT TELLS A RUN IS ALLOWED
pub allowed : (a : Access) → Tells a → Allowed (trace_of a) (indexes_asked (query_of a))
allowed (Competing v) t = retrieval_allowed v.value t
allowed (Racing r) t = wider r.value.race.trace (indexes_of r.value.race.plans) (indexes_asked r.value.query) t.known (race_allowed r.value.race t.tells)
allowed (Uniting u) t = wider u.value.union.trace (united_indexes u.value.union.plans) (indexes_asked u.value.query) t.known (union_allowed u.value.union t.tells)
