-- What the calls of a union leave, in the words of accesses.
use Rattle.std.proofs.Common.{Result, Ok, Err, IfOk, OnErr, ◌≡◌, ℕ, true, false, Box, List, [], Option, Some, None, refl, ap, sym, ◌∙◌, subst}
use Rattle.std.specs.List.{list_all}
use Rattle.std.specs.declared.alloc.Global.{Global}
use Rattle.rv_value.specs.declared.record.IndexEntry.{IndexEntry}
use Rattle.rv_judge.specs.declared.counting.Counts.{Counts}
use Rattle.rv_judge.specs.declared.events.Control.TheVariants.{Done}
use Rattle.rv_judge.specs.declared.judging.Facts.{Facts}
use Rattle.rv_judge.specs.declared.judging.Verdict.{Verdict}
use Rattle.rv_judge.specs.declared.judging.Verdict.TheVariants.{Continue, AbandonScan, AbandonForeground, AbandonBackground}
use Rattle.rv_judge.specs.Counting.{one_more}
use Rattle.rv_judge.specs.Runs.{has_index}
use Rattle.rv_judge.specs.Verdicts.{Ruling}
use Rattle.rv_reader.specs.Shown.{Shown}
use Rattle.rv_reader.specs.declared.step.Step.{Step}
use Rattle.rv_value.specs.declared.record.Record.{Record}
use Rattle.rv_reader.specs.declared.step.Step.TheVariants.{End}
use Rattle.rv_jscan.specs.declared.piece.PieceId.{PieceId}
use Rattle.rv_jscan.specs.declared.jscan.Given.{Given}
use Rattle.rv_jscan.specs.declared.jscan.Given.TheVariants.{Accepted, Stale}
use Rattle.rv_jscan.specs.Pieces.{Pieced}
use Rattle.rv_jscan.specs.Steps.{held_next}
use Rattle.rv_choice.specs.declared.query.Query.{Query}
use Rattle.rv_final.specs.Rest.{Steps}
use Rattle.rv_retrieval.specs.Runs.{indexes_asked}
use Rattle.rv_union.specs.Given.{Awaits, TakesLeaf, awaited, next_id, piece_read}
use Rattle.rv_union.specs.Opened.{DoesStep, EndsIn, OnlyTakes, StepsAs as UnionSteps}
use Rattle.rv_union.specs.Rulings.{GivesOn, Obeys, accepted, facts_of, joined, next_member, over, ruled}
use Rattle.rv_jscan.specs.Planned.{indexes_of}
use Rattle.rv_union.specs.Runs.{Tells}
use Rattle.rv_union.specs.Unioned.{Keeps as UnionKeeps, SameUnion, UnionFits, Unioned, rest}
use Rattle.rv_final.specs.Shell.{scanning}
use Rattle.rv_final.proofs.Takings.{unawaited_read}
use Rattle.rv_union.proofs.Switches.{over_as, told_parts}
use Rattle.rv_access.specs.declared.access.Access.TheVariants.{Uniting}
use Rattle.rv_access.specs.declared.uniting.UnitedQuery.{UnitedQuery}
use Rattle.rv_access.specs.Accesses.{Keeps, SamePlans, UnitedFits, UnitedTells, UnitesOver}
use Rattle.rv_access.specs.Given.{CountsPiece, SamePieces, UnitedGives}
use Rattle.rv_access.specs.Stepping.{GivesStep, UnitedCourse, UnitedOnly, UnitedSteps}
use Rattle.rv_access.proofs.Boxes.{with_union}

-- WHAT IT IS OVER STAYS

pub over_on : (q : Query) (old new : Unioned) → SameUnion old new → UnitesOver q old → UnitesOver q new
over_on q old new same over = record { table = same.table ∙ over.table; snap = same.snap ∙ over.snap; only = same.only ∙ over.only; order = over.order }

pub fits_on : (old : UnitedQuery) (new : Unioned) (shown : Shown) → SameUnion old.union new → UnitedFits old shown → UnionFits new shown → UnitedFits (record old { union = new }) shown
fits_on old new shown same fits union = record { over = over_on old.query old.union new same fits.over; union = union }

pub tells_on : (old : UnitedQuery) (new : Unioned) → SameUnion old.union new → (Tells old.union → Tells new) → UnitedTells old → UnitedTells (record old { union = new })
tells_on old new same tells t = record {
  tells = tells t.tells;
  known = subst (λ (x : _). list_all (λ i. has_index i (indexes_asked old.query)) (indexes_of x) ≡ true) (sym same.plans) t.known;
}

-- WHAT AN ACCEPTED PIECE LEAVES

-- the number of the next piece stays where a member ends and where a judge rules

over_number : (u : Unioned) → (over u).number ≡ u.number
over_number u = over_as (λ (x : Unioned). x.number ≡ u.number) u (λ l. ap (λ (x : Unioned). x.number) (told_parts (next_member u))) (λ l. refl)

ruled_number : (verdict : Verdict) (u : Unioned) → (ruled verdict u).number ≡ u.number
ruled_number Continue u = refl
ruled_number AbandonScan u = refl
ruled_number AbandonForeground u = refl
ruled_number AbandonBackground u = refl

obeyed_number : (would : ℕ → Facts → Ruling) (state after : ℕ) (piece : Pieced) (next : Option IndexEntry) (old new : Unioned) → Obeys would state after piece next old new → new.number ≡ one_more old.number
obeyed_number would state after piece (Some cut) old new o =
    let mid = accepted piece false old in
    ap (λ (u : Unioned). u.number) o.0 ∙ ruled_number (would state (facts_of mid)).verdict mid
obeyed_number would state after piece None old new o = ap (λ (u : Unioned). u.number) o.0.ends ∙ over_number (joined o.0.keys (accepted piece true old))

-- A STEP

pub gives_step : {E : Type 0} (r : Result (Step Record) E) (b : Box UnitedQuery Global) (old : UnitedQuery) (new : Unioned) (shown : Shown) → old.query.order ≡ [] → IfOk r (DoesStep old.union new shown) → IfOk r (GivesStep (with_union b old) (with_union b (record old { union = new })) shown)
gives_step (Ok s) b old new shown o does = subst (λ (order : List ℕ). Steps old.query.need order s (rest old.union shown) (rest new shown)) (sym o) (does old.query.need)
gives_step (Err x) b old new shown o does = tt

pub does_as : {E : Type 0} (r : Result (Step Record) E) (would : ℕ → Facts → Ruling) (state after : ℕ) (shown : Shown) (c d : Counts) (old : UnitedQuery) (new : Unioned) → SameUnion old.union new → IfOk r (λ s. UnionSteps would state after shown c d s old.union new) → IfOk r (λ s. UnitedSteps would state after shown c d s old (record old { union = new }))
does_as (Ok s) would state after shown c d old new kept steps = record { same = refl; steps = steps; kept = kept }
does_as (Err x) would state after shown c d old new kept steps = tt

-- an end leads to the last control
pub ends_done : {E : Type 0} (r : Result (Step Record) E) (new : Unioned) → IfOk r (EndsIn new) → r ≡ Ok End → new.control ≡ Done
ends_done r new ends is = subst (λ x. IfOk x (EndsIn new)) is ends

pub steps_plans : (would : ℕ → Facts → Ruling) (state after : ℕ) (shown : Shown) (c d : Counts) (fg : Step Record) (old new : Box UnitedQuery Global) → UnitedSteps would state after shown c d fg old.value new.value → SamePlans (Uniting old) (Uniting new)
steps_plans would state after shown c d fg old new steps = record {
  query = ap (λ (u : UnitedQuery). u.query) steps.same;
  strategy = refl;
  plans = steps.kept.plans;
}

-- where it only took, the control, the members, the keys and the events stay
pub only_course : (old : UnitedQuery) (new : Unioned) → OnlyTakes old.union new → UnitedCourse old (record old { union = new })
only_course old new only = record {
  query = refl;
  control = ap (λ (u : Unioned). u.control) only.same;
  plans = ap (λ (u : Unioned). u.plans) only.same;
  member = ap (λ (u : Unioned). u.member) only.same;
  lane = ap (λ (u : Unioned). u.lane) only.same;
  keys = ap (λ (u : Unioned). u.keys) only.same;
  named = only.named;
  events = only.events;
}

pub still_if : {X E : Type 0} (r : Result X E) (old : UnitedQuery) (new : Unioned) → OnErr r (OnlyTakes old.union new) → OnErr r (UnitedOnly old (record old { union = new }))
still_if (Ok x) old new only = tt
still_if (Err x) old new only = record { same = refl; only = only }

pub course_if : {X E : Type 0} (r : Result X E) (old : UnitedQuery) (new : Unioned) → OnErr r (OnlyTakes old.union new) → OnErr r (UnitedCourse old (record old { union = new }))
course_if (Ok x) old new only = tt
course_if (Err x) old new only = only_course old new only

-- A TAKE

pub leaf_plans : (b : Box UnitedQuery Global) (old : UnitedQuery) (new : Unioned) → TakesLeaf old.union new → SamePlans (with_union b old) (with_union b (record old { union = new }))
leaf_plans b old new leaves = record { query = refl; strategy = refl; plans = ap (λ (u : Unioned). u.plans) leaves.same }

pub leaf_pieces : (b : Box UnitedQuery Global) (old : UnitedQuery) (new : Unioned) → TakesLeaf old.union new → awaited new ≡ awaited old.union → SamePieces (with_union b old) (with_union b (record old { union = new }))
leaf_pieces b old new leaves same = record { awaited = same; number = ap (λ (u : Unioned). u.number) leaves.same }

-- A GIVE

pub given_number : (would : ℕ → Facts → Ruling) (state after : ℕ) (piece : Pieced) (g : Given) (old new : Unioned) → GivesOn would state after piece g old new → CountsPiece g old.number new.number
given_number would state after piece Accepted old new gives = obeyed_number would state after piece (held_next old.lane.held) old new gives
given_number would state after piece (Stale asked now) old new gives = ap (λ (u : Unioned). u.number) gives.0

-- the awaited piece has the awaited id
pub piece_awaited : (u : Unioned) (piece : Pieced) → Awaits u piece → awaited u ≡ Some piece.id
piece_awaited u piece awaits = rw awaits.under_way (ap (λ (id : PieceId). Some id) (sym awaits.own.named))

-- nothing is awaited where no member is scanned
pub none_awaited : (u : Unioned) → scanning u.control ≡ false → awaited u ≡ None
none_awaited u e = rw e refl

pub none_read : (u : Unioned) (c : Counts) → awaited u ≡ None → c ≡ piece_read u c
none_read u c none = unawaited_read (scanning u.control) (next_id u) u.lane.held c none

-- a give, whatever it answers
pub gives_as_united : {E : Type 0} (r : Result Given E) (would : ℕ → Facts → Ruling) (state after : ℕ) (piece : Pieced) (old : UnitedQuery) (new : Unioned) → IfOk r (λ g. GivesOn would state after piece g old.union new) → IfOk r (λ g. UnitedGives would state after piece g old (record old { union = new }))
gives_as_united (Ok g) would state after piece old new gives = record { same = refl; gives = gives }
gives_as_united (Err x) would state after piece old new gives = tt

pub united_keeps : (b : Box UnitedQuery Global) (old : UnitedQuery) (new : Unioned) → SameUnion old.union new → UnionKeeps old.union new → Keeps (with_union b old) (with_union b (record old { union = new }))
united_keeps b old new same keeps = record { query = refl; fits = λ shown f. fits_on old new shown same f (keeps.fits shown f.union); rest = λ shown f. keeps.rest shown f.union }
