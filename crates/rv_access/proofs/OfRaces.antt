-- What the calls of a race leave, in the words of accesses.
use Rattle.std.proofs.Common.{is_some, Result, Ok, Err, IfOk, OnErr, ◌≡◌, ℕ, Bool, true, false, ◌||◌, nat_eq, Box, ◌∷◌, List, [], Option, Some, None, refl, ap, sym, ◌∙◌, subst}
use Rattle.std.specs.List.{list_all}
use Rattle.std.specs.Cmp.{first_so, second_so}
use Rattle.std.specs.declared.alloc.Global.{Global}
use Rattle.std.proofs.lemmas.Bool.{and_from, eqb-true}
use Rattle.rv_value.specs.declared.record.IndexEntry.{IndexEntry}
use Rattle.rv_judge.specs.declared.counting.Counts.{Counts}
use Rattle.rv_judge.specs.declared.events.Control.TheVariants.{Done}
use Rattle.rv_judge.specs.declared.events.Event.TheVariants.{Drop}
use Rattle.rv_judge.specs.declared.events.Happening.{Happening}
use Rattle.rv_judge.specs.declared.events.Happening.TheVariants.{Ruled, ScanEnded}
use Rattle.rv_judge.specs.declared.events.Strategy.{Strategy}
use Rattle.rv_judge.specs.declared.events.Strategy.TheVariants.{Table, BackgroundOnly, FastFirst, Sorted, IndexOnly, Union}
use Rattle.rv_judge.specs.declared.events.Trace.{Trace}
use Rattle.rv_judge.specs.declared.judging.Facts.{Facts}
use Rattle.rv_judge.specs.declared.judging.Verdict.{Verdict}
use Rattle.rv_judge.specs.declared.judging.Verdict.TheVariants.{Continue, AbandonScan, AbandonForeground, AbandonBackground}
use Rattle.rv_judge.specs.Counting.{one_more}
use Rattle.rv_judge.specs.Runs.{Allowed, AllowedBy, AllowedRun, has_index}
use Rattle.rv_judge.specs.Verdicts.{Ruling}
use Rattle.rv_reader.specs.Shown.{Shown}
use Rattle.rv_reader.specs.declared.step.Step.{Step}
use Rattle.rv_value.specs.declared.record.Record.{Record}
use Rattle.rv_reader.specs.declared.step.Step.TheVariants.{End}
use Rattle.rv_jscan.specs.declared.piece.PieceId.{PieceId}
use Rattle.rv_jscan.specs.declared.jscan.Given.{Given}
use Rattle.rv_jscan.specs.declared.jscan.Given.TheVariants.{Accepted, Stale}
use Rattle.rv_jscan.specs.Pieces.{Pieced}
use Rattle.rv_jscan.specs.Steps.{held_next}
use Rattle.rv_choice.specs.declared.query.Query.{Query}
use Rattle.rv_final.specs.Rest.{Steps}
use Rattle.rv_retrieval.specs.Runs.{indexes_asked}
use Rattle.rv_race.specs.Given.{Awaits, TakesLeaf, awaited, next_id, piece_read, turn_lane, turn_scan}
use Rattle.rv_race.specs.Opened.{DoesStep, EndsIn, OnlyTakes, StepsAs as RaceSteps}
use Rattle.rv_race.specs.Raced.{Keeps as RaceKeeps, RaceFits, Raced, SameRace, rest}
use Rattle.rv_final.specs.Shell.{scanning}
use Rattle.rv_race.specs.Rulings.{GivesOn, HasNextTurn, Obeys, accepted, facts_of, index_at, listed, more, over, ruled, told_over}
use Rattle.rv_jscan.specs.Planned.{indexes_of}
use Rattle.rv_race.specs.Runs.{Tells}
use Rattle.rv_final.proofs.Takings.{unawaited_read}
use Rattle.rv_race.proofs.Switches.{over_as}
use Rattle.rv_access.specs.declared.access.Access.TheVariants.{Racing}
use Rattle.rv_access.specs.declared.racing.RacedQuery.{RacedQuery}
use Rattle.rv_access.specs.Accesses.{IsOver, Keeps, RacedFits, RacedTells, SamePlans}
use Rattle.rv_access.specs.Given.{CountsPiece, RacedGives, SamePieces}
use Rattle.rv_access.specs.Stepping.{GivesStep, RacedCourse, RacedOnly, RacedSteps}
use Rattle.rv_access.proofs.Boxes.{with_race}

-- WHAT IT IS OVER STAYS

pub over_on : (q : Query) (old new : Raced) → SameRace old new → IsOver q old → IsOver q new
over_on q old new same over = record { table = same.table ∙ over.table; snap = same.snap ∙ over.snap; only = same.only ∙ over.only; order = over.order }

pub fits_on : (old : RacedQuery) (new : Raced) (shown : Shown) → SameRace old.race new → RacedFits old shown → RaceFits new shown → RacedFits (record old { race = new }) shown
fits_on old new shown same fits race = record { over = over_on old.query old.race new same fits.over; race = race }

pub tells_on : (old : RacedQuery) (new : Raced) → SameRace old.race new → (Tells old.race → Tells new) → RacedTells old → RacedTells (record old { race = new })
tells_on old new same tells t = record {
  tells = tells t.tells;
  known = subst (λ (x : _). list_all (λ i. has_index i (indexes_asked old.query)) (indexes_of x) ≡ true) (sym same.plans) t.known;
}

-- A TRACE THAT TELLS A RUN IS ALLOWED for the table's indexes

later : (a b : Bool) → a ≡ false → (a || b) ≡ true → b ≡ true
later true b e h = absurd (cc)
later false b e h = h

any_known : (xs ys : List ℕ) (i : ℕ) → list_all (λ k. has_index k ys) xs ≡ true → has_index i xs ≡ true → has_index i ys ≡ true
any_known [] ys i all has = absurd (cc)
any_known (x ∷ xs) ys i all has = by (nat_eq x i) refl (any_known xs ys i (second_so (has_index x ys) _ all))
  where
    by : (b : Bool) → nat_eq x i ≡ b → (has_index i xs ≡ true → has_index i ys ≡ true) → has_index i ys ≡ true
    by true e rest = subst (λ (n : ℕ). has_index n ys ≡ true) (eqb-true x i e) (first_so _ _ all)
    by false e rest = rest (later (nat_eq x i) _ e has)

all_known : (xs ys planned : List ℕ) → list_all (λ k. has_index k ys) xs ≡ true → list_all (λ k. has_index k xs) planned ≡ true → list_all (λ k. has_index k ys) planned ≡ true
all_known xs ys [] all these = refl
all_known xs ys (p ∷ planned) all these = and_from _ _ (any_known xs ys p all (first_so _ _ these)) (all_known xs ys planned all (second_so (has_index p xs) _ these))

wider_run : (t : Trace) (xs ys : List ℕ) → list_all (λ k. has_index k ys) xs ≡ true → AllowedRun t xs → AllowedRun t ys
wider_run t xs ys all a = record { planned = a.planned; known = all_known xs ys a.planned all a.known; once = a.once; scanned = a.scanned; turns = a.turns; run = a.run; told = a.told }

-- a trace that is allowed for indexes is so for more of them
pub wider : (t : Trace) (xs ys : List ℕ) → list_all (λ k. has_index k ys) xs ≡ true → Allowed t xs → Allowed t ys
wider t xs ys all a = by t.strategy a
  where
    by : (st : Strategy) → AllowedBy st t xs → AllowedBy st t ys
    by Table a = wider_run t xs ys all a
    by BackgroundOnly a = wider_run t xs ys all a
    by FastFirst a = wider_run t xs ys all a
    by Sorted a = wider_run t xs ys all a
    by IndexOnly a = wider_run t xs ys all a
    by Union a = record { begun = a.begun; some = a.some; known = all_known xs ys a.begun all a.known; once = a.once; tail = a.tail; among = a.among; told = a.told }

-- WHAT AN ACCEPTED PIECE LEAVES

-- the number of the next piece stays where a scan ends and where a judge rules

over_number : (happening : Bool → Happening) (r : Raced) → (over (more r) (happening (more r)) r).number ≡ r.number
over_number happening r = over_as (λ (x : Raced). x.number ≡ r.number) happening r (λ m. refl) (λ m. refl)

ruled_number : (verdict : Verdict) (r : Raced) → (ruled verdict r).number ≡ r.number
ruled_number Continue r = refl
ruled_number AbandonForeground r = refl
ruled_number AbandonScan r = over_number (λ b. Ruled AbandonScan b (is_some r.list)) (told_over (Drop (index_at r (turn_scan r))) r)
ruled_number AbandonBackground r = refl

obeyed_number : (would : ℕ → Facts → Ruling) (state after : ℕ) (piece : Pieced) (next : Option IndexEntry) (old new : Raced) → Obeys would state after piece next old new → new.number ≡ one_more old.number
obeyed_number would state after piece (Some cut) old new o =
    let mid = accepted piece false old in
    ap (λ (r : Raced). r.number) o.0 ∙ ruled_number (would state (facts_of mid)).verdict mid
obeyed_number would state after piece None old new o = ap (λ (r : Raced). r.number) o.0.ends ∙ over_number (λ b. ScanEnded b true) (listed o.0.keys (accepted piece true old))

-- A STEP

pub gives_step : {E : Type 0} (r : Result (Step Record) E) (b : Box RacedQuery Global) (old : RacedQuery) (new : Raced) (shown : Shown) → old.query.order ≡ [] → IfOk r (DoesStep old.race new shown) → IfOk r (GivesStep (with_race b old) (with_race b (record old { race = new })) shown)
gives_step (Ok s) b old new shown o does = subst (λ (order : List ℕ). Steps old.query.need order s (rest old.race shown) (rest new shown)) (sym o) (does old.query.need)
gives_step (Err x) b old new shown o does = tt

pub does_as : {E : Type 0} (r : Result (Step Record) E) (would : ℕ → Facts → Ruling) (state after : ℕ) (shown : Shown) (c d : Counts) (old : RacedQuery) (new : Raced) → SameRace old.race new → IfOk r (λ s. RaceSteps would state after shown c d s old.race new) → IfOk r (λ s. RacedSteps would state after shown c d s old (record old { race = new }))
does_as (Ok s) would state after shown c d old new kept steps = record { same = refl; steps = steps; kept = kept }
does_as (Err x) would state after shown c d old new kept steps = tt

-- an end leads to the last control
pub ends_done : {E : Type 0} (r : Result (Step Record) E) (new : Raced) → IfOk r (EndsIn new) → r ≡ Ok End → new.control ≡ Done
ends_done r new ends is = subst (λ x. IfOk x (EndsIn new)) is ends

pub steps_plans : (would : ℕ → Facts → Ruling) (state after : ℕ) (shown : Shown) (c d : Counts) (fg : Step Record) (old new : Box RacedQuery Global) → RacedSteps would state after shown c d fg old.value new.value → SamePlans (Racing old) (Racing new)
steps_plans would state after shown c d fg old new steps = record {
  query = ap (λ (r : RacedQuery). r.query) steps.same;
  strategy = refl;
  plans = steps.kept.plans;
}

-- where it only took, the control, the scans and the events stay
pub only_course : (old : RacedQuery) (new : Raced) → OnlyTakes old.race new → RacedCourse old (record old { race = new })
only_course old new only = record {
  query = refl;
  control = ap (λ (r : Raced). r.control) only.same;
  plans = ap (λ (r : Raced). r.plans) only.same;
  turn = ap (λ (r : Raced). r.running.turn.scan) only.same;
  other = ap (λ (r : Raced). r.running.other) only.same;
  list = ap (λ (r : Raced). r.list) only.same;
  named = only.named;
  events = only.events;
}

pub still_if : {X E : Type 0} (r : Result X E) (old : RacedQuery) (new : Raced) → OnErr r (OnlyTakes old.race new) → OnErr r (RacedOnly old (record old { race = new }))
still_if (Ok x) old new only = tt
still_if (Err x) old new only = record { same = refl; only = only }

pub course_if : {X E : Type 0} (r : Result X E) (old : RacedQuery) (new : Raced) → OnErr r (OnlyTakes old.race new) → OnErr r (RacedCourse old (record old { race = new }))
course_if (Ok x) old new only = tt
course_if (Err x) old new only = only_course old new only

-- A TAKE

pub leaf_plans : (b : Box RacedQuery Global) (old : RacedQuery) (new : Raced) → TakesLeaf old.race new → SamePlans (with_race b old) (with_race b (record old { race = new }))
leaf_plans b old new leaves = record { query = refl; strategy = refl; plans = ap (λ (r : Raced). r.plans) leaves.same }

pub leaf_pieces : (b : Box RacedQuery Global) (old : RacedQuery) (new : Raced) → TakesLeaf old.race new → awaited new ≡ awaited old.race → SamePieces (with_race b old) (with_race b (record old { race = new }))
leaf_pieces b old new leaves same = record { awaited = same; number = ap (λ (r : Raced). r.number) leaves.same }

-- A GIVE

pub given_number : (would : ℕ → Facts → Ruling) (state after : ℕ) (piece : Pieced) (g : Given) (old new : Raced) → GivesOn would state after piece g old new → CountsPiece g old.number new.number
given_number would state after piece Accepted old new gives = obeyed_number would state after piece (held_next (turn_lane old).held) old new gives
given_number would state after piece (Stale asked now) old new gives = ap (λ (r : Raced). r.number) gives.0

-- the awaited piece has the awaited id
pub piece_awaited : (r : Raced) (piece : Pieced) → Awaits r piece → awaited r ≡ Some piece.id
piece_awaited r piece awaits = rw awaits.under_way (ap (λ (id : PieceId). Some id) (sym awaits.own.named))

-- nothing is awaited where no scan is under way
pub none_awaited : (r : Raced) → scanning r.control ≡ false → awaited r ≡ None
none_awaited r e = rw e refl

pub none_read : (r : Raced) (c : Counts) → awaited r ≡ None → c ≡ piece_read r c
none_read r c none = unawaited_read (scanning r.control) (next_id r) (turn_lane r).held c none

-- a give, whatever it answers
pub gives_as_raced : {E : Type 0} (r : Result Given E) (would : ℕ → Facts → Ruling) (state after : ℕ) (piece : Pieced) (old : RacedQuery) (new : Raced) → IfOk r (λ g. GivesOn would state after piece g old.race new) → IfOk r (λ g. HasNextTurn g old.race new) → IfOk r (λ g. RacedGives would state after piece g old (record old { race = new }))
gives_as_raced (Ok g) would state after piece old new gives turns = record { same = refl; gives = gives; turns = turns }
gives_as_raced (Err x) would state after piece old new gives turns = tt

pub raced_keeps : (b : Box RacedQuery Global) (old : RacedQuery) (new : Raced) → SameRace old.race new → RaceKeeps old.race new → Keeps (with_race b old) (with_race b (record old { race = new }))
raced_keeps b old new same keeps = record { query = refl; fits = λ shown f. fits_on old new shown same f (keeps.fits shown f.race); rest = λ shown f. keeps.rest shown f.race }
