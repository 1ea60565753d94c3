-- Plans: each step keeps what it keeps, and does to the rest what it answers.
use Rattle.std.proofs.Common.{◌≡◌, ◌+◌, ◌<◌, ◌≤◌, List, ◌∷◌, false, reverse, Result, Ok, Err, IfOk, OnErr, refl, ap, sym, ◌∙◌, arith, subst, suc, slice_index_or, le_of_lt, le_refl}
use Rattle.std.specs.Cmp.{IsStrictWeakOrder}
use Rattle.std.specs.List.Sorted.{IsPermutation, IsSortedBy}
use Rattle.std.proofs.lemmas.List.Sorted.{IsPermutation-refl, IsPermutation-append, IsPermutation-append_right, IsPermutation-middle, IsPermutation-trans, IsPermutation-sym, IsPermutation-reverse, ranks_by, sorted_far}
use Rattle.std.proofs.lemmas.List.{append-nil}
use Rattle.rv_value.proofs.Tests.{no_way}
use Rattle.rv_value.specs.Orders.{values_cmp_total}
use Rattle.rv_model.specs.declared.state.Offer.{Offer}
use Rattle.rv_reader.specs.Shown.{Shown}
use Rattle.rv_join.specs.declared.places.Asked.{Asked}
use Rattle.rv_join.specs.declared.gather.Stage.TheVariants.{AsFound, Gathering, Giving}
use Rattle.rv_reader.specs.declared.step.Step.{Step}
use Rattle.rv_reader.specs.declared.step.Step.TheVariants.{Row, Working, End}
use Rattle.rv_join.specs.Levels.{Stacked, StackFits, bag}
use Rattle.rv_join.specs.Moves.{Kept, Moves, Takes}
use Rattle.rv_join.specs.Order.{before}
use Rattle.rv_join.specs.Plans.{GathersAll, GathersMore, Gives, GivesOne, HoldsGood, Planned, PlanKept, PlanMoves, Sorts, StepsTo, WorkTo, plan_rest, plan_work}
use Rattle.rv_join.specs.Work.{loops_work}
use Rattle.rv_join.proofs.Stacking.{none_before}

pub offers_weak : IsStrictWeakOrder before
offers_weak = ranks_by values_cmp_total (λ (o : Offer). o.order)

-- the loops' bag stays, where offers are given as they are found
pub found_holds : (shown : Shown) (old new : Planned) → HoldsGood shown old → old.stage ≡ AsFound → Kept old.asked shown old.stack new.stack → new ≡ record old { stack = new.stack } → HoldsGood shown new
found_holds shown old new holds stage kept same = rw same (record {
  can = holds.can;
  stack = kept.fits;
  ordered = holds.ordered;
  led = λ e. kept.led (holds.ordered e) (holds.led e);
  sorted = holds.sorted;
})

pub found_gives : (shown : Shown) (old new : Planned) (o : Offer) → HoldsGood shown old → old.stage ≡ AsFound → Takes old.asked shown o old.stack new.stack → new ≡ record old { stack = new.stack } → HoldsGood shown new
found_gives shown old new o holds stage takes same = rw same (record {
  can = holds.can;
  stack = takes.fits;
  ordered = holds.ordered;
  led = λ e. takes.led (holds.ordered e) (holds.led e);
  sorted = holds.sorted;
})

pub found_kept : (shown : Shown) (old new : Planned) → old.stage ≡ AsFound → Kept old.asked shown old.stack new.stack → new ≡ record old { stack = new.stack } → PlanKept shown old new
found_kept shown old new stage kept same = rw same (record { asked = refl; rest_kept = rw stage kept.bag; work = kept.work })

pub found_moves : (shown : Shown) (m : Step Offer) (old new : Planned) → HoldsGood shown old → old.stage ≡ AsFound → Moves old.asked shown m old.stack new.stack → new ≡ record old { stack = new.stack } → PlanMoves shown m old new
found_moves shown (Row o) old new holds stage moves same = rw same (record { asked = refl; step = rw stage (record { out = moves.bag; least = moves.least (holds.ordered stage) (holds.led stage) }); work = le_of_lt moves.work })
found_moves shown End old new holds stage moves same = rw same (record { asked = refl; step = rw stage (moves.1, none_before _ (IsPermutation-sym _ _ (subst (λ l. IsPermutation l (bag old.asked shown new.stack)) moves.1 moves.0.bag))); work = moves.0.work })
found_moves shown Working old new holds stage moves same = rw same (record { asked = refl; step = rw stage moves.0.bag; work = moves.1 })

pub found_step : {E : Type 0} (r : Result (Step Offer) E) (shown : Shown) (old new : Planned) → HoldsGood shown old → old.stage ≡ AsFound → IfOk r (λ m. Moves old.asked shown m old.stack new.stack) → new ≡ record old { stack = new.stack } → IfOk r (λ m. PlanMoves shown m old new)
found_step (Ok m) shown old new holds stage moves same = found_moves shown m old new holds stage moves same
found_step (Err e) shown old new holds stage moves same = tt

found_good : (shown : Shown) (m : Step Offer) (old new : Planned) → HoldsGood shown old → old.stage ≡ AsFound → Moves old.asked shown m old.stack new.stack → new ≡ record old { stack = new.stack } → HoldsGood shown new
found_good shown (Row o) old new holds stage moves same = found_gives shown old new o holds stage moves same
found_good shown End old new holds stage moves same = found_holds shown old new holds stage moves.0 same
found_good shown Working old new holds stage moves same = found_holds shown old new holds stage moves.0 same

pub found_fits : {E : Type 0} (r : Result (Step Offer) E) (shown : Shown) (old new : Planned) → HoldsGood shown old → old.stage ≡ AsFound → IfOk r (λ m. Moves old.asked shown m old.stack new.stack) → OnErr r (Kept old.asked shown old.stack new.stack) → new ≡ record old { stack = new.stack } → HoldsGood shown new
found_fits (Ok m) shown old new holds stage moves kept same = found_good shown m old new holds stage moves same
found_fits (Err e) shown old new holds stage moves kept same = found_holds shown old new holds stage kept same

pub found_failed : {X E : Type 0} (r : Result X E) (shown : Shown) (old new : Planned) → old.stage ≡ AsFound → OnErr r (Kept old.asked shown old.stack new.stack) → new ≡ record old { stack = new.stack } → OnErr r (PlanKept shown old new)
found_failed (Ok x) shown old new stage kept same = tt
found_failed (Err e) shown old new stage kept same = rw same (record { asked = refl; rest_kept = rw stage kept.bag; work = kept.work })

-- Gathering.

pub reversed : {A : Type 0} (xs ys : List A) → IsPermutation xs ys → IsPermutation (reverse xs) (reverse ys)
reversed xs ys p = IsPermutation-trans _ _ _ (IsPermutation-sym _ _ (IsPermutation-reverse xs)) (IsPermutation-trans _ _ _ p (IsPermutation-reverse ys))

pub gathered_more : (a : Asked) (shown : Shown) (o : Offer) (old new : Stacked) (had has : List Offer) → Takes a shown o old new → has ≡ o ∷ had → GathersMore a shown old had new has
gathered_more a shown o old new had has takes is = rw is (record {
  fits = takes.fits;
  bag = IsPermutation-trans _ _ _ (IsPermutation-append_right had (bag a shown old) (o ∷ bag a shown new) takes.bag) (IsPermutation-middle had o (bag a shown new));
  work = takes.work;
})

pub moving_more : (a : Asked) (shown : Shown) (old new : Stacked) (had : List Offer) → Kept a shown old new × (loops_work a shown new < loops_work a shown old) → GathersMore a shown old had new had
moving_more a shown old new had kept = record { fits = kept.0.fits; bag = IsPermutation-append_right had (bag a shown old) (bag a shown new) kept.0.bag; work = kept.1 }

pub moving_is : (a : Asked) (shown : Shown) (old new : Stacked) (had has : List Offer) → Kept a shown old new × (loops_work a shown new < loops_work a shown old) → has ≡ had → GathersMore a shown old had new has
moving_is a shown old new had has kept is = rw is (moving_more a shown old new had kept)

pub gather_good : (shown : Shown) (old new : Planned) → HoldsGood shown old → old.stage ≡ Gathering → StackFits old.asked shown new.stack → new ≡ record old { stack = new.stack; gathered = new.gathered } → HoldsGood shown new
gather_good shown old new holds stage fits same = rw same (record {
  can = holds.can;
  stack = fits;
  ordered = holds.ordered;
  led = λ e. no_stage (sym stage ∙ e);
  sorted = λ e. no_other (sym stage ∙ e);
})
  where
    no_stage : {X : Type 0} → Gathering ≡ AsFound → X
    no_stage h = absurd (cc)

    no_other : {X : Type 0} → Gathering ≡ Giving → X
    no_other h = absurd (cc)

pub gather_moves : (shown : Shown) (old new : Planned) → old.stage ≡ Gathering → GathersMore old.asked shown old.stack old.gathered new.stack new.gathered → new ≡ record old { stack = new.stack; gathered = new.gathered } → PlanMoves shown Working old new
gather_moves shown old new stage gathers same = rw same (record { asked = refl; step = rw stage gathers.bag; work = gathers.work })

pub gather_kept : (shown : Shown) (old new : Planned) → old.stage ≡ Gathering → Kept old.asked shown old.stack new.stack → IsPermutation old.gathered new.gathered → new ≡ record old { stack = new.stack; gathered = new.gathered } → PlanKept shown old new
gather_kept shown old new stage kept moved same = rw same (record { asked = refl; rest_kept = rw stage (IsPermutation-append old.gathered new.gathered (bag old.asked shown old.stack) (bag old.asked shown new.stack) moved kept.bag); work = kept.work })

-- all is gathered, and no memory was found to sort it
pub sort_failed : (shown : Shown) (old mid new : Planned) → old.stage ≡ Gathering → GathersAll old.asked shown old.stack old.gathered mid.stack mid.gathered → mid ≡ record old { stack = mid.stack; gathered = mid.gathered } → IsPermutation mid.gathered new.gathered → new ≡ record mid { gathered = new.gathered } → PlanKept shown old new
sort_failed shown old mid new stage all gathered moved failed = rw (failed, gathered) (record {
  asked = refl;
  rest_kept = rw stage (IsPermutation-append old.gathered new.gathered (bag old.asked shown old.stack) (bag old.asked shown mid.stack) (subst (λ (l : List Offer). IsPermutation l new.gathered) all.offers moved) all.kept.bag);
  work = all.kept.work;
})

-- Giving.

-- the first of a sorted list
pub first_least : (o : Offer) (new : List Offer) → IsSortedBy before (o ∷ new) → GivesOne o (o ∷ new) new
first_least o new up = record {
  out = IsPermutation-refl _;
  least = λ d c. let inside = c.1 in subst (λ x. before x o ≡ false) c.2 (sorted_far before offers_weak (o ∷ new) up 0 (suc c.0) d (omega arith) (omega (arith, inside)));
}

pub sorted_tail : (o : Offer) (new : List Offer) → IsSortedBy before (o ∷ new) → IsSortedBy before new
sorted_tail o new up = λ k d low high. let next : suc k + 1 ≡ suc (k + 1) = omega arith in subst (λ n. before (slice_index_or (o ∷ new) n d) (slice_index_or new k d) ≡ false) next (up (suc k) d (omega arith) (omega (arith, high)))

pub given_moves : (shown : Shown) (m : Step Offer) (old new : Planned) → HoldsGood shown old → old.stage ≡ Giving → Gives m old.gathered new.gathered → new ≡ record old { gathered = new.gathered } → PlanMoves shown m old new
given_moves shown (Row o) old new holds stage gives same = rw same (record { asked = refl; step = rw (stage, gives) (first_least o new.gathered (rw gives at holds.sorted stage)); work = le_refl (loops_work old.asked shown old.stack) })
given_moves shown End old new holds stage gives same = rw same (record { asked = refl; step = rw stage gives; work = le_refl (loops_work old.asked shown old.stack) })
given_moves shown Working old new holds stage gives same = no_way gives

pub given_good : (shown : Shown) (m : Step Offer) (old new : Planned) → HoldsGood shown old → old.stage ≡ Giving → Gives m old.gathered new.gathered → new ≡ record old { gathered = new.gathered } → HoldsGood shown new
given_good shown m old new holds stage gives same = rw same (record {
  can = holds.can;
  stack = holds.stack;
  ordered = holds.ordered;
  led = holds.led;
  sorted = λ e. up m gives;
})
  where
    up : (m : Step Offer) → Gives m old.gathered new.gathered → IsSortedBy before new.gathered
    up (Row o) gives = sorted_tail o new.gathered (rw gives at holds.sorted stage)
    up End gives = subst (λ l. IsSortedBy before l) (gives.0 ∙ sym gives.1) (holds.sorted stage)
    up Working gives = no_way gives

-- an offer is given, or no memory was found for it
pub given_step : {E : Type 0} (r : Result (Step Offer) E) (shown : Shown) (old new : Planned) → HoldsGood shown old → old.stage ≡ Giving → IfOk r (λ m. Gives m old.gathered new.gathered) → new ≡ record old { gathered = new.gathered } → IfOk r (λ m. PlanMoves shown m old new)
given_step (Ok m) shown old new holds stage gives same = given_moves shown m old new holds stage gives same
given_step (Err e) shown old new holds stage gives same = tt

pub given_fits : {E : Type 0} (r : Result (Step Offer) E) (shown : Shown) (old new : Planned) → HoldsGood shown old → old.stage ≡ Giving → IfOk r (λ m. Gives m old.gathered new.gathered) → OnErr r (new ≡ old) → new ≡ record old { gathered = new.gathered } → HoldsGood shown new
given_fits (Ok m) shown old new holds stage gives err same = given_good shown m old new holds stage gives same
given_fits (Err e) shown old new holds stage gives err same = subst (HoldsGood shown) (sym err) holds

pub not_given : {E : Type 0} (r : Result (Step Offer) E) (shown : Shown) (old new : Planned) → OnErr r (new ≡ old) → OnErr r (PlanKept shown old new)
not_given (Ok m) shown old new err = tt
not_given (Err e) shown old new err = rw err (record { asked = refl; rest_kept = IsPermutation-refl _; work = le_refl (loops_work old.asked shown old.stack) })

-- all is gathered and sorted
pub sorted_good : (shown : Shown) (old mid new : Planned) → HoldsGood shown old → old.stage ≡ Gathering → GathersAll old.asked shown old.stack old.gathered mid.stack mid.gathered → mid ≡ record old { stack = mid.stack; gathered = mid.gathered } → Sorts mid new → HoldsGood shown new
sorted_good shown old mid new holds stage all gathered sorts = rw (sorts.same, gathered) (record {
  can = holds.can;
  stack = all.kept.fits;
  ordered = λ e. no_stage e;
  led = λ e. no_stage e;
  sorted = λ e. sorts.sorted;
})
  where
    no_stage : {X : Type 0} → Giving ≡ AsFound → X
    no_stage h = absurd (cc)

pub all_moves : (shown : Shown) (m : Step Offer) (old mid sorted new : Planned) → HoldsGood shown old → old.stage ≡ Gathering → GathersAll old.asked shown old.stack old.gathered mid.stack mid.gathered → mid ≡ record old { stack = mid.stack; gathered = mid.gathered } → Sorts mid sorted → Gives m sorted.gathered new.gathered → new ≡ record sorted { gathered = new.gathered } → PlanMoves shown m old new
all_moves shown m old mid sorted new holds stage all gathered sorts gives same =
    let good = sorted_good shown old mid sorted holds stage all gathered sorts in
    let is : sorted.stage ≡ Giving = ap (λ (p : Planned). p.stage) sorts.same in
    let moves = given_moves shown m sorted new good is gives same in
    record { asked = moves.asked ∙ ap (λ (p : Planned). p.asked) sorts.same ∙ ap (λ (p : Planned). p.asked) gathered; step = stepped m moves.step; work = worked m gives }
  where
    old_is : plan_rest shown old ≡ old.gathered
    old_is = rw (stage, all.none) (append-nil old.gathered)

    sorted_is : plan_rest shown sorted ≡ sorted.gathered
    sorted_is = rw sorts.same refl

    less : plan_work shown new ≤ plan_work shown old
    less = rw (same, sorts.same, gathered) all.kept.work

    worked : (m : Step Offer) → Gives m sorted.gathered new.gathered → WorkTo m (plan_work shown old) (plan_work shown new)
    worked (Row o) gives = less
    worked End gives = less
    worked Working gives = no_way gives

    moved : IsPermutation old.gathered sorted.gathered
    moved = rw (← all.offers) sorts.moved

    stepped : (m : Step Offer) → StepsTo m (plan_rest shown sorted) (plan_rest shown new) → StepsTo m (plan_rest shown old) (plan_rest shown new)
    stepped (Row o) step = record { out = rw old_is (IsPermutation-trans _ _ _ moved (rw sorted_is at step.out)); least = step.least }
    stepped End step = (rw old_is (none_before _ (subst (λ l. IsPermutation old.gathered l) (sym sorted_is ∙ step.0) moved)), step.1)
    stepped Working step = rw old_is (IsPermutation-trans _ _ _ moved (rw sorted_is at step))

pub all_step : {E : Type 0} (r : Result (Step Offer) E) (shown : Shown) (old mid sorted new : Planned) → HoldsGood shown old → old.stage ≡ Gathering → GathersAll old.asked shown old.stack old.gathered mid.stack mid.gathered → mid ≡ record old { stack = mid.stack; gathered = mid.gathered } → Sorts mid sorted → IfOk r (λ m. Gives m sorted.gathered new.gathered) → new ≡ record sorted { gathered = new.gathered } → IfOk r (λ m. PlanMoves shown m old new)
all_step (Ok m) shown old mid sorted new holds stage all gathered sorts gives same = all_moves shown m old mid sorted new holds stage all gathered sorts gives same
all_step (Err e) shown old mid sorted new holds stage all gathered sorts gives same = tt

-- all is sorted, and no memory was found to give the first
pub all_failed : {E : Type 0} (r : Result (Step Offer) E) (shown : Shown) (old mid sorted new : Planned) → old.stage ≡ Gathering → GathersAll old.asked shown old.stack old.gathered mid.stack mid.gathered → mid ≡ record old { stack = mid.stack; gathered = mid.gathered } → Sorts mid sorted → OnErr r (new ≡ sorted) → OnErr r (PlanKept shown old new)
all_failed (Ok m) shown old mid sorted new stage all gathered sorts err = tt
all_failed (Err e) shown old mid sorted new stage all gathered sorts err = rw (err, sorts.same, gathered) (record { asked = refl; rest_kept = rw old_is (rw (← all.offers) sorts.moved); work = all.kept.work })
  where
    old_is : plan_rest shown old ≡ old.gathered
    old_is = rw (stage, all.none) (append-nil old.gathered)
