-- A take leaves the control, the scans and the events of a retrieval.
use Rattle.std.proofs.Common.{◌≡◌, ◌<◌, ℕ, List, [], ◌∷◌, length, slice_index_or, slice_set, zero, suc, refl, ap, sym, arith, subst}
use Rattle.rv_race.specs.Raced.{Raced}
use Rattle.rv_union.specs.Unioned.{Unioned}
use Rattle.rv_access.specs.declared.access.Access.{Access}
use Rattle.rv_access.specs.declared.access.Access.TheVariants.{Competing, Racing, Uniting}
use Rattle.rv_access.specs.declared.racing.RacedQuery.{RacedQuery}
use Rattle.rv_access.specs.declared.uniting.UnitedQuery.{UnitedQuery}
use Rattle.rv_access.specs.Given.{TakesLeaf}
use Rattle.rv_access.specs.Stepping.{SameCourse}
use Rattle.rv_join.specs.declared.level.Level.{Level}
use Rattle.rv_join.specs.Levels.{Stacked, first_in, first_of}

pub course_stays : (a : Access) → SameCourse a a
course_stays (Competing v) = record { strategy = refl; control = refl; plans = refl; ended = refl; list = refl; query = refl; named = refl; events = refl }
course_stays (Racing r) = record { query = refl; control = refl; plans = refl; turn = refl; other = refl; list = refl; named = refl; events = refl }
course_stays (Uniting u) = record { query = refl; control = refl; plans = refl; member = refl; lane = refl; keys = refl; named = refl; events = refl }

pub leaf_course : (old new : Access) → TakesLeaf old new → SameCourse old new
leaf_course (Competing v) (Competing w) leaf = leaf.course
leaf_course (Competing v) (Racing s) leaf = absurd leaf
leaf_course (Competing v) (Uniting s) leaf = absurd leaf
leaf_course (Racing r) (Competing w) leaf = absurd leaf
leaf_course (Racing r) (Racing s) leaf = record {
  query = ap (λ (q : RacedQuery). q.query) leaf.same;
  control = ap (λ (x : Raced). x.control) leaf.leaves.same;
  plans = ap (λ (x : Raced). x.plans) leaf.leaves.same;
  turn = ap (λ (x : Raced). x.running.turn.scan) leaf.leaves.same;
  other = ap (λ (x : Raced). x.running.other) leaf.leaves.same;
  list = ap (λ (x : Raced). x.list) leaf.leaves.same;
  named = leaf.leaves.named;
  events = leaf.leaves.events;
}
leaf_course (Racing r) (Uniting s) leaf = absurd leaf
leaf_course (Uniting u) (Competing w) leaf = absurd leaf
leaf_course (Uniting u) (Racing s) leaf = absurd leaf
leaf_course (Uniting u) (Uniting s) leaf = record {
  query = ap (λ (q : UnitedQuery). q.query) leaf.same;
  control = ap (λ (x : Unioned). x.control) leaf.leaves.same;
  plans = ap (λ (x : Unioned). x.plans) leaf.leaves.same;
  member = ap (λ (x : Unioned). x.member) leaf.leaves.same;
  lane = ap (λ (x : Unioned). x.lane) leaf.leaves.same;
  keys = ap (λ (x : Unioned). x.keys) leaf.leaves.same;
  named = leaf.leaves.named;
  events = leaf.leaves.events;
}

pub first_course : (old new : Stacked) → new ≡ record old { at = new.at } → SameCourse old.at.here new.at.here → SameCourse (first_of old).here (first_of new).here
first_course old new same course = subst (λ (ls : List Level). SameCourse (first_of old).here (first_in ls new.at).here) (sym (ap (λ (v : Stacked). v.above) same)) (by_above old.above)
  where
    by_above : (ls : List Level) → SameCourse (first_in ls old.at).here (first_in ls new.at).here
    by_above [] = course
    by_above (l ∷ ls) = course_stays l.here

pub list_course : (ls : List Level) (i : ℕ) (old new : Level) → i < length ls → old ≡ slice_index_or ls i old → SameCourse old.here new.here → (d : Level) → SameCourse (first_in ls d).here (first_in (slice_set ls i new) d).here
list_course [] i old new le is course d = absurd (omega (arith, le))
list_course (l ∷ ls) zero old new le is course d = subst (λ (x : Level). SameCourse x.here new.here) is course
list_course (l ∷ ls) (suc i) old new le is course d = course_stays l.here
