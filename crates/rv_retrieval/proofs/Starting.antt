-- What was chosen begins a run of the course.
use Rattle.std.proofs.Common.{◌≡◌, ◌∙◌, ℕ, ◌<◌, ◌≤◌, List, [], ◌∷◌, ◌++◌, Bool, true, false, cond, ◌&&◌, ◌||◌, Option, Some, None, IsSome, filter, map, length, nat_lt, nat_eq, refl, ap, sym, subst, arith, inl, inr}
use Rattle.std.specs.List.{AllByRecursion, list_all}
use Rattle.std.specs.Prelude.{if◌then◌else◌}
use Rattle.std.proofs.lemmas.Bool.{cases_Bool, or_parts, lt-ltb, or_from, or_right, or_left, and_from, eqb-true}
use Rattle.std.proofs.lemmas.Bool.Decides.{nat_tests}
use Rattle.std.proofs.lemmas.List.{length-map}
use Rattle.std.proofs.lemmas.List.Sorted.{All-permutation, IsPermutation-map, length_permutation}
use Rattle.rv_value.proofs.Tests.{no_way, number_turned, same_number}
use Rattle.rv_value.proofs.Lists.{from_all, to_all}
use Rattle.rv_keylist.specs.Keys.{Once, has_key}
use Rattle.rv_keylist.proofs.Onces.{Once-IsPermutation, Once-cons, Once-head, Once-tail}
use Rattle.rv_judge.specs.declared.counting.Counts.{Counts}
use Rattle.rv_judge.specs.declared.events.Control.{Control}
use Rattle.rv_judge.specs.declared.events.Control.TheVariants.{Building, ForegroundAlone, BackgroundAlone, FinalTable}
use Rattle.rv_judge.specs.declared.events.Event.{Event}
use Rattle.rv_judge.specs.declared.events.Event.TheVariants.{At, Scan}
use Rattle.rv_judge.specs.declared.events.Happening.TheVariants.{ScanEnded}
use Rattle.rv_judge.specs.declared.events.Strategy.{Strategy}
use Rattle.rv_judge.specs.declared.events.Strategy.TheVariants.{Table, BackgroundOnly, FastFirst, Sorted, IndexOnly, Union}
use Rattle.rv_judge.specs.Runs.{EachOnce, HasScans, has_index, idle, start, start_events}
use Rattle.rv_restrict.specs.declared.atom.Atom.{Atom}
use Rattle.rv_reader.specs.Shown.{Shown}
use Rattle.rv_jscan.specs.declared.jscan.ScanPlan.{ScanPlan}
use Rattle.rv_jscan.specs.Joint.{Joint}
use Rattle.rv_jscan.specs.Steps.{begun}
use Rattle.rv_choice.specs.Asked.{CanAsk}
use Rattle.rv_choice.specs.Choice.{AreScans, IsChosen, IsLeastOf, candidate_at, candidate_of, candidates_of, choice_of, is_scanned, order_index, plan_of, plans_of, restricted_choice}
use Rattle.rv_choice.specs.declared.choosing.Background.{Background}
use Rattle.rv_choice.specs.declared.choosing.Background.TheVariants.{One}
use Rattle.rv_choice.specs.declared.choosing.Candidate.{Candidate}
use Rattle.rv_choice.specs.declared.choosing.Choice.{Choice}
use Rattle.rv_choice.specs.declared.choosing.Role.TheVariants.{Restricted, Short}
use Rattle.rv_choice.specs.declared.query.Goal2.{Goal2}
use Rattle.rv_choice.specs.declared.query.Goal2.TheVariants.{FastFirst as Soon, TotalTime}
use Rattle.rv_choice.specs.declared.query.Query.{Query}
use Rattle.rv_scan.specs.Fronts.{Front}
use Rattle.rv_retrieval.specs.Opened.{Begun, RunsOut, Starts, has_scans, is_one, start_told}
use Rattle.rv_retrieval.specs.Opens.{first_of}
use Rattle.rv_retrieval.specs.Rulings.{gone, listed}
use Rattle.rv_jscan.specs.Planned.{indexes_of}
use Rattle.rv_retrieval.specs.Runs.{Tells, TellsOf, events_left, indexes_asked, runs_both, standing_of}
use Rattle.rv_retrieval.specs.Shape.{Shape, is_background, is_building}
use Rattle.rv_retrieval.specs.Telling.{events_for, index_of}
use Rattle.rv_judge.specs.Tracing.{counted, new_trace, with_events}
use Rattle.rv_retrieval.proofs.Chosen.{filter_some, one_found}
use Rattle.rv_retrieval.proofs.Tellings.{counted_tells, runs_tells}

-- The indexes planned are each planned once.

abbrev index_numbers : List Candidate → List ℕ
index_numbers cs = map (λ (c : Candidate). c.index) cs

kept_absent : (only : List (List Atom)) (b : Background) (cs : List Candidate) (n : ℕ) → has_key n (index_numbers cs) ≡ false → has_key n (indexes_of (plans_of only b cs)) ≡ false
kept_absent only b [] n h = refl
kept_absent only b (c ∷ cs) n h =
    let parts = or_parts (nat_eq n c.index) (has_key n (index_numbers cs)) h in
    let more = kept_absent only b cs n parts.1 in
    elim (is_scanned b c) as (λ x. has_key n (indexes_of (map (plan_of only) (cond x (c ∷ filter (is_scanned b) cs) (filter (is_scanned b) cs)))) ≡ false) [
      | true ↦ or_from (nat_eq n c.index) (has_key n (indexes_of (plans_of only b cs))) parts.0 more
      | false ↦ more
    ]

kept_once : (only : List (List Atom)) (b : Background) (cs : List Candidate) → Once (index_numbers cs) → Once (indexes_of (plans_of only b cs))
kept_once only b [] once = once
kept_once only b (c ∷ cs) once =
    let more = kept_once only b cs (Once-tail c.index (index_numbers cs) once) in
    elim (is_scanned b c) as (λ x. Once (indexes_of (map (plan_of only) (cond x (c ∷ filter (is_scanned b) cs) (filter (is_scanned b) cs))))) [
      | true ↦ Once-cons c.index (indexes_of (plans_of only b cs)) (kept_absent only b cs c.index (Once-head c.index (index_numbers cs) once)) more
      | false ↦ more
    ]

has_flips : (i : ℕ) (keys : List ℕ) → has_index i keys ≡ has_key i keys
has_flips i [] = refl
has_flips i (k ∷ keys) = let more = has_flips i keys in let here = number_turned k i in both (nat_eq k i) (nat_eq i k) (has_index i keys) (has_key i keys) here more
  where
    both : (a b x y : Bool) → a ≡ b → x ≡ y → (a || x) ≡ (b || y)
    both a b x y h i = rw (h, i) refl

each_once : (keys : List ℕ) → Once keys → EachOnce keys
each_once [] once = tt
each_once (k ∷ keys) once = (has_flips k keys ∙ Once-head k keys once, each_once keys (Once-tail k keys once))

asked_numbers : (query : Query) (shown : Shown) (indexes : List (ℕ × List ℕ)) → index_numbers (map (candidate_of query shown) indexes) ≡ map (λ (i : ℕ × List ℕ). i.0) indexes
asked_numbers query shown [] = refl
asked_numbers query shown (i ∷ indexes) = ap (λ (ks : List ℕ). i.0 ∷ ks) (asked_numbers query shown indexes)

numbers_once : (query : Query) (shown : Shown) (cs : List Candidate) → cs ≡ candidates_of query shown → CanAsk query shown → Once (index_numbers cs)
numbers_once query shown cs e can = subst Once (sym (ap index_numbers e ∙ asked_numbers query shown query.indexes)) can.different

pub planned_once : (query : Query) (shown : Shown) (b : Background) (cs : List Candidate) (scans : List ScanPlan) → cs ≡ candidates_of query shown → CanAsk query shown → AreScans query.only cs b scans → EachOnce (indexes_of scans)
planned_once query shown b cs scans e can s = each_once (indexes_of scans) (Once-IsPermutation (indexes_of (plans_of query.only b cs)) (indexes_of scans) (IsPermutation-map (λ (p : ScanPlan). p.index) (plans_of query.only b cs) scans s.these) (kept_once query.only b cs (numbers_once query shown cs e can)))

-- They are the table's.

abbrev IsKnown : List ℕ → ScanPlan → Type 0
IsKnown indexes p = has_index p.index indexes ≡ true

wider : (i : ℕ) (indexes : List ℕ) (cs : List Candidate) → AllByRecursion (λ (c : Candidate). has_index c.index indexes ≡ true) cs → AllByRecursion (λ (c : Candidate). has_index c.index (i ∷ indexes) ≡ true) cs
wider i indexes [] a = tt
wider i indexes (c ∷ cs) a = (or_right (nat_eq i c.index) (has_index c.index indexes) a.0, wider i indexes cs a.1)

all_known : (query : Query) (shown : Shown) (indexes : List (ℕ × List ℕ)) → AllByRecursion (λ (c : Candidate). has_index c.index (map (λ (i : ℕ × List ℕ). i.0) indexes) ≡ true) (map (candidate_of query shown) indexes)
all_known query shown [] = tt
all_known query shown (i ∷ indexes) = (or_left (nat_eq i.0 i.0) _ (same_number i.0), wider i.0 (map (λ (x : ℕ × List ℕ). x.0) indexes) (map (candidate_of query shown) indexes) (all_known query shown indexes))

kept_known : (only : List (List Atom)) (b : Background) (indexes : List ℕ) (cs : List Candidate) → AllByRecursion (λ (c : Candidate). has_index c.index indexes ≡ true) cs → AllByRecursion (IsKnown indexes) (plans_of only b cs)
kept_known only b indexes [] a = tt
kept_known only b indexes (c ∷ cs) a =
    let more = kept_known only b indexes cs a.1 in
    elim (is_scanned b c) as (λ x. AllByRecursion (IsKnown indexes) (map (plan_of only) (cond x (c ∷ filter (is_scanned b) cs) (filter (is_scanned b) cs)))) [
      | true ↦ (a.0, more)
      | false ↦ more
    ]

known_all : (indexes : List ℕ) (plans : List ScanPlan) → AllByRecursion (IsKnown indexes) plans → list_all (λ i. has_index i indexes) (indexes_of plans) ≡ true
known_all indexes [] a = refl
known_all indexes (p ∷ plans) a = and_from (has_index p.index indexes) (list_all (λ i. has_index i indexes) (indexes_of plans)) a.0 (known_all indexes plans a.1)

pub planned_known : (query : Query) (shown : Shown) (b : Background) (cs : List Candidate) (scans : List ScanPlan) → cs ≡ candidates_of query shown → AreScans query.only cs b scans → list_all (λ i. has_index i (indexes_asked query)) (indexes_of scans) ≡ true
planned_known query shown b cs scans e s =
    let known = subst (AllByRecursion (λ (c : Candidate). has_index c.index (indexes_asked query) ≡ true)) (sym e) (all_known query shown query.indexes) in
    let kept = kept_known query.only b (indexes_asked query) cs known in
    known_all (indexes_asked query) scans (from_all (IsKnown (indexes_asked query)) scans (All-permutation (IsKnown (indexes_asked query)) (plans_of query.only b cs) scans s.these (to_all (IsKnown (indexes_asked query)) (plans_of query.only b cs) kept)))

-- A single index has one scan.

none_one : (i : ℕ) (cs : List Candidate) → has_key i (index_numbers cs) ≡ false → length (filter (is_scanned (One i)) cs) ≡ 0
none_one i [] h = refl
none_one i (c ∷ cs) h =
    let parts = or_parts (nat_eq i c.index) (has_key i (index_numbers cs)) h in
    let other : nat_eq c.index i ≡ false = flipped c.index i parts.0 in
    rw other (none_one i cs parts.1)
  where
    flipped : (x y : ℕ) → nat_eq y x ≡ false → nat_eq x y ≡ false
    flipped x y h = grind (arith, nat_tests)

most_one : (i : ℕ) (cs : List Candidate) → Once (index_numbers cs) → length (filter (is_scanned (One i)) cs) ≤ 1
most_one i [] once = omega arith
most_one i (c ∷ cs) once = elim (cases_Bool (nat_eq c.index i)) [
  | inl here ↦
      let is : c.index ≡ i = eqb-true c.index i here in
      let none = none_one i cs (subst (λ (n : ℕ). has_key n (index_numbers cs) ≡ false) is (Once-head c.index (index_numbers cs) once)) in
      rw here (omega arith)
  | inr other ↦ rw other (most_one i cs (Once-tail c.index (index_numbers cs) once))
]

pub one_scan : (query : Query) (shown : Shown) (b : Background) (cs : List Candidate) (scans : List ScanPlan) → cs ≡ candidates_of query shown → CanAsk query shown → AreScans query.only cs b scans → is_one b ≡ true → length scans ≤ 1
one_scan query shown b cs scans e can s one =
    let found = one_found b one in
    let same = length_permutation (plans_of query.only b cs) scans s.these in
    let mapped = length-map (filter (is_scanned b) cs) (plan_of query.only) in
    let most = subst (λ (x : Background). length (filter (is_scanned x) cs) ≤ 1) (sym found.1) (most_one found.0 cs (numbers_once query shown cs e can)) in
    omega arith

-- A strategy that begins with a background has a scan.

-- a union has no planned scans, and is never chosen
abbrev is_planned : Strategy → Bool
is_planned Table = true
is_planned BackgroundOnly = true
is_planned FastFirst = true
is_planned Sorted = true
is_planned IndexOnly = true
is_planned Union = false

has_by : (st : Strategy) (scans : List ScanPlan) → is_planned st ≡ true → 0 < length scans → HasScans st (indexes_of scans)
has_by st [] h l = absurd (omega arith)
has_by Table (p ∷ scans) h l = tt
has_by BackgroundOnly (p ∷ scans) h l = tt
has_by FastFirst (p ∷ scans) h l = tt
has_by Sorted (p ∷ scans) h l = tt
has_by IndexOnly (p ∷ scans) h l = tt
has_by Union (p ∷ scans) h l = absurd (cc)

pub chosen_has : (only : List (List Atom)) (order : List ℕ) (goal : Goal2) (cs : List Candidate) (choice : Choice) (scans : List ScanPlan) → IsChosen order goal cs choice → AreScans only cs choice.background scans → HasScans choice.strategy (indexes_of scans)
chosen_has only order goal cs choice scans chosen s = go (order_index order cs) chosen.short chosen.sufficient chosen.restricted chosen.least_short chosen.least_restricted chosen.rules
  where
    some : (at : ℕ) → is_planned choice.strategy ≡ true → at < length cs → is_scanned choice.background (candidate_at cs at) ≡ true → HasScans choice.strategy (indexes_of scans)
    some at planned l h =
        let same = length_permutation (map (plan_of only) (filter (is_scanned choice.background) cs)) scans s.these in
        let mapped = length-map (filter (is_scanned choice.background) cs) (plan_of only) in
        let found = filter_some (is_scanned choice.background) cs at l h in
        has_by choice.strategy scans planned (omega arith)

    led : (st : Strategy) → choice.strategy ≡ st → HasScans st (indexes_of scans) → HasScans choice.strategy (indexes_of scans)
    led st e h = subst (λ (x : Strategy). HasScans x (indexes_of scans)) (sym e) h

    restricted_has : (goal : Goal2) (restricted : Option ℕ) → IsLeastOf Restricted cs restricted → choice ≡ restricted_choice goal restricted → HasScans choice.strategy (indexes_of scans)
    restricted_has Soon (Some at) l r = some at (ap (λ (c : Choice). is_planned c.strategy) r) l.below (ap (λ (c : Choice). is_scanned c.background (candidate_at cs at)) r ∙ l.is)
    restricted_has TotalTime (Some at) l r = some at (ap (λ (c : Choice). is_planned c.strategy) r) l.below (ap (λ (c : Choice). is_scanned c.background (candidate_at cs at)) r ∙ l.is)
    restricted_has Soon None l r = led Table (ap (λ (c : Choice). c.strategy) r) tt
    restricted_has TotalTime None l r = led Table (ap (λ (c : Choice). c.strategy) r) tt

    go : (found short sufficient restricted : Option ℕ) → IsLeastOf Short cs short → IsLeastOf Restricted cs restricted → choice ≡ choice_of cs goal found short sufficient restricted → HasScans choice.strategy (indexes_of scans)
    go (Some at) (Some n) sufficient restricted l m r = led Sorted (ap (λ (c : Choice). c.strategy) r) tt
    go (Some at) None sufficient restricted l m r = led Sorted (ap (λ (c : Choice). c.strategy) r) tt
    go None (Some n) sufficient restricted l m r = some n (ap (λ (c : Choice). is_planned c.strategy) r) l.below (ap (λ (c : Choice). is_scanned c.background (candidate_at cs n)) r ∙ same_number (candidate_at cs n).index)
    go None None (Some at) restricted l m r = led IndexOnly (ap (λ (c : Choice). c.strategy) r) tt
    go None None None restricted l m r = restricted_has goal restricted m r

-- The first events.

abbrev first_events : Control → Joint → List Event
first_events now j = with_events (with_events [] (At now ∷ [])) (if is_background now then events_for Scan (index_of j j.ended) else [])

opens_alone : (st : Strategy) (now : Control) (plans : List ScanPlan) (indexes : List ℕ) → start st (indexes_of plans) ≡ idle now (indexes_of plans) None → start_events st (indexes_of plans) ≡ At now ∷ [] → is_background now ≡ false → is_building now ≡ false → events_left now ≤ 1 → length plans ≤ 8 → HasScans st (indexes_of plans) → EachOnce (indexes_of plans) → list_all (λ i. has_index i indexes) (indexes_of plans) ≡ true → TellsOf st st now plans 0 None indexes (At now ∷ [])
opens_alone st now plans indexes begins told off shut most few has once known = record {
  standing = idle now (indexes_of plans) None;
  turns = [];
  run = tt;
  told = ap (λ (es : List Event). es ++ []) (sym told);
  ends = begins;
  at = refl;
  running = λ h. no_way (sym h ∙ off);
  said = refl;
  way = λ h. no_way (sym h ∙ off);
  both = λ h. no_way (sym h ∙ shut);
  room = omega arith;
  scanned = has;
  once = once;
  known = known;
  undropped = λ k low high. refl;
}

opens_with : (st : Strategy) (now : Control) (p : ScanPlan) (plans : List ScanPlan) (indexes : List ℕ) → start st (indexes_of (p ∷ plans)) ≡ standing_of now (p ∷ plans) 0 None → start_events st (indexes_of (p ∷ plans)) ≡ At now ∷ Scan p.index ∷ [] → (is_building now ≡ true → runs_both st ≡ true) → events_left now ≤ 4 → length (p ∷ plans) ≤ 8 → HasScans st (indexes_of (p ∷ plans)) → EachOnce (indexes_of (p ∷ plans)) → list_all (λ i. has_index i indexes) (indexes_of (p ∷ plans)) ≡ true → TellsOf st st now (p ∷ plans) 0 None indexes (At now ∷ Scan p.index ∷ [])
opens_with st now p plans indexes begins told both most few has once known = record {
  standing = standing_of now (p ∷ plans) 0 None;
  turns = [];
  run = tt;
  told = ap (λ (es : List Event). es ++ []) (sym told);
  ends = begins;
  at = refl;
  running = λ h. refl;
  said = refl;
  way = λ h. less (nat_lt 0 (length (p ∷ plans))) (lt-ltb 0 (length (p ∷ plans)) (omega arith));
  both = both;
  room = omega arith;
  scanned = has;
  once = once;
  known = known;
  undropped = λ k low high. refl;
}
  where
    less : (a : Bool) → a ≡ true → (a && true) ≡ true
    less a h = grind arith

first_scan : (j : Joint) (now : Control) (p : ScanPlan) (plans : List ScanPlan) → j.plans ≡ p ∷ plans → j.ended ≡ 0 → is_background now ≡ true → first_events now j ≡ At now ∷ Scan p.index ∷ []
first_scan j now p plans e z back =
    let less : nat_lt 0 (length (p ∷ plans)) ≡ true = lt-ltb 0 (length (p ∷ plans)) (omega arith) in
    rw back (rw z (rw e (rw less refl)))

tells_first : (st : Strategy) (plans : List ScanPlan) (indexes : List ℕ) (j : Joint) → j.plans ≡ plans → j.ended ≡ 0 → length plans ≤ 8 → HasScans st (indexes_of plans) → EachOnce (indexes_of plans) → list_all (λ i. has_index i indexes) (indexes_of plans) ≡ true → TellsOf st st (first_of st (has_scans plans)) plans 0 None indexes (first_events (first_of st (has_scans plans)) j)
tells_first Table plans indexes j e z few has once known = opens_alone Table FinalTable plans indexes refl refl refl refl (omega arith) few has once known
tells_first BackgroundOnly [] indexes j e z few has once known = absurd has
tells_first BackgroundOnly (p ∷ plans) indexes j e z few has once known = rw (first_scan j BackgroundAlone p plans e z refl) (opens_with BackgroundOnly BackgroundAlone p plans indexes refl refl (λ h. absurd (cc)) (omega arith) few has once known)
tells_first FastFirst [] indexes j e z few has once known = absurd has
tells_first FastFirst (p ∷ plans) indexes j e z few has once known = rw (first_scan j Building p plans e z refl) (opens_with FastFirst Building p plans indexes refl refl (λ h. refl) (omega arith) few has once known)
tells_first Sorted [] indexes j e z few has once known = opens_alone Sorted ForegroundAlone [] indexes refl refl refl refl (omega arith) few has once known
tells_first Sorted (p ∷ plans) indexes j e z few has once known = subst (λ (b : Bool). TellsOf Sorted Sorted (first_of Sorted b) (p ∷ plans) 0 None indexes (first_events (first_of Sorted b) j)) (sym (lt-ltb 0 (length (p ∷ plans)) (omega arith))) (rw (first_scan j Building p plans e z refl) (opens_with Sorted Building p plans indexes refl refl (λ h. refl) (omega arith) few has once known))
tells_first IndexOnly [] indexes j e z few has once known = opens_alone IndexOnly ForegroundAlone [] indexes refl refl refl refl (omega arith) few has once known
tells_first IndexOnly (p ∷ plans) indexes j e z few has once known = subst (λ (b : Bool). TellsOf IndexOnly IndexOnly (first_of IndexOnly b) (p ∷ plans) 0 None indexes (first_events (first_of IndexOnly b) j)) (sym (lt-ltb 0 (length (p ∷ plans)) (omega arith))) (rw (first_scan j Building p plans e z refl) (opens_with IndexOnly Building p plans indexes refl refl (λ h. refl) (omega arith) few has once known))
tells_first Union plans indexes j e z few has once known = absurd has

-- they are those of a run
first_told : (st : Strategy) (plans : List ScanPlan) (j : Joint) → j.plans ≡ plans → j.ended ≡ 0 → HasScans st (indexes_of plans) → first_events (first_of st (has_scans plans)) j ≡ start_events st (indexes_of plans)
first_told Table plans j e z has = refl
first_told BackgroundOnly [] j e z has = absurd has
first_told BackgroundOnly (p ∷ plans) j e z has = first_scan j BackgroundAlone p plans e z refl
first_told FastFirst [] j e z has = absurd has
first_told FastFirst (p ∷ plans) j e z has = first_scan j Building p plans e z refl
first_told Sorted [] j e z has = refl
first_told Sorted (p ∷ plans) j e z has = subst (λ (b : Bool). first_events (first_of Sorted b) j ≡ start_events Sorted (indexes_of (p ∷ plans))) (sym (lt-ltb 0 (length (p ∷ plans)) (omega arith))) (first_scan j Building p plans e z refl)
first_told IndexOnly [] j e z has = refl
first_told IndexOnly (p ∷ plans) j e z has = subst (λ (b : Bool). first_events (first_of IndexOnly b) j ≡ start_events IndexOnly (indexes_of (p ∷ plans))) (sym (lt-ltb 0 (length (p ∷ plans)) (omega arith))) (first_scan j Building p plans e z refl)
first_told Union plans j e z has = absurd has

pub begun_told : (v : Shape) (query : Query) (st : Strategy) (plans : List ScanPlan) (front : Front) (guaranteed cursor opening : ℕ) → Begun query st plans front guaranteed cursor opening v → v.trace ≡ start_told (record v { trace = new_trace st }) → HasScans st (indexes_of plans) → v.trace.events.items ≡ start_events v.strategy (indexes_of v.joint.plans)
begun_told v query st plans front guaranteed cursor opening b told has =
    let j : Joint = begun query.table query.snap plans cursor opening in
    rw (told, b.chosen, b.joint, b.started) (first_told st plans j refl refl has)

pub begun_tells : (v : Shape) (query : Query) (st : Strategy) (plans : List ScanPlan) (front : Front) (guaranteed cursor opening : ℕ) → Begun query st plans front guaranteed cursor opening v → v.trace ≡ start_told (record v { trace = new_trace st }) → length plans ≤ 8 → HasScans st (indexes_of plans) → EachOnce (indexes_of plans) → list_all (λ i. has_index i (indexes_asked query)) (indexes_of plans) ≡ true → Tells v
begun_tells v query st plans front guaranteed cursor opening b told few has once known =
    let j : Joint = begun query.table query.snap plans cursor opening in
    rw (told, b.asked, b.chosen, b.joint, b.started) (tells_first st plans (indexes_asked query) j refl refl few has once known)

-- What was opened tells a run.

pub opened_tells : (b : Background) (made mid new : Shape) (cursor opening : ℕ) (c d : Counts) → Tells made → (is_one b ≡ true → is_background made.control ≡ true) → (is_one b ≡ true → length made.joint.plans ≤ 1) → Starts cursor opening made → mid.joint.plans ≡ made.joint.plans → (is_one b ≡ true → RunsOut made mid) → (is_one b ≡ false → mid ≡ made) → new ≡ record mid { trace = counted mid.trace c d } → Tells new
opened_tells b made mid new cursor opening c d t back short s plans runs same n = counted_tells mid new c d n (elim (cases_Bool (is_one b)) [ inl one ↦ ran one | inr none ↦ subst Tells (sym (same none)) t ])
  where
    zero_is : made.joint.ended ≡ 0
    zero_is = ap (λ (j : Joint). j.ended) s.joint

    by : (list : Option (List ℕ)) → mid.joint.list ≡ list → IsSome list → is_one b ≡ true → RunsOut made mid → Tells mid
    by None e h one r = no_way (sym h)
    by (Some keys) e h one r =
        let few = short one in
        let behind = r.behind in
        let told : Tells (gone (ScanEnded false true) (listed made.joint.ended (record made { joint = mid.joint }))) = runs_tells made mid.joint keys (back one) plans e (omega arith) (omega arith) t in
        subst Tells (sym r.same) (subst (λ (n : ℕ). Tells (gone (ScanEnded false true) (listed n (record made { joint = mid.joint })))) zero_is told)

    ran : is_one b ≡ true → Tells mid
    ran one = let r = runs one in by mid.joint.list refl r.complete one r
