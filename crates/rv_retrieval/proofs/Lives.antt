-- The effort of a retrieval that was just made is at most the bound of the reader's lists.
use Rattle.std.proofs.Common.{◌≡◌, ℕ, zero, suc, ◌+◌, ◌*◌, ◌<◌, ◌≤◌, List, [], ◌∷◌, length, filter, map, Bool, true, false, cond, ◌&&◌, ◌||◌, refl, ap, sym, ◌∙◌, arith, subst, Option, Some, None, IfSome}
use Rattle.std.specs.Prelude.{if◌then◌else◌}
use Rattle.std.specs.List.{sum_by}
use Rattle.std.proofs.lemmas.List.{length-map}
use Rattle.std.proofs.lemmas.List.Quantifiers.{position-Some}
use Rattle.std.proofs.lemmas.List.Sums.{sum_by-cons}
use Rattle.std.proofs.lemmas.List.Sorted.{length_permutation, sum_by-IsPermutation}
use Rattle.std.proofs.lemmas.Bool.{lt-ltb}
use Rattle.rv_value.proofs.Tests.{no_way, same_number}
use Rattle.rv_value.proofs.Lists.{filter_length}
use Rattle.rv_judge.specs.declared.events.Control.{Control}
use Rattle.rv_judge.specs.declared.events.Control.TheVariants.{Building}
use Rattle.rv_judge.specs.declared.events.Strategy.{Strategy}
use Rattle.rv_judge.specs.declared.events.Strategy.TheVariants.{Table, BackgroundOnly, FastFirst, Sorted, IndexOnly, Union}
use Rattle.rv_judge.specs.Course.{fast_first}
use Rattle.rv_restrict.specs.declared.atom.Atom.{Atom}
use Rattle.rv_reader.specs.Entries.{is_in}
use Rattle.rv_reader.specs.Leaves.{run_from}
use Rattle.rv_reader.specs.Shown.{Shown}
use Rattle.rv_reader.specs.Tables.{IsTable}
use Rattle.rv_reader.proofs.Rows.{rows_few}
use Rattle.rv_scan.specs.Alongs.{Along, leaf_work}
use Rattle.rv_scan.specs.Places.{work as pages_work}
use Rattle.rv_jscan.specs.declared.jscan.ScanPlan.{ScanPlan}
use Rattle.rv_jscan.specs.Joint.{Joint, leaves_planned, under_way}
use Rattle.rv_choice.specs.declared.query.Query.{Query}
use Rattle.rv_choice.specs.declared.choosing.Background.{Background}
use Rattle.rv_choice.specs.declared.choosing.Background.TheVariants.{Each, One}
use Rattle.rv_choice.specs.declared.choosing.Role.TheVariants.{Restricted, Short, Sufficient}
use Rattle.rv_choice.specs.declared.query.Goal2.{Goal2}
use Rattle.rv_choice.specs.declared.query.Goal2.TheVariants.{FastFirst as Soon, TotalTime}
use Rattle.rv_choice.specs.declared.choosing.Candidate.{Candidate}
use Rattle.rv_choice.specs.declared.choosing.Choice.{Choice}
use Rattle.rv_choice.specs.Asked.{CanAsk}
use Rattle.rv_choice.specs.Choice.{AreScans, IsChosen, IsLeastOf, candidate_at, choice_of, leads, no_candidate, order_index, restricted_choice, candidate_of, candidates_of, is_scanned, plan_of}
use Rattle.rv_retrieval.specs.Effort.{Awaiting, back_work, cuts_and_entries, effort, entries_planned, front_work, keys_work, life_of, sum_of, table_work}
use Rattle.rv_scan.specs.Fronts.{Front, walk_of}
use Rattle.rv_jscan.proofs.Leaves.{leaves_first}
use Rattle.rv_retrieval.specs.Opened.{Begun, has_scans}
use Rattle.rv_choice.specs.Leading.{front_begun, front_candidate, walk_begun}
use Rattle.rv_retrieval.specs.Opens.{first_of}
use Rattle.rv_retrieval.specs.Shape.{Shape, is_background, is_building, is_led}
use Rattle.rv_retrieval.proofs.BackWork.{entries_first}
use Rattle.rv_retrieval.proofs.Chosen.{chosen_front, walk_same, filter_some}
use Rattle.rv_retrieval.proofs.Courses.{HasFront, keys_back, sum_lower}

-- The rows of a table are at most as many as its pages have places.

-- The background's scans.

-- what a planned scan may cost
abbrev plan_cost : Shown → ℕ → ScanPlan → ℕ
plan_cost shown snap plan = 2 * (length (shown.cuts plan.index snap) + 1) + 3 * length (run_from (shown.entries plan.index snap) plan.range None)

planned_sum : (plans : List ScanPlan) (shown : Shown) (snap : ℕ) → 2 * leaves_planned plans shown snap + 3 * entries_planned plans shown snap ≡ sum_by (plan_cost shown snap) plans
planned_sum [] shown snap = refl
planned_sum (p ∷ plans) shown snap =
    let more = planned_sum plans shown snap in
    let first = sum_by-cons (plan_cost shown snap) p plans in
    omega arith

plans_cost : (query : Query) (shown : Shown) (background : Background) (is : List (ℕ × List ℕ)) → sum_by (plan_cost shown query.snap) (map (plan_of query.only) (filter (is_scanned background) (map (candidate_of query shown) is))) ≤ 3 * cuts_and_entries is shown query.snap + 2 * length is
plans_cost query shown background [] = omega arith
plans_cost query shown background (i ∷ is) =
    let rest = map (plan_of query.only) (filter (is_scanned background) (map (candidate_of query shown) is)) in
    let first = sum_by-cons (plan_cost shown query.snap) (plan_of query.only (candidate_of query shown i)) rest in
    let more = plans_cost query shown background is in
    let few = filter_length (is_in (candidate_of query shown i).range) (shown.entries i.0 query.snap) in
    elim (is_scanned background (candidate_of query shown i)) as (λ b. sum_by (plan_cost shown query.snap) (map (plan_of query.only) (cond b (candidate_of query shown i ∷ filter (is_scanned background) (map (candidate_of query shown) is)) (filter (is_scanned background) (map (candidate_of query shown) is)))) ≤ 3 * cuts_and_entries (i ∷ is) shown query.snap + 2 * length (i ∷ is)) [
      | true ↦ omega arith
      | false ↦ omega arith
    ]

scans_cost : (query : Query) (shown : Shown) (background : Background) (scans : List ScanPlan) → CanAsk query shown → AreScans query.only (candidates_of query shown) background scans → 2 * leaves_planned scans shown query.snap + 3 * entries_planned scans shown query.snap ≤ 3 * cuts_and_entries query.indexes shown query.snap + 16
scans_cost query shown background scans can s =
    let same = sum_by-IsPermutation (plan_cost shown query.snap) (map (plan_of query.only) (filter (is_scanned background) (candidates_of query shown))) scans s.these in
    let sum = planned_sum scans shown query.snap in
    let cost = plans_cost query shown background query.indexes in
    let few = can.few in
    omega arith

-- The foreground's scan.

index_cost : (query : Query) (shown : Shown) (is : List (ℕ × List ℕ)) (at : ℕ) → at < length is → length (shown.cuts (candidate_at (map (candidate_of query shown) is) at).index query.snap) + length (shown.entries (candidate_at (map (candidate_of query shown) is) at).index query.snap) ≤ cuts_and_entries is shown query.snap
index_cost query shown [] at l = absurd (omega arith)
index_cost query shown (i ∷ is) zero l = omega arith
index_cost query shown (i ∷ is) (suc at) l = let more = index_cost query shown is at (omega arith) in omega arith

walk_cost : (query : Query) (shown : Shown) (c : Candidate) → leaf_work (walk_begun query c) (shown.entries c.index query.snap) (shown.cuts c.index query.snap) ≤ length (shown.entries c.index query.snap) + length (shown.cuts c.index query.snap) + 1
walk_cost query shown c = let few = filter_length (is_in c.range) (shown.entries c.index query.snap) in omega arith

begun_cost : (query : Query) (shown : Shown) (c : Candidate) → leaf_work (walk_of (front_begun query c)) (shown.entries (walk_of (front_begun query c)).index query.snap) (shown.cuts (walk_of (front_begun query c)).index query.snap) ≤ length (shown.entries c.index query.snap) + length (shown.cuts c.index query.snap) + 1
begun_cost query shown c = subst (λ (w : Along). leaf_work w (shown.entries w.index query.snap) (shown.cuts w.index query.snap) ≤ length (shown.entries c.index query.snap) + length (shown.cuts c.index query.snap) + 1) (sym (walk_same query c)) (walk_cost query shown c)

front_cost : (query : Query) (shown : Shown) (choice : Choice) → IsChosen query.order query.goal (candidates_of query shown) choice → (b : Bool) → is_led choice.strategy ≡ b → (if b then leaf_work (walk_of (front_begun query (front_candidate (candidates_of query shown) choice.front))) (shown.entries (walk_of (front_begun query (front_candidate (candidates_of query shown) choice.front))).index query.snap) (shown.cuts (walk_of (front_begun query (front_candidate (candidates_of query shown) choice.front))).index query.snap) else 0) ≤ cuts_and_entries query.indexes shown query.snap + 1
front_cost query shown choice chosen true led =
    let f = chosen_front query.order query.goal (candidates_of query shown) choice chosen led in
    let mapped = length-map query.indexes (candidate_of query shown) in
    let there = f.there in
    let index = index_cost query shown query.indexes f.at (omega arith) in
    let cost = begun_cost query shown (candidate_at (candidates_of query shown) f.at) in
    let is = ap (λ (at : Option ℕ). leaf_work (walk_of (front_begun query (front_candidate (candidates_of query shown) at))) (shown.entries (walk_of (front_begun query (front_candidate (candidates_of query shown) at))).index query.snap) (shown.cuts (walk_of (front_begun query (front_candidate (candidates_of query shown) at))).index query.snap)) f.is in
    omega arith
front_cost query shown choice chosen false led = omega arith

-- all parts together
sum_most : (c : Control) (b f t k : ℕ) → k ≤ b → sum_of c b f t k ≤ b + f + t
sum_most c b f t k l = sum_lower Building c b f t k refl l

pub begun_life : (query : Query) (shown : Shown) (choice : Choice) (scans : List ScanPlan) (front : Front) (guaranteed cursor opening : ℕ) (v : Shape) → CanAsk query shown → IsTable (shown.rows query.table query.snap) (shown.pages query.table query.snap) → IsChosen query.order query.goal (candidates_of query shown) choice → AreScans query.only (candidates_of query shown) choice.background scans → front ≡ front_begun query (front_candidate (candidates_of query shown) choice.front) → Begun query choice.strategy scans front guaranteed cursor opening v → pages_work v.last (shown.rows query.table query.snap) (shown.pages query.table query.snap) ≡ length (shown.rows query.table query.snap) + shown.pages query.table query.snap → effort v shown < life_of query shown
begun_life query shown choice scans front guaranteed cursor opening v can table chosen s is b last =
    let few = rows_few (shown.rows query.table query.snap) (shown.pages query.table query.snap) table in
    let scan = scans_cost query shown choice.background scans can s in
    let leaves = leaves_first scans shown query.snap in
    let entries = entries_first scans shown query.snap in
    let back = ap (λ (j : Joint). back_work j v.borrowed shown) b.joint in
    let ahead = front_cost query shown choice chosen (is_led choice.strategy) refl in
    let lead : front_work v shown ≡ (if is_led choice.strategy then leaf_work (walk_of (front_begun query (front_candidate (candidates_of query shown) choice.front))) (shown.entries (walk_of (front_begun query (front_candidate (candidates_of query shown) choice.front))).index query.snap) (shown.cuts (walk_of (front_begun query (front_candidate (candidates_of query shown) choice.front))).index query.snap) else 0) = lead_is in
    let table_is : table_work v shown ≡ length (shown.rows query.table query.snap) + shown.pages query.table query.snap = ap (λ (q : Query). pages_work v.last (shown.rows q.table q.snap) (shown.pages q.table q.snap)) b.asked ∙ last in
    let sum = sum_most v.control (back_work v.joint v.borrowed shown) (front_work v shown) (table_work v shown) (keys_work v) (keys_back v shown) in
    omega arith
  where
    lead_is : front_work v shown ≡ (if is_led choice.strategy then leaf_work (walk_of (front_begun query (front_candidate (candidates_of query shown) choice.front))) (shown.entries (walk_of (front_begun query (front_candidate (candidates_of query shown) choice.front))).index query.snap) (shown.cuts (walk_of (front_begun query (front_candidate (candidates_of query shown) choice.front))).index query.snap) else 0)
    lead_is =
        ap (λ (f : Front). if is_led v.strategy then leaf_work (walk_of f) (shown.entries (walk_of f).index v.query.snap) (shown.cuts (walk_of f).index v.query.snap) else 0) (b.front ∙ is)
        ∙ ap (λ (q : Query). if is_led v.strategy then leaf_work (walk_of (front_begun query (front_candidate (candidates_of query shown) choice.front))) (shown.entries (walk_of (front_begun query (front_candidate (candidates_of query shown) choice.front))).index q.snap) (shown.cuts (walk_of (front_begun query (front_candidate (candidates_of query shown) choice.front))).index q.snap) else 0) b.asked
        ∙ ap (λ (s : Strategy). if is_led s then leaf_work (walk_of (front_begun query (front_candidate (candidates_of query shown) choice.front))) (shown.entries (walk_of (front_begun query (front_candidate (candidates_of query shown) choice.front))).index query.snap) (shown.cuts (walk_of (front_begun query (front_candidate (candidates_of query shown) choice.front))).index query.snap) else 0) b.chosen

-- Where a retrieval begins with a background a scan is planned.

some_scans : (only : List (List Atom)) (background : Background) (cs : List Candidate) (scans : List ScanPlan) (at : ℕ) → AreScans only cs background scans → at < length cs → is_scanned background (candidate_at cs at) ≡ true → has_scans scans ≡ true
some_scans only background cs scans at s l is =
    let same = length_permutation (map (plan_of only) (filter (is_scanned background) cs)) scans s.these in
    let mapped = length-map (filter (is_scanned background) cs) (plan_of only) in
    let found = filter_some (is_scanned background) cs at l is in
    lt-ltb 0 (length scans) (omega arith)

pub scans_planned : (only : List (List Atom)) (order : List ℕ) (goal : Goal2) (cs : List Candidate) (choice : Choice) (scans : List ScanPlan) → IsChosen order goal cs choice → AreScans only cs choice.background scans → is_background (first_of choice.strategy (has_scans scans)) ≡ true → has_scans scans ≡ true
scans_planned only order goal cs choice scans chosen s back = go (order_index order cs) chosen.short chosen.sufficient chosen.restricted chosen.least_short chosen.least_restricted chosen.rules
  where
    sorted : choice.strategy ≡ Sorted → has_scans scans ≡ true
    sorted e = by (has_scans scans) (sym (ap (λ (x : Strategy). is_background (first_of x (has_scans scans))) e) ∙ back)
      where
        by : (b : Bool) → is_background (first_of Sorted b) ≡ true → b ≡ true
        by true h = refl
        by false h = h

    covered : choice.strategy ≡ IndexOnly → has_scans scans ≡ true
    covered e = by (has_scans scans) (sym (ap (λ (x : Strategy). is_background (first_of x (has_scans scans))) e) ∙ back)
      where
        by : (b : Bool) → is_background (first_of IndexOnly b) ≡ true → b ≡ true
        by true h = refl
        by false h = h

    table : choice.strategy ≡ Table → has_scans scans ≡ true
    table e = no_way (sym (sym (ap (λ (x : Strategy). is_background (first_of x (has_scans scans))) e) ∙ back))

    one : (at : ℕ) → at < length cs → choice.background ≡ One (candidate_at cs at).index → has_scans scans ≡ true
    one at l e = some_scans only choice.background cs scans at s l (ap (λ (b : Background). is_scanned b (candidate_at cs at)) e ∙ same_number (candidate_at cs at).index)

    each : (at : ℕ) → IsLeastOf Restricted cs (Some at) → choice.background ≡ Each → has_scans scans ≡ true
    each at l e = some_scans only choice.background cs scans at s l.below (ap (λ (b : Background). is_scanned b (candidate_at cs at)) e ∙ l.is)

    last : (goal : Goal2) (restricted : Option ℕ) → IsLeastOf Restricted cs restricted → choice ≡ restricted_choice goal restricted → has_scans scans ≡ true
    last Soon (Some at) l r = each at l (ap (λ (c : Choice). c.background) r)
    last TotalTime (Some at) l r = each at l (ap (λ (c : Choice). c.background) r)
    last Soon None l r = table (ap (λ (c : Choice). c.strategy) r)
    last TotalTime None l r = table (ap (λ (c : Choice). c.strategy) r)

    go : (found short sufficient restricted : Option ℕ) → IsLeastOf Short cs short → IsLeastOf Restricted cs restricted → choice ≡ choice_of cs goal found short sufficient restricted → has_scans scans ≡ true
    go (Some at) (Some n) sufficient restricted l m r = sorted (ap (λ (c : Choice). c.strategy) r)
    go (Some at) None sufficient restricted l m r = sorted (ap (λ (c : Choice). c.strategy) r)
    go None (Some n) sufficient restricted l m r = one n l.below (ap (λ (c : Choice). c.background) r)
    go None None (Some at) restricted l m r = covered (ap (λ (c : Choice). c.strategy) r)
    go None None None restricted l m r = last goal restricted m r

front_of : (s : Strategy) (b : Bool) → HasFront s (first_of s b)
front_of Table b h = no_way (sym h)
front_of BackgroundOnly b h = no_way (sym h)
front_of Union b h = no_way (sym h)
front_of FastFirst b h = refl
front_of Sorted b h = refl
front_of IndexOnly b h = refl

-- it awaits a piece where it begins with a background
pub begun_awaits : (query : Query) (choice : Choice) (cs : List Candidate) (scans : List ScanPlan) (front : Front) (guaranteed cursor opening : ℕ) (v : Shape) → IsChosen query.order query.goal cs choice → AreScans query.only cs choice.background scans → Begun query choice.strategy scans front guaranteed cursor opening v → Awaiting v
begun_awaits query choice cs scans front guaranteed cursor opening v chosen s b = record {
  way = λ h. ap under_way b.joint ∙ both (has_scans scans) (scans_planned query.only query.order query.goal cs choice scans chosen s (sym (ap is_background b.started) ∙ h));
  both = λ h. ap (λ (x : Strategy). fast_first x || is_led x) b.chosen ∙ front_of choice.strategy (has_scans scans) (sym (ap is_building b.started) ∙ h);
}
  where
    both : (b : Bool) → b ≡ true → (b && true) ≡ true
    both b h = grind arith

-- the foreground's index is one of the table's
pub front_there : (order : List ℕ) (goal : Goal2) (cs : List Candidate) (choice : Choice) → IsChosen order goal cs choice → IfSome choice.front (λ (at : ℕ). at < length cs)
front_there order goal cs choice chosen = go (order_index order cs) chosen.short chosen.sufficient chosen.restricted refl chosen.least_sufficient chosen.rules
  where
    is : (o : Option ℕ) → choice.front ≡ o → IfSome o (λ (at : ℕ). at < length cs) → IfSome choice.front (λ (at : ℕ). at < length cs)
    is o e h = subst (λ (x : Option ℕ). IfSome x (λ (at : ℕ). at < length cs)) (sym e) h

    last : (goal : Goal2) (restricted : Option ℕ) → choice ≡ restricted_choice goal restricted → IfSome choice.front (λ (at : ℕ). at < length cs)
    last Soon (Some at) r = is None (ap (λ (c : Choice). c.front) r) tt
    last TotalTime (Some at) r = is None (ap (λ (c : Choice). c.front) r) tt
    last Soon None r = is None (ap (λ (c : Choice). c.front) r) tt
    last TotalTime None r = is None (ap (λ (c : Choice). c.front) r) tt

    go : (found short sufficient restricted : Option ℕ) → order_index order cs ≡ found → IsLeastOf Sufficient cs sufficient → choice ≡ choice_of cs goal found short sufficient restricted → IfSome choice.front (λ (at : ℕ). at < length cs)
    go (Some at) (Some n) sufficient restricted e l r = is (Some at) (ap (λ (c : Choice). c.front) r) (position-Some (λ (c : Candidate). leads order c.columns) cs at no_candidate e).0
    go (Some at) None sufficient restricted e l r = is (Some at) (ap (λ (c : Choice). c.front) r) (position-Some (λ (c : Candidate). leads order c.columns) cs at no_candidate e).0
    go None (Some n) sufficient restricted e l r = is None (ap (λ (c : Choice). c.front) r) tt
    go None None (Some at) restricted e l r = is (Some at) (ap (λ (c : Choice). c.front) r) l.below
    go None None None restricted e l r = last goal restricted r
