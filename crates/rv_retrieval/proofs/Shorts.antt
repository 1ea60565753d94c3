-- A short index that is scanned at opening leaves few records to be fetched.
use Rattle.std.proofs.Common.{◌≡◌, ◌⊎◌, IsSome, ℕ, zero, suc, ◌<◌, ◌≤◌, List, [], ◌∷◌, ◌++◌, length, filter, map, Bool, true, false, cond, not, ◌&&◌, ◌||◌, refl, ap, sym, ◌∙◌, arith, subst, inl, inr, Option, Some, None, is_some, IsPermutation, nat_eq, nat_le, nat_lt}
use Rattle.std.specs.Prelude.{if◌then◌else◌}
use Rattle.std.specs.List.{AllByRecursion, IsDistinct, list_any, slice_index_or, sum_by}
use Rattle.std.proofs.lemmas.Bool.{cases_Bool, eqb-true, or_from, or_right}
use Rattle.std.proofs.lemmas.Bool.Decides.{nat_tests}
use Rattle.std.proofs.lemmas.List.{length-append, length-map}
use Rattle.std.proofs.lemmas.List.Sums.{sum_by-cons}
use Rattle.std.proofs.lemmas.Map.Keys.{IsDistinct-head, IsDistinct-tail}
use Rattle.std.proofs.lemmas.List.Sorted.{length_permutation, sum_by-IsPermutation}
use Rattle.std.proofs.lemmas.List.Elements.{filter_agree}
use Rattle.std.specs.Cmp.{first_so, second_so}
use Rattle.rv_value.proofs.Lists.{all_at, either_few, filter_false}
use Rattle.rv_value.proofs.Tests.{no_way, left_false, right_false, same_number}
use Rattle.rv_value.specs.declared.record.IndexEntry.{IndexEntry}
use Rattle.rv_judge.specs.declared.events.Strategy.{Strategy}
use Rattle.rv_judge.specs.declared.events.Strategy.TheVariants.{Table, BackgroundOnly, FastFirst, Sorted, IndexOnly, Union}
use Rattle.rv_judge.specs.declared.events.Control.{Control}
use Rattle.rv_judge.specs.declared.events.Control.TheVariants.{Building, ForegroundAlone, BackgroundAlone, FinalList, FinalTable, Done}
use Rattle.rv_judge.specs.declared.events.Happening.TheVariants.{ScanEnded}
use Rattle.rv_judge.specs.Course.{next_control}
use Rattle.rv_keylist.specs.Keys.{has_key}
use Rattle.rv_keylist.specs.Marks.{may_key}
use Rattle.rv_reader.specs.Leaves.{run_after, run_from}
use Rattle.rv_reader.specs.Shown.{Shown}
use Rattle.rv_scan.specs.Alongs.{Along, left}
use Rattle.rv_jscan.specs.declared.jscan.Given.{Given}
use Rattle.rv_jscan.specs.declared.jscan.Given.TheVariants.{Accepted, Stale}
use Rattle.rv_jscan.specs.declared.jscan.ScanPlan.{ScanPlan}
use Rattle.rv_jscan.specs.Entries.{Apart, has_entry}
use Rattle.rv_jscan.specs.Joint.{Joint, JointFits, is_empty_list, present, to_sieve, under_way}
use Rattle.rv_jscan.specs.Pieces.{Pieced, may}
use Rattle.rv_jscan.specs.Steps.{Accepts, Awaits, Gives, TakeLeaves, completed, going, held_next, kept_of}
use Rattle.rv_jscan.proofs.Fits.{by_held, way_within}
use Rattle.rv_choice.specs.declared.query.Query.{Query}
use Rattle.rv_choice.specs.declared.choosing.Background.{Background}
use Rattle.rv_choice.specs.declared.query.Goal2.{Goal2}
use Rattle.rv_choice.specs.declared.query.Goal2.TheVariants.{FastFirst as Soon, TotalTime}
use Rattle.rv_choice.specs.declared.choosing.Background.TheVariants.{Nothing, One, EachBut}
use Rattle.rv_choice.specs.declared.choosing.Candidate.{Candidate}
use Rattle.rv_choice.specs.declared.choosing.Choice.{Choice}
use Rattle.rv_choice.specs.declared.choosing.Role.TheVariants.{Short}
use Rattle.rv_choice.specs.Asked.{CanAsk}
use Rattle.rv_choice.specs.Choice.{AreScans, IsChosen, IsLeastOf, IsRight, candidate_at, candidate_of, candidates_of, choice_of, is_scanned, no_candidate, order_index, plan_of, plays}
use Rattle.rv_retrieval.specs.Effort.{Awaiting, entries_planned, keys_work}
use Rattle.rv_scan.specs.Fronts.{Front, walk_of}
use Rattle.rv_jscan.proofs.Apart.{entries_apart}
use Rattle.rv_retrieval.specs.Opened.{Begun, OnlyLists, SameScans, is_one}
use Rattle.rv_retrieval.specs.Rulings.{going_on, gone, listed, scan_over}
use Rattle.rv_retrieval.specs.Shape.{RetrievalFits, Shape, front_entries, is_background, is_sorted}
use Rattle.rv_retrieval.specs.Short.{Settled, fetches_by, fetches_left, has_short, is_settled, keys_most, scan_fetches}
use Rattle.rv_retrieval.specs.Telling.{list_len}
use Rattle.rv_retrieval.proofs.BackWork.{entries_split, kept_few, entries_first}
use Rattle.rv_retrieval.proofs.Controls.{sorted_is_led}
use Rattle.rv_retrieval.proofs.Courses.{HasFront, keys_few}
use Rattle.rv_retrieval.proofs.Entered.{left_apart}

-- The keys that a list can come to have.

going_keys : (j : Joint) (shown : Shown) (entries : List IndexEntry) (cut : IndexEntry) → under_way j ≡ true → to_sieve j shown ≡ entries ++ run_from (shown.entries (present j).index j.snap) (present j).range (Some cut) → keys_most (going j entries cut) shown ≤ keys_most j shown
going_keys j shown entries cut way parts =
    let old = entries_split j shown (way_within j way) in
    let new = entries_split (going j entries cut) shown (way_within j way) in
    let long = ap length parts ∙ length-append entries (run_from (shown.entries (present j).index j.snap) (present j).range (Some cut)) in
    let built = length-append j.building (kept_of j entries) in
    let few = kept_few j entries in
    omega arith

completed_keys : (j : Joint) (shown : Shown) (entries : List IndexEntry) (keys : List ℕ) → under_way j ≡ true → to_sieve j shown ≡ entries ++ [] → IsPermutation (j.building ++ kept_of j entries) keys → keys_most (completed j entries keys) shown ≤ keys_most j shown
completed_keys j shown entries keys way parts perm =
    let old = entries_split j shown (way_within j way) in
    let long = ap length parts ∙ length-append entries [] in
    let built = length-append j.building (kept_of j entries) in
    let same = length_permutation (j.building ++ kept_of j entries) keys perm in
    let few = kept_few j entries in
    omega arith

accepted_keys : (old new : Joint) (piece : Pieced) (shown : Shown) → Awaits old piece → Accepts old new piece.entries (held_next old.held) → JointFits old shown → keys_most new shown ≤ keys_most old shown
accepted_keys old new piece shown w a f = by (held_next old.held) a (by_held old shown piece.entries old.held w.entries f.drawn)
  where
    by : (next : Option IndexEntry) → Accepts old new piece.entries next → to_sieve old shown ≡ piece.entries ++ run_after (shown.entries (present old).index old.snap) (present old).range next → keys_most new shown ≤ keys_most old shown
    by (Some cut) a parts = subst (λ (j : Joint). keys_most j shown ≤ keys_most old shown) (sym a) (going_keys old shown piece.entries cut w.way parts)
    by None a parts = subst (λ (j : Joint). keys_most j shown ≤ keys_most old shown) (sym a.3) (completed_keys old shown piece.entries a.0 w.way parts a.1)

pub gives_keys : (old mid new : Joint) (piece : Pieced) (g : Given) (shown : Shown) → TakeLeaves old mid → Gives mid piece g new → JointFits mid shown → keys_most new shown ≤ keys_most old shown
gives_keys old mid new piece Accepted shown t g f =
    let took = ap (λ (j : Joint). keys_most j shown) t.same in
    let gave = accepted_keys mid new piece shown g.0 g.1 f in
    omega arith
gives_keys old mid new piece (Stale asked now) shown t g f =
    let took = ap (λ (j : Joint). keys_most j shown) t.same in
    let same = ap (λ (j : Joint). keys_most j shown) g.3 in
    omega arith

-- The end of the scan.

settled_next : (s : Strategy) (c : Control) → HasFront s c → is_background c ≡ true → (is_settled (next_control s c (ScanEnded false true)) ≡ true) × (next_control s c (ScanEnded false true) ≡ ForegroundAlone → is_sorted s ≡ true)
settled_next Table Building f b = no_way (sym (f refl))
settled_next BackgroundOnly Building f b = no_way (sym (f refl))
settled_next Union Building f b = no_way (sym (f refl))
settled_next FastFirst Building f b = (refl, λ e. absurd (cc))
settled_next Sorted Building f b = (refl, λ e. refl)
settled_next IndexOnly Building f b = (refl, λ e. absurd (cc))
settled_next s BackgroundAlone f b = (refl, λ e. absurd (cc))
settled_next s ForegroundAlone f b = no_way (sym b)
settled_next s FinalList f b = no_way (sym b)
settled_next s FinalTable f b = no_way (sym b)
settled_next s Done f b = no_way (sym b)

-- where the scan is over a list is complete
list_there : (old new : Joint) → under_way old ≡ true → old.list ≡ None → new.plans ≡ old.plans → OnlyLists old new → under_way new ≡ false → is_some new.list ≡ true
list_there old new way none plans lists over = by lists.either
  where
    there : (o : Option (List ℕ)) → IsSome o → is_some o ≡ true
    there None h = cc
    there (Some keys) h = refl

    by : ((new.ended ≡ old.ended) × (new.list ≡ old.list)) ⊎ ((old.ended < new.ended) × IsSome new.list) → is_some new.list ≡ true
    by (inr s) = there new.list s.1
    by (inl same) =
        let still : under_way new ≡ under_way old = ap (λ (n : ℕ). nat_lt n (length new.plans) && not (is_empty_list new.list)) same.0 ∙ ap (λ (ps : List ScanPlan). nat_lt old.ended (length ps) && not (is_empty_list new.list)) plans ∙ ap (λ (l : Option (List ℕ)). nat_lt old.ended (length old.plans) && not (is_empty_list l)) same.1 in
        no_way (sym way ∙ sym still ∙ over)

pub over_settled : (v mid new : Shape) → is_background v.control ≡ true → Awaiting v → v.joint.list ≡ None → mid ≡ record v { joint = mid.joint } → SameScans v.joint mid.joint → OnlyLists v.joint mid.joint → under_way mid.joint ≡ false → new ≡ scan_over 0 mid → Settled new
over_settled v mid new back a none e same lists over is =
    let front : HasFront mid.strategy mid.control = subst (λ (x : Shape). HasFront x.strategy x.control) (sym e) a.both in
    let backs : is_background mid.control ≡ true = ap (λ (x : Shape). is_background x.control) e ∙ back in
    let complete = list_there v.joint mid.joint (a.way back) none same.plans lists over in
    let next = settled_next mid.strategy mid.control front backs in
    let control : new.control ≡ next_control mid.strategy mid.control (ScanEnded false true) = ap (λ (x : Shape). x.control) is ∙ goes (under_way mid.joint) (is_some mid.joint.list) over complete in
    let strategy : new.strategy ≡ mid.strategy = ap (λ (x : Shape). x.strategy) is ∙ keeps (under_way mid.joint) (is_some mid.joint.list) in
    record {
      over = ap is_settled control ∙ next.0;
      sorted = λ f. ap is_sorted strategy ∙ next.1 (sym control ∙ f);
    }
  where
    goes : (w l : Bool) → w ≡ false → l ≡ true → (if w then going_on (listed 0 mid) else gone (ScanEnded w l) (listed 0 mid)).control ≡ next_control mid.strategy mid.control (ScanEnded false true)
    goes true l w s = no_way w
    goes false true w s = refl
    goes false false w s = no_way (sym s)

    keeps : (w l : Bool) → (if w then going_on (listed 0 mid) else gone (ScanEnded w l) (listed 0 mid)).strategy ≡ mid.strategy
    keeps true l = refl
    keeps false l = refl

-- Entries whose rows a list has are at most as many as its keys.

none_of : (k : ℕ) (xs : List IndexEntry) → has_entry k xs ≡ false → length (filter (λ (e : IndexEntry). nat_eq e.row.0 k) xs) ≡ 0
none_of k [] h = refl
none_of k (x ∷ xs) h =
    let here : nat_eq x.row.0 k ≡ false = turned k x.row.0 (left_false _ _ h) in
    let more = none_of k xs (right_false _ _ h) in
    subst (λ (b : Bool). length (cond b (x ∷ filter (λ (e : IndexEntry). nat_eq e.row.0 k) xs) (filter (λ (e : IndexEntry). nat_eq e.row.0 k) xs)) ≡ 0) (sym here) more
  where
    turned : (a b : ℕ) → nat_eq a b ≡ false → nat_eq b a ≡ false
    turned a b h = grind (arith, nat_tests)

one_of : (k : ℕ) (xs : List IndexEntry) → Apart xs → length (filter (λ (e : IndexEntry). nat_eq e.row.0 k) xs) ≤ 1
one_of k [] a = omega arith
one_of k (x ∷ xs) a = elim (cases_Bool (nat_eq x.row.0 k)) [
  | inl here ↦
      let same : x.row.0 ≡ k = eqb-true x.row.0 k here in
      let none = none_of k xs (ap (λ (n : ℕ). has_entry n xs) (sym same) ∙ a.0) in
      subst (λ (b : Bool). length (cond b (x ∷ filter (λ (e : IndexEntry). nat_eq e.row.0 k) xs) (filter (λ (e : IndexEntry). nat_eq e.row.0 k) xs)) ≤ 1) (sym here) (omega arith)
  | inr other ↦ subst (λ (b : Bool). length (cond b (x ∷ filter (λ (e : IndexEntry). nat_eq e.row.0 k) xs) (filter (λ (e : IndexEntry). nat_eq e.row.0 k) xs)) ≤ 1) (sym other) (one_of k xs a.1)
]

listed_few : (keys : List ℕ) (xs : List IndexEntry) → Apart xs → length (filter (λ (e : IndexEntry). has_key e.row.0 keys) xs) ≤ length keys
listed_few [] xs a = let none = filter_false xs in omega arith
listed_few (k ∷ keys) xs a =
    let more = listed_few keys xs a in
    let one = one_of k xs a in
    let either = either_few (λ (e : IndexEntry). nat_eq e.row.0 k) (λ (e : IndexEntry). has_key e.row.0 keys) xs in
    omega arith

may_few : (list : Option (List ℕ)) (xs : List IndexEntry) → is_some list ≡ true → list_len list ≤ 1024 → Apart xs → length (filter (λ (e : IndexEntry). may list e.row.0) xs) ≤ list_len list
may_few None xs s l a = no_way (sym s)
may_few (Some keys) xs s l a =
    let exact : nat_le (length keys) 1024 ≡ true = test (length keys) l in
    let alike = filter_agree (λ (e : IndexEntry). may_key e.row.0 keys) (λ (e : IndexEntry). has_key e.row.0 keys) (λ e. chosen (nat_le (length keys) 1024) _ _ exact) xs in
    let same = ap (λ (es : List IndexEntry). length es) alike in
    let few = listed_few keys xs a in
    omega arith
  where
    chosen : (b x y : Bool) → b ≡ true → (if b then x else y) ≡ x
    chosen true x y h = refl
    chosen false x y h = no_way (sym h)

    test : (n : ℕ) → n ≤ 1024 → nat_le n 1024 ≡ true
    test n l = grind (arith, nat_tests)

-- what is left to fetch where the background is over and the list is short
few_left : (v : Shape) (shown : Shown) → Settled v → RetrievalFits v shown → is_some v.joint.list ≡ true → list_len v.joint.list ≤ 20 → fetches_left v shown ≤ 20
few_left v shown s f some few = by v.control refl
  where
    by_scan : is_sorted v.strategy ≡ true → (b : Bool) → v.front.alone ≡ b → (if b then 0 else length (filter (λ (e : IndexEntry). may v.joint.list e.row.0) (left v.front.fetching.walk (front_entries v shown)))) ≤ 20
    by_scan sorted true e = omega arith
    by_scan sorted false e =
        let ff = f.front (sorted_is_led v.strategy sorted) in
        let apart : Apart (front_entries v shown) = subst Apart (sym ff.entries) (entries_apart v.front.columns (shown.rows v.query.table v.query.snap) f.ascend) in
        let walk : walk_of v.front ≡ v.front.fetching.walk = ap (λ (b : Bool). if b then v.front.telling else v.front.fetching.walk) e in
        let ahead : Apart (left v.front.fetching.walk (front_entries v shown)) = subst (λ (w : Along). Apart (left w (front_entries v shown))) walk (left_apart (walk_of v.front) (front_entries v shown) ff.follows apart) in
        let most = may_few v.joint.list (left v.front.fetching.walk (front_entries v shown)) some (omega arith) ahead in
        omega arith

    by : (c : Control) → v.control ≡ c → fetches_by c (scan_fetches v shown) (keys_work v) ≤ 20
    by Building e = omega arith
    by ForegroundAlone e = by_scan (s.sorted e) v.front.alone refl
    by BackgroundAlone e = omega arith
    by FinalList e = let keys = keys_few v.joint.list v.at in omega arith
    by FinalTable e = omega arith
    by Done e = omega arith

pub over_few : (v mid new : Shape) (shown : Shown) → is_background v.control ≡ true → Awaiting v → v.joint.list ≡ None → SameScans v.joint mid.joint → OnlyLists v.joint mid.joint → under_way mid.joint ≡ false → new ≡ scan_over 0 mid → Settled new → RetrievalFits new shown → keys_most mid.joint shown ≤ 20 → fetches_left new shown ≤ 20
over_few v mid new shown back a none same lists over is s f few =
    let complete = list_there v.joint mid.joint (a.way back) none same.plans lists over in
    let joint : new.joint ≡ mid.joint = ap (λ (x : Shape). x.joint) is ∙ keeps (under_way mid.joint) (is_some mid.joint.list) in
    few_left new shown s f (ap (λ (j : Joint). is_some j.list) joint ∙ complete) (let same_list = ap (λ (j : Joint). list_len j.list) joint in omega arith)
  where
    keeps : (w l : Bool) → (if w then going_on (listed 0 mid) else gone (ScanEnded w l) (listed 0 mid)).joint ≡ mid.joint
    keeps true l = refl
    keeps false l = refl

-- The choice of a short index.

none_any : (p : Candidate → Bool) (cs : List Candidate) → ((i : ℕ) → i < length cs → p (candidate_at cs i) ≡ false) → list_any p cs ≡ false
none_any p [] none = refl
none_any p (c ∷ cs) none = or_from (p c) (list_any p cs) (none 0 (omega arith)) (none_any p cs (λ i l. none (suc i) (omega arith)))

pub short_background : (query : Query) (cs : List Candidate) (choice : Choice) → IsChosen query.order query.goal cs choice → list_any (plays Short) cs ≡ true → (at : ℕ) × ((at < length cs) × (plays Short (candidate_at cs at) ≡ true) × (choice.background ≡ One (candidate_at cs at).index))
short_background query cs choice chosen some = go (order_index query.order cs) chosen.short chosen.sufficient chosen.restricted chosen.least_short chosen.rules
  where
    go : (found short sufficient restricted : Option ℕ) → IsLeastOf Short cs short → choice ≡ choice_of cs query.goal found short sufficient restricted → (at : ℕ) × ((at < length cs) × (plays Short (candidate_at cs at) ≡ true) × (choice.background ≡ One (candidate_at cs at).index))
    go (Some front) (Some at) sufficient restricted l r = (at, (l.below, l.is, ap (λ (c : Choice). c.background) r))
    go None (Some at) sufficient restricted l r = (at, (l.below, l.is, ap (λ (c : Choice). c.background) r))
    go found None sufficient restricted l r = no_way (sym some ∙ none_any (plays Short) cs l.none)

-- how many entries a planned scan has
abbrev plan_entries : Shown → ℕ → ScanPlan → ℕ
plan_entries shown snap plan = length (run_from (shown.entries plan.index snap) plan.range None)

entries_sum : (plans : List ScanPlan) (shown : Shown) (snap : ℕ) → entries_planned plans shown snap ≡ sum_by (plan_entries shown snap) plans
entries_sum [] shown snap = refl
entries_sum (p ∷ plans) shown snap =
    let more = entries_sum plans shown snap in
    let first = sum_by-cons (plan_entries shown snap) p plans in
    omega arith

none_scanned : (query : Query) (shown : Shown) (index : ℕ) (is : List (ℕ × List ℕ)) → AllByRecursion (λ (y : ℕ). nat_eq index y ≡ false) (map (λ (i : ℕ × List ℕ). i.0) is) → filter (is_scanned (One index)) (map (candidate_of query shown) is) ≡ []
none_scanned query shown index [] all = refl
none_scanned query shown index (i ∷ is) all = subst (λ (b : Bool). cond b (candidate_of query shown i ∷ filter (is_scanned (One index)) (map (candidate_of query shown) is)) (filter (is_scanned (One index)) (map (candidate_of query shown) is)) ≡ []) (sym (turned index i.0 all.0)) (none_scanned query shown index is all.1)
  where
    turned : (a b : ℕ) → nat_eq a b ≡ false → nat_eq b a ≡ false
    turned a b h = grind (arith, nat_tests)

index_at : (query : Query) (shown : Shown) (is : List (ℕ × List ℕ)) (at : ℕ) → at < length is → (candidate_at (map (candidate_of query shown) is) at).index ≡ slice_index_or (map (λ (i : ℕ × List ℕ). i.0) is) at 0
index_at query shown [] at l = absurd (omega arith)
index_at query shown (i ∷ is) zero l = refl
index_at query shown (i ∷ is) (suc at) l = index_at query shown is at (omega arith)

one_scanned : (query : Query) (shown : Shown) (is : List (ℕ × List ℕ)) (at : ℕ) → IsDistinct nat_eq (map (λ (i : ℕ × List ℕ). i.0) is) → at < length is → filter (is_scanned (One (candidate_at (map (candidate_of query shown) is) at).index)) (map (candidate_of query shown) is) ≡ candidate_at (map (candidate_of query shown) is) at ∷ []
one_scanned query shown [] at different l = absurd (omega arith)
one_scanned query shown (i ∷ is) zero different l =
    subst (λ (b : Bool). cond b (candidate_of query shown i ∷ filter (is_scanned (One i.0)) (map (candidate_of query shown) is)) (filter (is_scanned (One i.0)) (map (candidate_of query shown) is)) ≡ candidate_of query shown i ∷ []) (sym (same_number i.0)) (ap (λ (cs : List Candidate). candidate_of query shown i ∷ cs) (none_scanned query shown i.0 is (IsDistinct-head nat_eq i.0 (map (λ (i : ℕ × List ℕ). i.0) is) different)))
one_scanned query shown (i ∷ is) (suc at) different l =
    let here = candidate_at (map (candidate_of query shown) is) at in
    let mapped = length-map is (λ (i : ℕ × List ℕ). i.0) in
    let apart : nat_eq i.0 (slice_index_or (map (λ (i : ℕ × List ℕ). i.0) is) at 0) ≡ false = all_at (λ (y : ℕ). nat_eq i.0 y ≡ false) (map (λ (i : ℕ × List ℕ). i.0) is) at 0 (IsDistinct-head nat_eq i.0 (map (λ (i : ℕ × List ℕ). i.0) is) different) (omega arith) in
    let other : nat_eq i.0 here.index ≡ false = ap (nat_eq i.0) (index_at query shown is at (omega arith)) ∙ apart in
    subst (λ (b : Bool). cond b (candidate_of query shown i ∷ filter (is_scanned (One here.index)) (map (candidate_of query shown) is)) (filter (is_scanned (One here.index)) (map (candidate_of query shown) is)) ≡ here ∷ []) (sym other) (one_scanned query shown is at (IsDistinct-tail nat_eq i.0 (map (λ (i : ℕ × List ℕ). i.0) is) different) (omega arith))

right_few : (shown : Shown) (snap : ℕ) (c : Candidate) → IsRight shown snap c → plays Short c ≡ true → length (run_from (shown.entries c.index snap) c.range None) ≤ 20
right_few shown snap c right short =
    let same = right.exact (first_so c.estimate.exact (nat_le c.estimate.value 20) (second_so c.restricted (c.estimate.exact && nat_le c.estimate.value 20) short)) in
    let few = number c.estimate.value (second_so c.estimate.exact (nat_le c.estimate.value 20) (second_so c.restricted (c.estimate.exact && nat_le c.estimate.value 20) short)) in
    omega arith
  where
    number : (n : ℕ) → nat_le n 20 ≡ true → n ≤ 20
    number n h = grind (arith, nat_tests)

short_entries : (query : Query) (shown : Shown) (choice : Choice) (scans : List ScanPlan) → CanAsk query shown → IsChosen query.order query.goal (candidates_of query shown) choice → AreScans query.only (candidates_of query shown) choice.background scans → AllByRecursion (IsRight shown query.snap) (candidates_of query shown) → has_short query shown ≡ true → entries_planned scans shown query.snap ≤ 20
short_entries query shown choice scans can chosen s right some =
    let cs = candidates_of query shown in
    let found = short_background query cs choice chosen some in
    let at = found.0 in
    let below = found.1.0 in
    let mapped = length-map query.indexes (candidate_of query shown) in
    let one = one_scanned query shown query.indexes at can.different (omega arith) in
    let plans : map (plan_of query.only) (filter (is_scanned choice.background) cs) ≡ plan_of query.only (candidate_at cs at) ∷ [] = ap (λ (b : Background). map (plan_of query.only) (filter (is_scanned b) cs)) found.1.2 ∙ ap (map (plan_of query.only)) one in
    let same = sum_by-IsPermutation (plan_entries shown query.snap) (map (plan_of query.only) (filter (is_scanned choice.background) cs)) scans s.these in
    let sum = entries_sum scans shown query.snap in
    let single = ap (sum_by (plan_entries shown query.snap)) plans in
    let first = sum_by-cons (plan_entries shown query.snap) (plan_of query.only (candidate_at cs at)) [] in
    let few = right_few shown query.snap (candidate_at cs at) (all_at (IsRight shown query.snap) cs at no_candidate right below) found.1.1 in
    omega arith

pub short_keys : (query : Query) (shown : Shown) (choice : Choice) (scans : List ScanPlan) (front : Front) (guaranteed cursor opening : ℕ) (v : Shape) → CanAsk query shown → IsChosen query.order query.goal (candidates_of query shown) choice → AreScans query.only (candidates_of query shown) choice.background scans → AllByRecursion (IsRight shown query.snap) (candidates_of query shown) → Begun query choice.strategy scans front guaranteed cursor opening v → has_short query shown ≡ true → keys_most v.joint shown ≤ 20
short_keys query shown choice scans front guaranteed cursor opening v can chosen s right b some =
    let few = short_entries query shown choice scans can chosen s right some in
    let first = entries_first scans shown query.snap in
    let is = ap (λ (j : Joint). keys_most j shown) b.joint in
    omega arith

pub short_one : (query : Query) (shown : Shown) (choice : Choice) (order : List ℕ) (cs : List Candidate) → order ≡ query.order → cs ≡ candidates_of query shown → IsChosen order query.goal cs choice → has_short query shown ≡ true → is_one choice.background ≡ true
short_one query shown choice order cs o e chosen some = ap is_one (short_background query cs choice (subst (λ (xs : List ℕ). IsChosen xs query.goal cs choice) o chosen) (ap (list_any (plays Short)) e ∙ some)).1.2

-- Where no index is short, none is scanned at opening.

any_at : {X : Type 0} (p : X → Bool) (xs : List X) (i : ℕ) (d : X) → i < length xs → p (slice_index_or xs i d) ≡ true → list_any p xs ≡ true
any_at p [] i d l h = absurd (omega arith)
any_at p (x ∷ xs) zero d l h = ap (λ (b : Bool). b || list_any p xs) h
any_at p (x ∷ xs) (suc i) d l h = or_right (p x) (list_any p xs) (any_at p xs i d (omega arith) h)

not_one : (cs : List Candidate) (goal : Goal2) (lead sufficient restricted : Option ℕ) → is_one (choice_of cs goal lead None sufficient restricted).background ≡ false
not_one cs goal (Some front) sufficient restricted = elim (candidate_at cs front).sufficient as (λ b. is_one (cond b Nothing (EachBut (candidate_at cs front).index)) ≡ false) [ true ↦ refl | false ↦ refl ]
not_one cs goal None (Some front) restricted = refl
not_one cs Soon None None (Some at) = refl
not_one cs TotalTime None None (Some at) = refl
not_one cs Soon None None None = refl
not_one cs TotalTime None None None = refl

pub none_short : (query : Query) (shown : Shown) (choice : Choice) (order : List ℕ) (cs : List Candidate) → cs ≡ candidates_of query shown → IsChosen order query.goal cs choice → has_short query shown ≡ false → is_one choice.background ≡ false
none_short query shown choice order cs e chosen none = by chosen.short chosen.least_short chosen.rules
  where
    by : (short : Option ℕ) → IsLeastOf Short cs short → choice ≡ choice_of cs query.goal (order_index order cs) short chosen.sufficient chosen.restricted → is_one choice.background ≡ false
    by (Some at) l rules = absurd (let some : list_any (plays Short) cs ≡ true = any_at (plays Short) cs at no_candidate l.below l.is in let bad : true ≡ false = sym some ∙ ap (list_any (plays Short)) e ∙ none in cc)
    by None l rules = ap (λ (c : Choice). is_one c.background) rules ∙ not_one cs query.goal (order_index order cs) chosen.sufficient chosen.restricted

pub most_keys : (a b : ℕ) → a ≤ b → b ≤ 20 → a ≤ 20
most_keys a b l h = omega arith
