-- What is chosen among a query's indexes can be opened.
use Rattle.std.proofs.Common.{◌≡◌, ℕ, zero, suc, ◌<◌, ◌≤◌, ◌⊎◌, List, [], ◌∷◌, length, Bool, true, false, not, ◌&&◌, ◌||◌, refl, ap, sym, ◌∙◌, arith, subst, Some, None, Option, nat_eq, inl, inr, map, filter, cond}
use Rattle.std.proofs.lemmas.Bool.{cases_Bool, lt-ltb}
use Rattle.std.proofs.lemmas.Bool.Decides.{nat_tests}
use Rattle.std.proofs.lemmas.List.Quantifiers.{position-Some}
use Rattle.std.proofs.lemmas.List.{length-map}
use Rattle.std.proofs.lemmas.List.Sorted.{All-permutation, length_permutation}
use Rattle.std.specs.List.{AllByRecursion, list_any, starts_with, position, position_or_len}
use Rattle.rv_value.proofs.Tests.{no_way, same_number}
use Rattle.rv_value.proofs.Lists.{all_at, all_filter, filter_length, from_all, to_all}
use Rattle.rv_value.specs.declared.record.IndexEntry.{IndexEntry}
use Rattle.rv_value.specs.declared.range.Range.{Range}
use Rattle.rv_value.specs.Ranges.{in_side}
use Rattle.rv_judge.specs.declared.events.Strategy.{Strategy}
use Rattle.rv_judge.specs.declared.events.Strategy.TheVariants.{BackgroundOnly, Sorted}
use Rattle.rv_restrict.specs.declared.atom.Atom.{Atom}
use Rattle.rv_restrict.specs.declared.atom.ColRef.{ColRef}
use Rattle.rv_restrict.specs.Bind.{passes_home}
use Rattle.rv_restrict.specs.Parts.{stands_among}
use Rattle.rv_restrict.specs.Ranges.{range_for}
use Rattle.rv_restrict.specs.Truth.{is_home, truth}
use Rattle.rv_restrict.proofs.Covers.{covers}
use Rattle.rv_restrict.proofs.Names.{names_weaker}
use Rattle.rv_reader.specs.Entries.{entries_of, is_in, run}
use Rattle.rv_reader.specs.Shown.{Shown, Suits}
use Rattle.rv_reader.specs.Storing.{AreKeys}
use Rattle.rv_reader.proofs.Sorting.{entries_keys}
use Rattle.rv_scan.specs.Alongs.{Along, Follows, left}
use Rattle.rv_jscan.specs.declared.jscan.ScanPlan.{ScanPlan}
use Rattle.rv_jscan.specs.Entries.{has_entry}
use Rattle.rv_jscan.specs.Joint.{CanMake, no_plan, plan_at}
use Rattle.rv_choice.specs.declared.query.Query.{Query}
use Rattle.rv_choice.specs.declared.query.Goal2.{Goal2}
use Rattle.rv_choice.specs.declared.query.Goal2.TheVariants.{FastFirst as Soon, TotalTime}
use Rattle.rv_choice.specs.declared.choosing.Candidate.{Candidate}
use Rattle.rv_choice.specs.declared.choosing.Choice.{Choice}
use Rattle.rv_choice.specs.declared.choosing.Background.{Background}
use Rattle.rv_choice.specs.declared.choosing.Background.TheVariants.{Nothing, One, Each, EachBut}
use Rattle.rv_choice.specs.declared.choosing.Role.TheVariants.{Short, Sufficient}
use Rattle.rv_choice.specs.Asked.{CanAsk, IsPlanned}
use Rattle.rv_choice.specs.Choice.{AreScans, IsChosen, IsLeastOf, candidate_at, candidate_of, candidates_of, choice_of, is_scanned, leads, no_candidate, order_index, ordered_choice, plan_of, restricted_choice}
use Rattle.rv_retrieval.specs.Fronts.{front_left}
use Rattle.rv_scan.specs.Fronts.{Front, walk_of}
use Rattle.rv_retrieval.specs.Opened.{has_scans, is_one}
use Rattle.rv_choice.specs.Leading.{front_begun, front_candidate, walk_begun}
use Rattle.rv_retrieval.specs.Opens.{Opens, first_of}
use Rattle.rv_final.specs.Rest.{qualifies_at}
use Rattle.rv_retrieval.specs.Shape.{FrontFits, is_background, is_index_only, is_led, is_sorted}
use Rattle.rv_choice.proofs.Suited.{range_suits}
use Rattle.rv_choice.proofs.Choices.{IsCandidate, are_candidates, leads_begins, stand_all}
use Rattle.rv_retrieval.proofs.Entered.{entered}
use Rattle.rv_retrieval.proofs.Planning.{is_true_true, planned_apart, planned_meets}

-- The background's scans.

pub plan_makes : (query : Query) (shown : Shown) (plan : ScanPlan) → IsPlanned query shown plan → CanMake plan shown query.snap
plan_makes query shown plan p = record {
  can = p.index.can;
  suits = range_suits query shown plan.index p.columns plan.range p.index p.range;
  keys = subst (λ (n : ℕ). AreKeys n (shown.entries plan.index query.snap)) (ap length (sym (ap (λ x. x.columns) p.part))) (subst (AreKeys (length p.columns)) (sym p.index.entries) (entries_keys p.columns (shown.rows query.table query.snap)));
}

plans_made : (query : Query) (shown : Shown) (cs : List Candidate) → AllByRecursion (IsCandidate query shown) cs → AllByRecursion (IsPlanned query shown) (map (plan_of query.only) cs)
plans_made query shown [] all = tt
plans_made query shown (c ∷ cs) all = (record { columns = c.columns; index = all.0.index_of; range = all.0.its_range; part = refl }, plans_made query shown cs all.1)

pub are_planned : (query : Query) (shown : Shown) (cs : List Candidate) (choice : Choice) (scans : List ScanPlan) → AllByRecursion (IsCandidate query shown) cs → AreScans query.only cs choice.background scans → AllByRecursion (IsPlanned query shown) scans
are_planned query shown cs choice scans all s = from_all (IsPlanned query shown) scans (All-permutation (IsPlanned query shown) (map (plan_of query.only) (filter (is_scanned choice.background) cs)) scans s.these (to_all (IsPlanned query shown) (map (plan_of query.only) (filter (is_scanned choice.background) cs)) (plans_made query shown (filter (is_scanned choice.background) cs) (all_filter (IsCandidate query shown) (is_scanned choice.background) cs all))))

-- The foreground.

-- where the foreground's scan delivers there is one, and where an order is asked its index begins with the order's columns
pub record ChosenFront (order : List ℕ) (cs : List Candidate) (choice : Choice) : Type 0 where
  pub at : ℕ
  pub is : choice.front ≡ Some at
  pub there : at < length cs
  pub begins : is_sorted choice.strategy ≡ true → leads order (candidate_at cs at).columns ≡ true
  pub suffices : is_index_only choice.strategy ≡ true → (candidate_at cs at).sufficient ≡ true

no_lead : {X : Type 0} (goal : Goal2) (choice : Choice) (restricted : Option ℕ) → choice ≡ restricted_choice goal restricted → is_led choice.strategy ≡ true → X
no_lead Soon choice (Some at) e h = absurd (let bad : true ≡ false = sym h ∙ ap (λ (c : Choice). is_led c.strategy) e in cc)
no_lead TotalTime choice (Some at) e h = absurd (let bad : true ≡ false = sym h ∙ ap (λ (c : Choice). is_led c.strategy) e in cc)
no_lead Soon choice None e h = absurd (let bad : true ≡ false = sym h ∙ ap (λ (c : Choice). is_led c.strategy) e in cc)
no_lead TotalTime choice None e h = absurd (let bad : true ≡ false = sym h ∙ ap (λ (c : Choice). is_led c.strategy) e in cc)

pub chosen_front : (order : List ℕ) (goal : Goal2) (cs : List Candidate) (choice : Choice) → IsChosen order goal cs choice → is_led choice.strategy ≡ true → ChosenFront order cs choice
chosen_front order goal cs choice chosen led = go (order_index order cs) chosen.short chosen.sufficient chosen.restricted refl chosen.least_sufficient chosen.rules
  where
    ordered : (at : ℕ) (short : Option ℕ) → order_index order cs ≡ Some at → choice.strategy ≡ Sorted → choice.front ≡ Some at → ChosenFront order cs choice
    ordered at short e r f =
        let found = position-Some (λ (c : Candidate). leads order c.columns) cs at no_candidate e in
        record { at = at; is = f; there = found.0; begins = λ h. found.1; suffices = λ h. absurd (let bad : true ≡ false = sym h ∙ ap is_index_only r in cc) }

    go : (found short sufficient restricted : Option ℕ) → order_index order cs ≡ found → IsLeastOf Sufficient cs sufficient → choice ≡ choice_of cs goal found short sufficient restricted → ChosenFront order cs choice
    go (Some at) (Some s) sufficient restricted e l r = ordered at (Some s) e (ap (λ (c : Choice). c.strategy) r) (ap (λ (c : Choice). c.front) r)
    go (Some at) None sufficient restricted e l r = ordered at None e (ap (λ (c : Choice). c.strategy) r) (ap (λ (c : Choice). c.front) r)
    go None (Some s) sufficient restricted e l r = absurd (let bad : true ≡ false = sym led ∙ ap (λ (c : Choice). is_led c.strategy) r in cc)
    go None None (Some at) restricted e l r = record {
      at = at;
      is = ap (λ (c : Choice). c.front) r;
      there = l.below;
      begins = λ h. absurd (let bad : true ≡ false = sym h ∙ ap (λ (c : Choice). is_sorted c.strategy) r in cc);
      suffices = λ h. l.is;
    }
    go None None None restricted e l r = no_lead goal choice restricted r led

-- where some index begins with the order's columns there is an order index
leads_found : (query : Query) (shown : Shown) (is : List (ℕ × List ℕ)) → nat_eq (length query.order) 0 ≡ false → list_any (λ (i : ℕ × List ℕ). starts_with nat_eq i.1 query.order) is ≡ true → list_any (λ (c : Candidate). leads query.order c.columns) (map (candidate_of query shown) is) ≡ true
leads_found query shown [] n h = h
leads_found query shown (i ∷ is) n h = either (nat_eq (length query.order) 0) (starts_with nat_eq i.1 query.order) (list_any (λ (i : ℕ × List ℕ). starts_with nat_eq i.1 query.order) is) (list_any (λ (c : Candidate). leads query.order c.columns) (map (candidate_of query shown) is)) n h (λ m. leads_found query shown is n m)
  where
    either : (n a b d : Bool) → n ≡ false → (a || b) ≡ true → (b ≡ true → d ≡ true) → ((not n && a) || d) ≡ true
    either n true b d e h f = ap (λ (m : Bool). (not m && true) || d) e
    either n false b d e h f = ap (λ (m : Bool). (not m && false) || d) e ∙ f h

found_within : {X : Type 0} (p : X → Bool) (xs : List X) → list_any p xs ≡ true → position_or_len p xs < length xs
found_within p [] h = absurd (cc)
found_within p (x ∷ xs) h = by (p x) refl (λ m. found_within p xs m)
  where
    by : (b : Bool) → p x ≡ b → (list_any p xs ≡ true → position_or_len p xs < length xs) → position_or_len p (x ∷ xs) < length (x ∷ xs)
    by true e f = rw e (omega arith)
    by false e f = let more : list_any p xs ≡ true = ap (λ (b : Bool). b || list_any p xs) (sym e) ∙ h in let l = f more in rw e (omega arith)

found_some : {X : Type 0} (p : X → Bool) (xs : List X) → list_any p xs ≡ true → position p xs ≡ Some (position_or_len p xs)
found_some p xs h = ap (λ (b : Bool). cond b (Some (position_or_len p xs)) None) (lt-ltb (position_or_len p xs) (length xs) (found_within p xs h))

no_columns : (xs : List ℕ) → nat_eq (length xs) 0 ≡ true → xs ≡ []
no_columns [] e = refl
no_columns (x ∷ xs) e = absurd (let none = number (length (x ∷ xs)) e in omega arith)
  where
    number : (n : ℕ) → nat_eq n 0 ≡ true → n ≡ 0
    number n h = grind (arith, nat_tests)

-- an order is kept by the sorted strategy alone
pub no_order : (query : Query) (shown : Shown) (choice : Choice) → CanAsk query shown → IsChosen query.order query.goal (candidates_of query shown) choice → is_sorted choice.strategy ≡ false → query.order ≡ []
no_order query shown choice can chosen other = by can.ordered
  where
    sorted : (at : ℕ) (short : Option ℕ) → choice ≡ ordered_choice (candidates_of query shown) at short → is_sorted choice.strategy ≡ true
    sorted at (Some s) r = ap (λ (c : Choice). is_sorted c.strategy) r
    sorted at None r = ap (λ (c : Choice). is_sorted c.strategy) r

    chosen_at : (found : Option ℕ) (at : ℕ) → order_index query.order (candidates_of query shown) ≡ Some at → choice ≡ ordered_choice (candidates_of query shown) at chosen.short
    chosen_at found at e = chosen.rules ∙ ap (λ (o : Option ℕ). choice_of (candidates_of query shown) query.goal o chosen.short chosen.sufficient chosen.restricted) e

    by : ((query.order ≡ []) ⊎ (list_any (λ (i : ℕ × List ℕ). starts_with nat_eq i.1 query.order) query.indexes ≡ true)) → query.order ≡ []
    by (inl e) = e
    by (inr h) = elim (cases_Bool (nat_eq (length query.order) 0)) [
      | inl e ↦ no_columns query.order e
      | inr n ↦
          let at = position_or_len (λ (c : Candidate). leads query.order c.columns) (candidates_of query shown) in
          let found = found_some (λ (c : Candidate). leads query.order c.columns) (candidates_of query shown) (leads_found query shown query.indexes n h) in
          no_way (sym (sorted at chosen.short (chosen_at None at found)) ∙ other)
    ]

pub walk_same : (query : Query) (c : Candidate) → walk_of (front_begun query c) ≡ walk_begun query c
walk_same query c = elim c.sufficient as (λ b. cond b (walk_begun query c) (walk_begun query c) ≡ walk_begun query c) [ true ↦ refl | false ↦ refl ]

begun_fits : (query : Query) (shown : Shown) (c : Candidate) (strategy : Strategy) → CanAsk query shown → IsCandidate query shown c → (is_sorted strategy ≡ true → leads query.order c.columns ≡ true) → (is_index_only strategy ≡ true → c.sufficient ≡ true) → FrontFits query strategy (front_begun query c) shown
begun_fits query shown c strategy can is begins suffices =
    let same = walk_same query c in
    record {
      can = record {
        of_table = refl;
        at_snap = ap (λ (w : Along). w.snap) same;
        read = can.read;
        scan = subst (λ (w : Along). Rattle.rv_reader.specs.Shown.CanScan shown w.index query.snap) (sym same) is.index_of.can;
        suits = subst (λ (w : Along). Suits shown w.index query.snap w.range) (sym same) (range_suits query shown c.index c.columns c.range is.index_of is.its_range);
        columns = can.columns;
        names = λ alone. names_weaker (passes_home (stands_among query.need)) (passes_home (stands_among c.columns)) (λ x h. weaker x (all alone) h) query.only can.named;
      };
      follows = subst (λ (w : Along). Follows w (shown.entries w.index query.snap)) (sym same) (0, refl);
      entries = subst (λ (w : Along). shown.entries w.index query.snap ≡ entries_of c.columns (shown.rows query.table query.snap)) (sym same) is.index_of.entries;
      alone = suffices;
      covering = λ alone. all alone;
      begins = λ h. leads_begins query.order c.columns (begins h);
      needs = can.needs;
    }
  where
    all : c.sufficient ≡ true → (n : ℕ) → stands_among query.need n ≡ true → stands_among c.columns n ≡ true
    all alone n h = stand_all c.columns query.need n (sym is.its_columns ∙ alone) h

    weaker : (x : ColRef) → ((n : ℕ) → stands_among query.need n ≡ true → stands_among c.columns n ≡ true) → passes_home (stands_among query.need) x ≡ true → passes_home (stands_among c.columns) x ≡ true
    weaker x f h = both (is_home x) (stands_among query.need x.column) (stands_among c.columns x.column) h (f x.column)
      where
        both : (a b d : Bool) → (a && b) ≡ true → (b ≡ true → d ≡ true) → (a && d) ≡ true
        both true b d h f = f h
        both false b d h f = absurd (cc)

front_finds : (query : Query) (shown : Shown) (c : Candidate) (n : ℕ) → IsCandidate query shown c → qualifies_at query.only (shown.rows query.table query.snap) n ≡ true → front_left (front_begun query c) (shown.entries (walk_of (front_begun query c)).index query.snap) n ≡ true
front_finds query shown c n is q =
    subst (λ (w : Along). has_entry n (left w (shown.entries w.index query.snap)) ≡ true) (sym (walk_same query c))
    (ap (λ (es : List IndexEntry). has_entry n (run es c.range)) is.index_of.entries
    ∙ ap (λ (r : Range). has_entry n (run (entries_of c.columns (shown.rows query.table query.snap)) r)) is.its_range
    ∙ entered (is_in (range_for query.only c.columns)) c.columns query.only n (shown.rows query.table query.snap) (λ r h. ap in_side (covers query.only c.columns r.values (is_true_true (truth query.only r.values) h))) q)

pub choice_opens : (query : Query) (shown : Shown) (choice : Choice) (scans : List ScanPlan) → CanAsk query shown → IsChosen query.order query.goal (candidates_of query shown) choice → AreScans query.only (candidates_of query shown) choice.background scans → Opens query choice.strategy scans (front_begun query (front_candidate (candidates_of query shown) choice.front)) shown
choice_opens query shown choice scans can chosen s =
    let cs = candidates_of query shown in
    let candidates : AllByRecursion (IsCandidate query shown) cs = are_candidates query shown query.indexes can.indexes in
    let planned : AllByRecursion (IsPlanned query shown) scans = are_planned query shown cs choice scans candidates s in
    record {
      ascend = can.ascend;
      read = can.read;
      columns = can.columns;
      each = λ i l. plan_makes query shown (plan_at scans i) (all_at (IsPlanned query shown) scans i no_plan planned l);
      apart = λ i l. planned_apart query shown (plan_at scans i) can (all_at (IsPlanned query shown) scans i no_plan planned l);
      planned = λ i l n q. planned_meets query shown (plan_at scans i) n (all_at (IsPlanned query shown) scans i no_plan planned l) q;
      led = λ h. front_ok candidates h;
      all = λ h n q. all_ok candidates h n q;
      ordered = λ h. no_order query shown choice can chosen h;
    }
  where
    front_ok : AllByRecursion (IsCandidate query shown) (candidates_of query shown) → is_led choice.strategy ≡ true → FrontFits query choice.strategy (front_begun query (front_candidate (candidates_of query shown) choice.front)) shown
    front_ok candidates h =
        let f = chosen_front query.order query.goal (candidates_of query shown) choice chosen h in
        subst (λ (at : Option ℕ). FrontFits query choice.strategy (front_begun query (front_candidate (candidates_of query shown) at)) shown) (sym f.is) (begun_fits query shown (candidate_at (candidates_of query shown) f.at) choice.strategy can (all_at (IsCandidate query shown) (candidates_of query shown) f.at no_candidate candidates f.there) f.begins f.suffices)

    all_ok : AllByRecursion (IsCandidate query shown) (candidates_of query shown) → is_led choice.strategy ≡ true → (n : ℕ) → qualifies_at query.only (shown.rows query.table query.snap) n ≡ true → front_left (front_begun query (front_candidate (candidates_of query shown) choice.front)) (shown.entries (walk_of (front_begun query (front_candidate (candidates_of query shown) choice.front))).index query.snap) n ≡ true
    all_ok candidates h n q =
        let f = chosen_front query.order query.goal (candidates_of query shown) choice chosen h in
        subst (λ (at : Option ℕ). front_left (front_begun query (front_candidate (candidates_of query shown) at)) (shown.entries (walk_of (front_begun query (front_candidate (candidates_of query shown) at))).index query.snap) n ≡ true) (sym f.is) (front_finds query shown (candidate_at (candidates_of query shown) f.at) n (all_at (IsCandidate query shown) (candidates_of query shown) f.at no_candidate candidates f.there) q)

pub chosen_opens : (query : Query) (shown : Shown) (choice : Choice) (scans : List ScanPlan) (front : Front) (cs : List Candidate) → cs ≡ candidates_of query shown → CanAsk query shown → IsChosen query.order query.goal cs choice → AreScans query.only cs choice.background scans → front ≡ front_begun query (front_candidate cs choice.front) → Opens query choice.strategy scans front shown
chosen_opens query shown choice scans front cs e can chosen s f =
    subst (λ (x : Front). Opens query choice.strategy scans x shown) (sym f ∙ refl) (opens cs (sym e) can chosen s)
  where
    opens : (cs : List Candidate) → candidates_of query shown ≡ cs → CanAsk query shown → IsChosen query.order query.goal cs choice → AreScans query.only cs choice.background scans → Opens query choice.strategy scans (front_begun query (front_candidate cs choice.front)) shown
    opens cs e can chosen s = subst (λ (xs : List Candidate). Opens query choice.strategy scans (front_begun query (front_candidate xs choice.front)) shown) e (choice_opens query shown choice scans can (subst (λ (xs : List Candidate). IsChosen query.order query.goal xs choice) (sym e) chosen) (subst (λ (xs : List Candidate). AreScans query.only xs choice.background scans) (sym e) s))

-- How many scans there are.

pub few_scans : (query : Query) (shown : Shown) (background : Background) (scans : List ScanPlan) (cs : List Candidate) → cs ≡ candidates_of query shown → CanAsk query shown → AreScans query.only cs background scans → length scans ≤ 8
few_scans query shown background scans cs e can s =
    let same = length_permutation (map (plan_of query.only) (filter (is_scanned background) cs)) scans s.these in
    let mapped = length-map (filter (is_scanned background) cs) (plan_of query.only) in
    let most = filter_length (is_scanned background) cs in
    let all = ap length e in
    let indexes = length-map query.indexes (candidate_of query shown) in
    let few = can.few in
    omega arith

pub filter_some : (p : Candidate → Bool) (cs : List Candidate) (at : ℕ) → at < length cs → p (candidate_at cs at) ≡ true → 0 < length (filter p cs)
filter_some p [] at l h = absurd (omega arith)
filter_some p (c ∷ cs) zero l h = subst (λ (b : Bool). 0 < length (cond b (c ∷ filter p cs) (filter p cs))) (sym h) (omega arith)
filter_some p (c ∷ cs) (suc at) l h =
    let more = filter_some p cs at (omega arith) h in
    elim (p c) as (λ b. 0 < length (cond b (c ∷ filter p cs) (filter p cs))) [ true ↦ omega arith | false ↦ more ]

no_one : {X : Type 0} (i : ℕ) (background : Background) → (background ≡ Nothing) ⊎ ((background ≡ Each) ⊎ ((j : ℕ) × (background ≡ EachBut j))) → background ≡ One i → X
no_one i background (inl e) o = absurd (let bad : Nothing ≡ One i = sym e ∙ o in cc)
no_one i background (inr (inl e)) o = absurd (let bad : Each ≡ One i = sym e ∙ o in cc)
no_one i background (inr (inr e)) o = absurd (let bad : EachBut e.0 ≡ One i = sym e.1 ∙ o in cc)

-- a single index is scanned in the background: there is one, and the first control has a background
pub one_background : (only : List (List Atom)) (order : List ℕ) (goal : Goal2) (cs : List Candidate) (choice : Choice) (scans : List ScanPlan) (i : ℕ) → IsChosen order goal cs choice → AreScans only cs choice.background scans → choice.background ≡ One i → (has_scans scans ≡ true) × (is_background (first_of choice.strategy (has_scans scans)) ≡ true)
one_background only order goal cs choice scans i chosen s one = go (order_index order cs) chosen.short chosen.sufficient chosen.restricted chosen.least_short chosen.rules
  where
    some : (at : ℕ) → at < length cs → choice.background ≡ One (candidate_at cs at).index → has_scans scans ≡ true
    some at l e =
        let same = length_permutation (map (plan_of only) (filter (is_scanned choice.background) cs)) scans s.these in
        let mapped = length-map (filter (is_scanned choice.background) cs) (plan_of only) in
        let found = filter_some (is_scanned choice.background) cs at l (ap (λ (b : Background). is_scanned b (candidate_at cs at)) e ∙ same_number (candidate_at cs at).index) in
        lt-ltb 0 (length scans) (omega arith)

    sorted : (b : Bool) → choice.strategy ≡ Sorted → b ≡ true → is_background (first_of choice.strategy b) ≡ true
    sorted b e h = ap (λ (x : Strategy). is_background (first_of x b)) e ∙ ap (λ (x : Bool). is_background (first_of Sorted x)) h

    alone : (b : Bool) → choice.strategy ≡ BackgroundOnly → is_background (first_of choice.strategy b) ≡ true
    alone b e = ap (λ (x : Strategy). is_background (first_of x b)) e

    but : (b : Bool) (j : ℕ) → choice.background ≡ (cond b Nothing (EachBut j)) → (choice.background ≡ Nothing) ⊎ ((choice.background ≡ Each) ⊎ ((j : ℕ) × (choice.background ≡ EachBut j)))
    but true j e = inl e
    but false j e = inr (inr (j, e))

    restricted_only : (goal : Goal2) (restricted : Option ℕ) → choice ≡ restricted_choice goal restricted → (choice.background ≡ Nothing) ⊎ ((choice.background ≡ Each) ⊎ ((j : ℕ) × (choice.background ≡ EachBut j)))
    restricted_only Soon (Some at) e = inr (inl (ap (λ (c : Choice). c.background) e))
    restricted_only TotalTime (Some at) e = inr (inl (ap (λ (c : Choice). c.background) e))
    restricted_only Soon None e = inl (ap (λ (c : Choice). c.background) e)
    restricted_only TotalTime None e = inl (ap (λ (c : Choice). c.background) e)

    go : (found short sufficient restricted : Option ℕ) → IsLeastOf Short cs short → choice ≡ choice_of cs goal found short sufficient restricted → (has_scans scans ≡ true) × (is_background (first_of choice.strategy (has_scans scans)) ≡ true)
    go (Some at) (Some n) sufficient restricted l r =
        let planned = some n l.below (ap (λ (c : Choice). c.background) r) in
        (planned, sorted (has_scans scans) (ap (λ (c : Choice). c.strategy) r) planned)
    go (Some at) None sufficient restricted l r = no_one i choice.background (but (candidate_at cs at).sufficient (candidate_at cs at).index (ap (λ (c : Choice). c.background) r)) one
    go None (Some n) sufficient restricted l r = (some n l.below (ap (λ (c : Choice). c.background) r), alone (has_scans scans) (ap (λ (c : Choice). c.strategy) r))
    go None None (Some at) restricted l r = no_one i choice.background (inr (inr ((candidate_at cs at).index, ap (λ (c : Choice). c.background) r))) one
    go None None None restricted l r = no_one i choice.background (restricted_only goal restricted r) one

pub one_found : (background : Background) → is_one background ≡ true → (i : ℕ) × (background ≡ One i)
one_found Nothing h = absurd (cc)
one_found (One i) h = (i, refl)
one_found Each h = absurd (cc)
one_found (EachBut i) h = absurd (cc)
