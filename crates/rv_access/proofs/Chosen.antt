-- What was chosen can race, and what a race and a retrieval are where they begin.
use Rattle.std.proofs.Common.{◌∷◌, cond, suc, ◌≡◌, ℕ, ◌+◌, ◌*◌, ◌-◌, ◌<◌, ◌≤◌, List, [], length, filter, map, Bool, true, false, ◌&&◌, nat_le, Option, Some, None, is_some, refl, ap, sym, ◌∙◌, arith, subst, Box, Result, Ok, Err, IfOk}
use Rattle.std.specs.declared.alloc.Global.{Global}
use Rattle.std.specs.List.{list_all}
use Rattle.std.specs.Prelude.{◌||◌, if◌then◌else◌}
use Rattle.std.proofs.lemmas.Bool.Decides.{nat_tests}
use Rattle.std.proofs.lemmas.List.{length-map}
use Rattle.std.proofs.lemmas.List.Sorted.{length_permutation}
use Rattle.std.specs.Cmp.{first_so, second_so}
use Rattle.std.proofs.lemmas.Bool.{and_from, and_left, and_right}
use Rattle.rv_value.proofs.Tests.{no_way}
use Rattle.rv_judge.specs.declared.counting.Counts.{Counts}
use Rattle.rv_judge.specs.declared.events.Strategy.{Strategy}
use Rattle.rv_judge.specs.declared.events.Strategy.TheVariants.{Table, BackgroundOnly, FastFirst, Sorted, IndexOnly, Union}
use Rattle.rv_judge.specs.Counting.{raised, reads}
use Rattle.rv_judge.specs.Runs.{has_index}
use Rattle.rv_judge.specs.Tracing.{CountsAll}
use Rattle.rv_restrict.specs.declared.atom.Atom.{Atom}
use Rattle.rv_reader.specs.Shown.{Shown}
use Rattle.rv_jscan.specs.declared.jscan.ScanPlan.{ScanPlan}
use Rattle.rv_choice.specs.declared.query.Query.{Query}
use Rattle.rv_choice.specs.declared.choosing.Background.{Background}
use Rattle.rv_choice.specs.declared.choosing.Background.TheVariants.{Nothing, One, Each, EachBut}
use Rattle.rv_choice.specs.declared.choosing.Candidate.{Candidate}
use Rattle.rv_choice.specs.declared.choosing.Choice.{Choice}
use Rattle.rv_choice.specs.Asked.{CanAsk}
use Rattle.rv_choice.specs.declared.query.Goal2.{Goal2}
use Rattle.rv_choice.specs.declared.query.Goal2.TheVariants.{FastFirst as Soon, TotalTime}
use Rattle.rv_choice.specs.declared.choosing.Role.{Role}
use Rattle.rv_choice.specs.declared.choosing.Role.TheVariants.{Short, Sufficient, Restricted}
use Rattle.rv_choice.specs.Choice.{AreScans, IsChosen, IsLeastOf, candidates_of, choice_of, is_scanned, order_index, plan_of, restricted_choice}
use Rattle.rv_choice.specs.Members.{AreUnited, some_serves}
use Rattle.rv_choice.proofs.OfMembers.{some_serve}
use Rattle.rv_choice.specs.Leading.{front_begun, front_candidate}
use Rattle.rv_final.specs.Rest.{qualifying}
use Rattle.rv_retrieval.specs.Effort.{life_of as retrieval_life}
use Rattle.rv_retrieval.specs.Opened.{is_one}
use Rattle.rv_retrieval.specs.Runs.{indexes_asked}
use Rattle.rv_retrieval.specs.Shape.{is_sorted}
use Rattle.rv_retrieval.specs.Short.{has_short}
use Rattle.rv_retrieval.proofs.Chosen.{chosen_opens, no_order}
use Rattle.rv_retrieval.proofs.Shorts.{short_one}
use Rattle.rv_retrieval.proofs.Starting.{planned_known, planned_once}
use Rattle.rv_race.specs.Effort.{effort as race_effort, life_of as race_life}
use Rattle.rv_race.specs.Opened.{CanRace, Opened as RaceOpened}
use Rattle.rv_race.specs.Raced.{RaceFits, Raced, rest as race_rest}
use Rattle.rv_jscan.specs.Planned.{indexes_of}
use Rattle.rv_race.specs.Runs.{Tells as RaceTells}
use Rattle.rv_access.specs.declared.access.Access.{Access}
use Rattle.rv_access.specs.declared.racing.RacedQuery.{RacedQuery}
use Rattle.rv_access.specs.Accesses.{RacedFits, RacedTells}
use Rattle.rv_access.specs.Opened.{Begins, BeginsRace, Competes, Opened, OpenedBy, Races, Unites, is_background_only, is_each, is_table, races, restricted, unites}
use Rattle.rv_access.proofs.Boxes.{with_race}
use Rattle.rv_access.proofs.Lives.{raced_life}

-- WHERE INDEXES RACE, only a background is chosen, and it scans each restricted index

alone_chosen : (choice : Choice) (cs : List Candidate) → races choice cs ≡ true → is_background_only choice.strategy ≡ true
alone_chosen choice cs r = first_so _ _ r

each_chosen : (choice : Choice) (cs : List Candidate) → races choice cs ≡ true → is_each choice.background ≡ true
each_chosen choice cs r = first_so _ _ (second_so (is_background_only choice.strategy) _ r)

two_chosen : (choice : Choice) (cs : List Candidate) → races choice cs ≡ true → 2 ≤ restricted cs
two_chosen choice cs r = number (restricted cs) (second_so (is_each choice.background) _ (second_so (is_background_only choice.strategy) _ r))
  where
    number : (n : ℕ) → nat_le 2 n ≡ true → 2 ≤ n
    number n h = grind (arith, nat_tests)

is_the_background : (s : Strategy) → is_background_only s ≡ true → BackgroundOnly ≡ s
is_the_background Table h = no_way (sym h)
is_the_background BackgroundOnly h = refl
is_the_background FastFirst h = no_way (sym h)
is_the_background Sorted h = no_way (sym h)
is_the_background IndexOnly h = no_way (sym h)
is_the_background Union h = no_way (sym h)

-- where indexes race the strategy is that of a background alone
pub raced_strategy : (race : Bool) (choice : Choice) (cs : List Candidate) → (race && races choice cs) ≡ true → BackgroundOnly ≡ choice.strategy
raced_strategy race choice cs h = is_the_background choice.strategy (alone_chosen choice cs (second_so race _ h))

unsorted : (s : Strategy) → is_background_only s ≡ true → is_sorted s ≡ false
unsorted Table h = refl
unsorted BackgroundOnly h = refl
unsorted FastFirst h = refl
unsorted Sorted h = no_way (sym h)
unsorted IndexOnly h = refl
unsorted Union h = refl

is_the_each : (b : Background) → is_each b ≡ true → b ≡ Each
is_the_each Nothing h = no_way (sym h)
is_the_each (One index) h = no_way (sym h)
is_the_each Each h = refl
is_the_each (EachBut index) h = no_way (sym h)

not_one : (b : Background) → is_each b ≡ true → is_one b ≡ true → true ≡ false
not_one Nothing e o = sym o
not_one (One index) e o = sym e
not_one Each e o = sym o
not_one (EachBut index) e o = sym o

each_restricted : (cs : List Candidate) → filter (is_scanned Each) cs ≡ filter (λ (c : Candidate). c.restricted) cs
each_restricted [] = refl
each_restricted (c ∷ cs) = elim c.restricted as (λ b. cond b (c ∷ filter (is_scanned Each) cs) (filter (is_scanned Each) cs) ≡ cond b (c ∷ filter (λ (x : Candidate). x.restricted) cs) (filter (λ (x : Candidate). x.restricted) cs)) [
  | true ↦ ap (λ (xs : List Candidate). c ∷ xs) (each_restricted cs)
  | false ↦ each_restricted cs
]

-- one index more, of which it is known whether it is restricted
pub one_more : (c : Candidate) (cs : List Candidate) → nat_le 1 (restricted (c ∷ cs)) ≡ (c.restricted || nat_le 1 (restricted cs))
one_more c cs = elim c.restricted as (λ b. nat_le 1 (length (cond b (c ∷ filter (λ (x : Candidate). x.restricted) cs) (filter (λ (x : Candidate). x.restricted) cs))) ≡ (b || nat_le 1 (restricted cs))) [
  | true ↦ some (restricted cs)
  | false ↦ refl
]
  where
    some : (n : ℕ) → nat_le 1 (suc n) ≡ true
    some n = grind (arith, nat_tests)

pub two_or_more : (c : Candidate) (cs : List Candidate) → nat_le 2 (restricted (c ∷ cs)) ≡ (if c.restricted then nat_le 1 (restricted cs) else nat_le 2 (restricted cs))
two_or_more c cs = elim c.restricted as (λ b. nat_le 2 (length (cond b (c ∷ filter (λ (x : Candidate). x.restricted) cs) (filter (λ (x : Candidate). x.restricted) cs))) ≡ (if b then nat_le 1 (restricted cs) else nat_le 2 (restricted cs))) [
  | true ↦ less (restricted cs)
  | false ↦ refl
]
  where
    less : (n : ℕ) → nat_le 2 (suc n) ≡ nat_le 1 n
    less n = grind (arith, nat_tests)

-- at least two scans are planned
pub two_scans : (choice : Choice) (cs : List Candidate) (only : List (List Atom)) (scans : List ScanPlan) → races choice cs ≡ true → AreScans only cs choice.background scans → 2 ≤ length scans
two_scans choice cs only scans r s =
    let two = two_chosen choice cs r in
    let each = subst (λ (b : Background). AreScans only cs b scans) (is_the_each choice.background (each_chosen choice cs r)) s in
    let same = length_permutation (map (plan_of only) (filter (is_scanned Each) cs)) scans each.these in
    let mapped = length-map (filter (is_scanned Each) cs) (plan_of only) in
    let these = ap (λ (xs : List Candidate). length xs) (each_restricted cs) in
    omega arith

pub unordered : (query : Query) (shown : Shown) (choice : Choice) (cs : List Candidate) → cs ≡ candidates_of query shown → CanAsk query shown → IsChosen query.order query.goal cs choice → races choice cs ≡ true → query.order ≡ []
unordered query shown choice cs e can chosen r = no_order query shown choice can (subst (λ (xs : List Candidate). IsChosen query.order query.goal xs choice) e chosen) (unsorted choice.strategy (alone_chosen choice cs r))

-- the scans can race
pub can_race : (query : Query) (shown : Shown) (choice : Choice) (scans : List ScanPlan) (only : List (List Atom)) (cs : List Candidate) → only ≡ query.only → cs ≡ candidates_of query shown → CanAsk query shown → IsChosen query.order query.goal cs choice → AreScans query.only cs choice.background scans → CanRace query.table query.snap only scans shown
can_race query shown choice scans only cs o e can chosen s =
    let opens = chosen_opens query shown choice scans (front_begun query (front_candidate cs choice.front)) cs e can chosen s refl in
    subst (λ (x : List (List Atom)). CanRace query.table query.snap x scans shown) (sym o) (record {
      ascend = opens.ascend;
      read = opens.read;
      columns = opens.columns;
      plans = record { each = opens.each; apart = opens.apart; entered = opens.planned };
      once = planned_once query shown choice.background cs scans e can s;
    })

-- a race has no short index
pub not_short : (query : Query) (shown : Shown) (choice : Choice) (cs : List Candidate) → cs ≡ candidates_of query shown → IsChosen query.order query.goal cs choice → races choice cs ≡ true → has_short query shown ≡ false
not_short query shown choice cs e chosen r = by (has_short query shown) refl
  where
    by : (b : Bool) → has_short query shown ≡ b → has_short query shown ≡ false
    by false h = h
    by true h = no_way (not_one choice.background (each_chosen choice cs r) (short_one query shown choice query.order cs refl e chosen h))

-- WHAT A RACE IS WHERE IT BEGINS

pub begins_race : (query : Query) (shown : Shown) (choice : Choice) (scans : List ScanPlan) (only : List (List Atom)) (cs : List Candidate) (cursor opening : ℕ) (r : Raced) → only ≡ query.only → cs ≡ candidates_of query shown → CanAsk query shown → IsChosen query.order query.goal cs choice → AreScans query.only cs choice.background scans → races choice cs ≡ true → RaceOpened query.table query.snap only scans cursor opening (shown.pages query.table query.snap) r → RaceFits r shown → race_rest r shown ≡ qualifying only (shown.rows query.table query.snap) → RaceTells r → race_effort r shown < race_life query.table query.snap scans shown → BeginsRace query shown choice cursor opening (record { query = query; race = r })
begins_race query shown choice scans only cs cursor opening r o e can chosen s races_so opened fits owes tells life =
    let over = subst (λ (x : List (List Atom)). RaceOpened query.table query.snap x scans cursor opening (shown.pages query.table query.snap) r) o opened in
    let plans : r.plans ≡ scans = ap (λ (x : Raced). x.plans) over.is in
    let scanned = subst (λ (xs : List Candidate). AreScans query.only xs choice.background scans) e s in
    record {
      raced = record {
        asked = refl;
        scans = subst (AreScans query.only (candidates_of query shown) choice.background) (sym plans) scanned;
        opened = subst (λ (x : List ScanPlan). RaceOpened query.table query.snap query.only x cursor opening (shown.pages query.table query.snap) r) (sym plans) over;
      };
      fits = record {
        over = record {
          table = ap (λ (x : Raced). x.table) over.is;
          snap = ap (λ (x : Raced). x.snap) over.is;
          only = ap (λ (x : Raced). x.only) over.is;
          order = unordered query shown choice cs e can chosen races_so;
        };
        race = fits;
      };
      owes = owes ∙ ap (λ (x : List (List Atom)). qualifying x (shown.rows query.table query.snap)) o;
      tells = record {
        tells = tells;
        known = subst (λ (x : List ScanPlan). list_all (λ i. has_index i (indexes_asked query)) (indexes_of x) ≡ true) (sym plans) (planned_known query shown choice.background cs scans e s);
      };
      life = raced_life query shown choice.background scans (race_effort r shown) scanned life;
    }

-- it has read nothing
pub opened_counts : (table snap : ℕ) (only : List (List Atom)) (scans : List ScanPlan) (cursor opening pages : ℕ) (r : Raced) (c d : Counts) → RaceOpened table snap only scans cursor opening pages r → d ≡ c → CountsAll r.trace c d
opened_counts table snap only scans cursor opening pages r c d opened same = record {
  pages = ap (λ (x : Raced). x.trace.pages) opened.is ∙ none c.pages d.pages (ap (λ (k : Counts). k.pages) same);
  leaves = ap (λ (x : Raced). x.trace.leaves) opened.is ∙ none c.leaves d.leaves (ap (λ (k : Counts). k.leaves) same);
  fetches = ap (λ (x : Raced). x.trace.fetches) opened.is ∙ none c.records d.records (ap (λ (k : Counts). k.records) same);
}
  where
    none : (a b : ℕ) → b ≡ a → 0 ≡ raised 0 (b - a)
    none a b e = omega (arith, e)

pub begun_race : (query : Query) (shown : Shown) (c d : Counts) (b : Box RacedQuery Global) (r : RacedQuery) → r.query ≡ query → RacedFits r shown → race_rest r.race shown ≡ qualifying query.only (shown.rows query.table query.snap) → RacedTells r → race_effort r.race shown < retrieval_life query shown → CountsAll r.race.trace c d → d ≡ c → Begins query shown c d (with_race b r)
begun_race query shown c d b r asked fits owes tells life counts unread =
    record {
      asked = asked;
      fits = fits;
      owes = owes;
      tells = tells;
      awaiting = tt;
      counts = counts;
      life = within (reads c) (reads d) (race_effort r.race shown) (retrieval_life query shown) (ap reads unread) life;
      most = at_most (race_effort r.race shown) (retrieval_life query shown) life;
    }
  where
    within : (n m k l : ℕ) → m ≡ n → k < l → m + k ≤ n + 1 * l
    within n m k l e h = omega (arith, e, h)

    at_most : (k l : ℕ) → k < l → k ≤ 1 * l
    at_most k l h = omega (arith, h)

-- what is chosen of the same candidates has the same strategy, so far as it would read the table

least_alike : (role : Role) (cs : List Candidate) (a b : Option ℕ) → IsLeastOf role cs a → IsLeastOf role cs b → is_some a ≡ is_some b
least_alike role cs None None f g = refl
least_alike role cs (Some at) (Some to) f g = refl
least_alike role cs (Some at) None f g = no_way (sym f.is ∙ g.none at f.below)
least_alike role cs None (Some to) f g = no_way (sym g.is ∙ f.none to g.below)

restricted_alike : (goal : Goal2) (a b : Option ℕ) → is_some a ≡ is_some b → is_table (restricted_choice goal a).strategy ≡ is_table (restricted_choice goal b).strategy
restricted_alike Soon None None e = refl
restricted_alike Soon (Some at) (Some to) e = refl
restricted_alike TotalTime None None e = refl
restricted_alike TotalTime (Some at) (Some to) e = refl
restricted_alike goal (Some at) None e = no_way e
restricted_alike goal None (Some to) e = no_way (sym e)

choices_alike : (cs : List Candidate) (goal : Goal2) (front s t p q a b : Option ℕ) → is_some s ≡ is_some t → is_some p ≡ is_some q → is_some a ≡ is_some b → is_table (choice_of cs goal front s p a).strategy ≡ is_table (choice_of cs goal front t q b).strategy
choices_alike cs goal (Some front) None None p q a b e f g = refl
choices_alike cs goal (Some front) (Some s) (Some t) p q a b e f g = refl
choices_alike cs goal (Some front) (Some s) None p q a b e f g = no_way e
choices_alike cs goal (Some front) None (Some t) p q a b e f g = no_way (sym e)
choices_alike cs goal None (Some s) (Some t) p q a b e f g = refl
choices_alike cs goal None (Some s) None p q a b e f g = no_way e
choices_alike cs goal None None (Some t) p q a b e f g = no_way (sym e)
choices_alike cs goal None None None (Some p) (Some q) a b e f g = refl
choices_alike cs goal None None None (Some p) None a b e f g = no_way f
choices_alike cs goal None None None None (Some q) a b e f g = no_way (sym f)
choices_alike cs goal None None None None None a b e f g = restricted_alike goal a b g

table_alike : (order : List ℕ) (goal : Goal2) (cs : List Candidate) (a b : Choice) → IsChosen order goal cs a → IsChosen order goal cs b → is_table a.strategy ≡ is_table b.strategy
table_alike order goal cs a b c d =
    ap (λ (x : Choice). is_table x.strategy) c.rules
    ∙ choices_alike cs goal (order_index order cs) c.short d.short c.sufficient d.sufficient c.restricted d.restricted (least_alike Short cs c.short d.short c.least_short d.least_short) (least_alike Sufficient cs c.sufficient d.sufficient c.least_sufficient d.least_sufficient) (least_alike Restricted cs c.restricted d.restricted c.least_restricted d.least_restricted)
    ∙ ap (λ (x : Choice). is_table x.strategy) (sym d.rules)

-- where one choice puts no members together another one does not
pub chosen_apart : (query : Query) (shown : Shown) (a b : Choice) → IsChosen query.order query.goal (candidates_of query shown) a → IsChosen query.order query.goal (candidates_of query shown) b → unites query shown a ≡ false → unites query shown b ≡ false
chosen_apart query shown a b c d none = ap (λ (t : Bool). t && some_serves query shown) (table_alike query.order query.goal (candidates_of query shown) b a d c) ∙ none

-- WHERE THE TABLE WOULD BE READ no order is asked, and no index is short

table_unsorted : (s : Strategy) → is_table s ≡ true → is_sorted s ≡ false
table_unsorted Table h = refl
table_unsorted BackgroundOnly h = no_way (sym h)
table_unsorted FastFirst h = no_way (sym h)
table_unsorted Sorted h = no_way (sym h)
table_unsorted IndexOnly h = no_way (sym h)
table_unsorted Union h = no_way (sym h)

pub table_unordered : (query : Query) (shown : Shown) (choice : Choice) (cs : List Candidate) → cs ≡ candidates_of query shown → CanAsk query shown → IsChosen query.order query.goal cs choice → is_table choice.strategy ≡ true → query.order ≡ []
table_unordered query shown choice cs e can chosen t = no_order query shown choice can (subst (λ (xs : List Candidate). IsChosen query.order query.goal xs choice) e chosen) (table_unsorted choice.strategy t)

table_by : (cs : List Candidate) (goal : Goal2) (front short sufficient restricted : Option ℕ) → is_table (choice_of cs goal front short sufficient restricted).strategy ≡ true → is_one (choice_of cs goal front short sufficient restricted).background ≡ true → true ≡ false
table_by cs goal (Some front) (Some short) sufficient restricted t o = sym t
table_by cs goal (Some front) None sufficient restricted t o = sym t
table_by cs goal None (Some short) sufficient restricted t o = sym t
table_by cs goal None None (Some front) restricted t o = sym t
table_by cs Soon None None None (Some at) t o = sym t
table_by cs TotalTime None None None (Some at) t o = sym t
table_by cs Soon None None None None t o = sym o
table_by cs TotalTime None None None None t o = sym o

pub table_not_short : (query : Query) (shown : Shown) (choice : Choice) (cs : List Candidate) → cs ≡ candidates_of query shown → IsChosen query.order query.goal cs choice → is_table choice.strategy ≡ true → has_short query shown ≡ false
table_not_short query shown choice cs e chosen t = by (has_short query shown) refl
  where
    by : (b : Bool) → has_short query shown ≡ b → has_short query shown ≡ false
    by false h = h
    by true h = no_way (table_by cs query.goal (order_index query.order cs) chosen.short chosen.sufficient chosen.restricted (subst (λ (x : Choice). is_table x.strategy ≡ true) chosen.rules t) (subst (λ (x : Choice). is_one x.background ≡ true) chosen.rules (short_one query shown choice query.order cs refl e chosen h)))

-- HOW AN ACCESS WAS OPENED

chosen_of : (query : Query) (shown : Shown) (choice : Choice) (order : List ℕ) (cs : List Candidate) → order ≡ query.order → cs ≡ candidates_of query shown → IsChosen order query.goal cs choice → IsChosen query.order query.goal (candidates_of query shown) choice
chosen_of query shown choice order cs o e chosen = subst (λ (xs : List Candidate). IsChosen query.order query.goal xs choice) e (subst (λ (xs : List ℕ). IsChosen xs query.goal cs choice) o chosen)

-- the same where it is used by a call on what was chosen
pub chosen_for : (query : Query) (choice : Choice) (order : List ℕ) (cs ds : List Candidate) → order ≡ query.order → cs ≡ ds → IsChosen order query.goal cs choice → IsChosen query.order query.goal ds choice
chosen_for query choice order cs ds o e chosen = subst (λ (xs : List Candidate). IsChosen query.order query.goal xs choice) e (subst (λ (xs : List ℕ). IsChosen xs query.goal cs choice) o chosen)

pub can_race_so : (race : Bool) (choice : Choice) (cs ds : List Candidate) → cs ≡ ds → (race && races choice cs) ≡ true → races choice ds ≡ true
can_race_so race choice cs ds e h = subst (λ (xs : List Candidate). races choice xs ≡ true) e (second_so race (races choice cs) h)

-- a race was asked, and runs
pub raced : {E : Type 0} (r : Result Access E) (race : Bool) (query : Query) (shown : Shown) (cursor opening : ℕ) (choice : Choice) (order : List ℕ) (cs ds : List Candidate) → order ≡ query.order → cs ≡ candidates_of query shown → ds ≡ candidates_of query shown → IsChosen order query.goal cs choice → (race && races choice ds) ≡ true → IfOk r (Races query shown cursor opening choice) → IfOk r (Opened race query shown cursor opening)
raced (Ok a) race query shown cursor opening choice order cs ds o e f chosen can is = record {
  choice = choice;
  chosen = chosen_of query shown choice order cs o e chosen;
  opened = subst (λ (b : Bool). OpenedBy b (unites query shown choice) query shown cursor opening choice a) (sym (sym (ap (λ (xs : List Candidate). race && races choice xs) f) ∙ can)) is;
}
raced (Err x) race query shown cursor opening choice order cs ds o e f chosen can is = tt

-- none runs
pub unraced : {E : Type 0} (r : Result Access E) (race : Bool) (query : Query) (shown : Shown) (cursor opening : ℕ) (choice : Choice) (order : List ℕ) (cs ds : List Candidate) → order ≡ query.order → cs ≡ candidates_of query shown → ds ≡ candidates_of query shown → IsChosen order query.goal cs choice → (race && races choice ds) ≡ false → IfOk r (OpenedBy false (unites query shown choice) query shown cursor opening choice) → IfOk r (Opened race query shown cursor opening)
unraced (Ok a) race query shown cursor opening choice order cs ds o e f chosen none is = record {
  choice = choice;
  chosen = chosen_of query shown choice order cs o e chosen;
  opened = subst (λ (b : Bool). OpenedBy b (unites query shown choice) query shown cursor opening choice a) (sym (sym (ap (λ (xs : List Candidate). race && races choice xs) f) ∙ none)) is;
}
unraced (Err x) race query shown cursor opening choice order cs ds o e f chosen none is = tt

-- a union was opened, or none

pub united : {E : Type 0} (r : Result Access E) (query : Query) (shown : Shown) (cursor opening : ℕ) (choice : Choice) (plans : List ScanPlan) → is_table choice.strategy ≡ true → AreUnited query shown plans → IfOk r (Unites query shown cursor opening) → IfOk r (OpenedBy false (unites query shown choice) query shown cursor opening choice)
united (Ok a) query shown cursor opening choice plans t u is = subst (λ (b : Bool). OpenedBy false b query shown cursor opening choice a) (sym (and_from (is_table choice.strategy) (some_serves query shown) t (some_serve query shown plans u))) is
united (Err x) query shown cursor opening choice plans t u is = tt

pub no_union : (query : Query) (shown : Shown) (choice : Choice) → is_table choice.strategy ≡ false → unites query shown choice ≡ false
no_union query shown choice t = and_left (is_table choice.strategy) (some_serves query shown) t

pub none_serve : (query : Query) (shown : Shown) (choice : Choice) → some_serves query shown ≡ false → unites query shown choice ≡ false
none_serve query shown choice s = and_right (is_table choice.strategy) (some_serves query shown) s

pub competed : {E : Type 0} (r : Result Access E) (query : Query) (shown : Shown) (cursor opening : ℕ) (choice : Choice) → unites query shown choice ≡ false → IfOk r (Competes query shown cursor opening) → IfOk r (OpenedBy false (unites query shown choice) query shown cursor opening choice)
competed (Ok a) query shown cursor opening choice none is = subst (λ (b : Bool). OpenedBy false b query shown cursor opening choice a) (sym none) is
competed (Err x) query shown cursor opening choice none is = tt
