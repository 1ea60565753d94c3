-- The members that were chosen can be put together: each row that qualifies meets one of them.
use Rattle.std.proofs.Common.{◌≡◌, ℕ, zero, suc, ◌+◌, ◌*◌, ◌-◌, ◌<◌, ◌≤◌, List, [], ◌∷◌, length, map, Bool, true, false, ◌&&◌, ◌||◌, nat_eq, nat_le, refl, ap, sym, ◌∙◌, arith, subst, Box, inl, inr}
use Rattle.std.specs.declared.alloc.Global.{Global}
use Rattle.std.specs.List.{AllByRecursion, list_all, list_any}
use Rattle.std.proofs.lemmas.Bool.{cases_Bool, and_from, or_left, or_right}
use Rattle.std.proofs.lemmas.Bool.Decides.{nat_tests}
use Rattle.std.proofs.lemmas.List.{length-map}
use Rattle.std.specs.Cmp.{first_so, second_so}
use Rattle.rv_value.proofs.Tests.{same_number}
use Rattle.rv_value.proofs.Lists.{all_at}
use Rattle.rv_value.specs.declared.value.Value.{Value}
use Rattle.rv_value.specs.declared.record.Record.{Record}
use Rattle.rv_judge.specs.declared.counting.Counts.{Counts}
use Rattle.rv_judge.specs.Counting.{raised, reads}
use Rattle.rv_judge.specs.Runs.{has_index}
use Rattle.rv_judge.specs.Tracing.{CountsAll}
use Rattle.rv_restrict.specs.declared.atom.Atom.{Atom}
use Rattle.rv_restrict.specs.declared.atom.ColRef.{ColRef}
use Rattle.rv_restrict.specs.declared.atom.Tri.{Tri}
use Rattle.rv_restrict.specs.declared.atom.Tri.TheVariants.{True, False, Unknown}
use Rattle.rv_restrict.specs.Branches.{branches_of, group_at, group_width, widths}
use Rattle.rv_restrict.specs.Truth.{group_truth, is_true, lesser, qualifies, row_reads, truth_by}
use Rattle.rv_restrict.proofs.Branches.{some_branch}
use Rattle.rv_restrict.proofs.Widths.{branches_few, group_within}
use Rattle.rv_reader.specs.Shown.{Shown}
use Rattle.rv_jscan.specs.declared.jscan.ScanPlan.{ScanPlan}
use Rattle.rv_jscan.specs.Entries.{Apart}
use Rattle.rv_jscan.specs.Joint.{CanMake, meets, no_plan}
use Rattle.rv_choice.specs.declared.query.Query.{Query}
use Rattle.rv_choice.specs.Asked.{CanAsk, with_only}
use Rattle.rv_choice.specs.Members.{AreMembers, AreUnited, IsMember}
use Rattle.rv_choice.proofs.OfMembers.{member_has, member_planned}
use Rattle.rv_final.specs.Rest.{qualifies_at, qualifying}
use Rattle.rv_retrieval.specs.Effort.{cuts_and_entries, life_of as retrieval_life}
use Rattle.rv_retrieval.specs.Runs.{indexes_asked}
use Rattle.rv_retrieval.proofs.Chosen.{plan_makes}
use Rattle.rv_retrieval.proofs.Planning.{planned_meets}
use Rattle.rv_union.specs.Effort.{effort as union_effort, life_of as union_life, member_life, members_life}
use Rattle.rv_union.specs.Opened.{CanUnite, Opened as UnionOpened}
use Rattle.rv_jscan.specs.Planned.{indexes_of}
use Rattle.rv_jscan.proofs.Apart.{entries_apart}
use Rattle.rv_union.specs.Runs.{OfFewIndexes, Tells as UnionTells}
use Rattle.rv_union.specs.Unioned.{MembersFit, UnionFits, Unioned, meets_any, rest as union_rest}
use Rattle.rv_access.specs.declared.uniting.UnitedQuery.{UnitedQuery}
use Rattle.rv_access.specs.Opened.{Begins, BeginsUnion}
use Rattle.rv_access.proofs.Boxes.{with_union}

later : (a b : Bool) → a ≡ false → (a || b) ≡ true → b ≡ true
later true b e h = absurd (cc)
later false b e h = h

-- what one test passes another one does
any_more : {X : Type 0} (f g : X → Bool) (xs : List X) → ((x : X) → f x ≡ true → g x ≡ true) → list_any f xs ≡ true → list_any g xs ≡ true
any_more f g [] more h = absurd (cc)
any_more f g (x ∷ xs) more h = elim (cases_Bool (f x)) [
  | inl here ↦ or_left (g x) (list_any g xs) (more x here)
  | inr other ↦ or_right (g x) (list_any g xs) (any_more f g xs more (later (f x) (list_any f xs) other h))
]

-- EACH ROW THAT QUALIFIES MEETS A BRANCH

-- of an AND that is True each part is
parts_true : (a b : Tri) → is_true (lesser a b) ≡ true → (is_true a ≡ true) × (is_true b ≡ true)
parts_true True True h = (refl, refl)
parts_true True False h = absurd (cc)
parts_true True Unknown h = absurd (cc)
parts_true False True h = absurd (cc)
parts_true False False h = absurd (cc)
parts_true False Unknown h = absurd (cc)
parts_true Unknown True h = absurd (cc)
parts_true Unknown False h = absurd (cc)
parts_true Unknown Unknown h = absurd (cc)

group_true : (read : ColRef → Value) (only : List (List Atom)) (i : ℕ) → i < length only → is_true (truth_by read only) ≡ true → is_true (group_truth read (group_at only i)) ≡ true
group_true read [] i l h = absurd (omega arith)
group_true read (group ∷ groups) zero l h = (parts_true (group_truth read group) (truth_by read groups) h).0
group_true read (group ∷ groups) (suc i) l h = group_true read groups i (omega arith) (parts_true (group_truth read group) (truth_by read groups) h).1

-- a branch of each group qualifies where the restriction does
branch_qualifies : (only : List (List Atom)) (i : ℕ) (row : List Value) → i < length only → qualifies only row ≡ true → list_any (λ (b : List (List Atom)). qualifies b row) (branches_of (group_at only i)) ≡ true
branch_qualifies only i row l q = some_branch (row_reads row) (group_at only i) ∙ group_true (row_reads row) only i l q

branch_owes : (only : List (List Atom)) (i n : ℕ) (rows : List Record) → i < length only → qualifies_at only rows n ≡ true → list_any (λ (b : List (List Atom)). qualifies_at b rows n) (branches_of (group_at only i)) ≡ true
branch_owes only i n [] l q = absurd (cc)
branch_owes only i n (r ∷ rows) l q = elim (cases_Bool (nat_eq n r.row.0 && qualifies only r.values)) [
  | inl here ↦ any_more (λ (b : List (List Atom)). qualifies b r.values) (λ (b : List (List Atom)). qualifies_at b (r ∷ rows) n) (branches_of (group_at only i)) (λ b is. or_left (nat_eq n r.row.0 && qualifies b r.values) (qualifies_at b rows n) (and_from (nat_eq n r.row.0) (qualifies b r.values) (first_so (nat_eq n r.row.0) (qualifies only r.values) here) is)) (branch_qualifies only i r.values l (second_so (nat_eq n r.row.0) (qualifies only r.values) here))
  | inr other ↦ any_more (λ (b : List (List Atom)). qualifies_at b rows n) (λ (b : List (List Atom)). qualifies_at b (r ∷ rows) n) (branches_of (group_at only i)) (λ b is. or_right (nat_eq n r.row.0 && qualifies b r.values) (qualifies_at b rows n) is) (branch_owes only i n rows l (later (nat_eq n r.row.0 && qualifies only r.values) (qualifies_at only rows n) other q))
]

-- THE MEMBERS

members_meet : (query : Query) (shown : Shown) (branches : List (List (List Atom))) (plans : List ScanPlan) (n : ℕ) → CanAsk query shown → AreMembers query shown branches plans → list_any (λ (b : List (List Atom)). qualifies_at b (shown.rows query.table query.snap) n) branches ≡ true → meets_any plans shown query.snap n ≡ true
members_meet query shown [] plans n can m h = absurd (cc)
members_meet query shown (b ∷ branches) [] n can m h = absurd m
members_meet query shown (b ∷ branches) (p ∷ plans) n can m h = elim (cases_Bool (qualifies_at b (shown.rows query.table query.snap) n)) [
  | inl here ↦ or_left (meets p shown query.snap n) (meets_any plans shown query.snap n) (planned_meets (with_only b query) shown p n (member_planned query shown b p can m.0) here)
  | inr other ↦ or_right (meets p shown query.snap n) (meets_any plans shown query.snap n) (members_meet query shown branches plans n can m.1 (later (qualifies_at b (shown.rows query.table query.snap) n) (list_any (λ (x : List (List Atom)). qualifies_at x (shown.rows query.table query.snap) n) branches) other h))
]

members_make : (query : Query) (shown : Shown) (branches : List (List (List Atom))) (plans : List ScanPlan) → CanAsk query shown → AreMembers query shown branches plans → AllByRecursion (λ (p : ScanPlan). CanMake p shown query.snap) plans
members_make query shown [] [] can m = tt
members_make query shown [] (p ∷ plans) can m = absurd m
members_make query shown (b ∷ branches) [] can m = absurd m
members_make query shown (b ∷ branches) (p ∷ plans) can m = (plan_makes (with_only b query) shown p (member_planned query shown b p can m.0), members_make query shown branches plans can m.1)

members_apart : (query : Query) (shown : Shown) (branches : List (List (List Atom))) (plans : List ScanPlan) → CanAsk query shown → AreMembers query shown branches plans → AllByRecursion (λ (p : ScanPlan). Apart (shown.entries p.index query.snap)) plans
members_apart query shown [] [] can m = tt
members_apart query shown [] (p ∷ plans) can m = absurd m
members_apart query shown (b ∷ branches) [] can m = absurd m
members_apart query shown (b ∷ branches) (p ∷ plans) can m =
    let planned = member_planned query shown b p can m.0 in
    (subst Apart (sym planned.index.entries) (entries_apart planned.columns (shown.rows query.table query.snap) can.ascend), members_apart query shown branches plans can m.1)

pub members_fit : (query : Query) (shown : Shown) (plans : List ScanPlan) → CanAsk query shown → AreUnited query shown plans → MembersFit plans (qualifies_at query.only (shown.rows query.table query.snap)) shown query.snap
members_fit query shown plans can u = record {
  each = λ i l. all_at (λ (p : ScanPlan). CanMake p shown query.snap) plans i no_plan (members_make query shown (branches_of (group_at query.only u.group)) plans can u.members) l;
  apart = λ i l. all_at (λ (p : ScanPlan). Apart (shown.entries p.index query.snap)) plans i no_plan (members_apart query shown (branches_of (group_at query.only u.group)) plans can u.members) l;
  met = λ n is. members_meet query shown (branches_of (group_at query.only u.group)) plans n can u.members (branch_owes query.only u.group n (shown.rows query.table query.snap) u.there is);
}

-- as many as the branches
members_many : (query : Query) (shown : Shown) (branches : List (List (List Atom))) (plans : List ScanPlan) → AreMembers query shown branches plans → length plans ≡ length branches
members_many query shown [] [] m = refl
members_many query shown [] (p ∷ plans) m = absurd m
members_many query shown (b ∷ branches) [] m = absurd m
members_many query shown (b ∷ branches) (p ∷ plans) m = ap suc (members_many query shown branches plans m.1)

pub members_some : (query : Query) (shown : Shown) (plans : List ScanPlan) → AreUnited query shown plans → 1 ≤ length plans
members_some query shown plans u =
    let many = members_many query shown (branches_of (group_at query.only u.group)) plans u.members in
    let two = number (length (branches_of (group_at query.only u.group))) (first_so _ _ u.suits) in
    omega arith
  where
    number : (n : ℕ) → nat_le 2 n ≡ true → 2 ≤ n
    number n h = grind (arith, nat_tests)

-- their indexes are the table's

each_known : (is : List (ℕ × List ℕ)) → AllByRecursion (λ (i : ℕ × List ℕ). has_index i.0 (map (λ (j : ℕ × List ℕ). j.0) is) ≡ true) is
each_known [] = tt
each_known (i ∷ is) = (or_left (nat_eq i.0 i.0) (has_index i.0 (map (λ (j : ℕ × List ℕ). j.0) is)) (same_number i.0), known_more i.0 (map (λ (j : ℕ × List ℕ). j.0) is) is (each_known is))
  where
    known_more : (x : ℕ) (xs : List ℕ) (is : List (ℕ × List ℕ)) → AllByRecursion (λ (i : ℕ × List ℕ). has_index i.0 xs ≡ true) is → AllByRecursion (λ (i : ℕ × List ℕ). has_index i.0 (x ∷ xs) ≡ true) is
    known_more x xs [] all = tt
    known_more x xs (i ∷ is) all = (or_right (nat_eq x i.0) (has_index i.0 xs) all.0, known_more x xs is all.1)

members_known : (query : Query) (shown : Shown) (branches : List (List (List Atom))) (plans : List ScanPlan) → AreMembers query shown branches plans → list_all (λ i. has_index i (indexes_asked query)) (indexes_of plans) ≡ true
members_known query shown [] [] m = refl
members_known query shown [] (p ∷ plans) m = absurd m
members_known query shown (b ∷ branches) [] m = absurd m
members_known query shown (b ∷ branches) (p ∷ plans) m = and_from (has_index p.index (indexes_asked query)) (list_all (λ i. has_index i (indexes_asked query)) (indexes_of plans)) (member_has (λ (i : ℕ). has_index i (indexes_asked query) ≡ true) query shown b p m.0 (each_known query.indexes)) (members_known query shown branches plans m.1)

pub united_known : (query : Query) (shown : Shown) (plans : List ScanPlan) → AreUnited query shown plans → list_all (λ i. has_index i (indexes_asked query)) (indexes_of plans) ≡ true
united_known query shown plans u = members_known query shown (branches_of (group_at query.only u.group)) plans u.members

few_indexes : (query : Query) (shown : Shown) (plans : List ScanPlan) → CanAsk query shown → AreUnited query shown plans → OfFewIndexes plans
few_indexes query shown plans can u =
    let mapped = length-map query.indexes (λ (i : ℕ × List ℕ). i.0) in
    let few = can.few in
    record { indexes = indexes_asked query; few = omega arith; among = united_known query shown plans u }

-- THE MEMBERS CAN BE PUT TOGETHER
pub can_unite : (query : Query) (shown : Shown) (plans : List ScanPlan) (only : List (List Atom)) → only ≡ query.only → CanAsk query shown → AreUnited query shown plans → CanUnite query.table query.snap only plans shown
can_unite query shown plans only o can u = subst (λ (x : List (List Atom)). CanUnite query.table query.snap x plans shown) (sym o) (record {
  ascend = can.ascend;
  read = can.read;
  columns = can.columns;
  members = members_fit query shown plans can u;
  few = few_indexes query shown plans can u;
})

-- THE LIFE

sizes_within : (shown : Shown) (snap more : ℕ) (is : List (ℕ × List ℕ)) → AllByRecursion (λ (i : ℕ × List ℕ). length (shown.cuts i.0 snap) + length (shown.entries i.0 snap) ≤ more + cuts_and_entries is shown snap) is
sizes_within shown snap more [] = tt
sizes_within shown snap more (i ∷ is) = (omega arith, again (length (shown.cuts i.0 snap) + length (shown.entries i.0 snap)) is (sizes_within shown snap (more + (length (shown.cuts i.0 snap) + length (shown.entries i.0 snap))) is))
  where
    again : (size : ℕ) (js : List (ℕ × List ℕ)) → AllByRecursion (λ (j : ℕ × List ℕ). length (shown.cuts j.0 snap) + length (shown.entries j.0 snap) ≤ more + size + cuts_and_entries is shown snap) js → AllByRecursion (λ (j : ℕ × List ℕ). length (shown.cuts j.0 snap) + length (shown.entries j.0 snap) ≤ more + (size + cuts_and_entries is shown snap)) js
    again size [] all = tt
    again size (j ∷ js) all = (moved (length (shown.cuts j.0 snap) + length (shown.entries j.0 snap)) more size (cuts_and_entries is shown snap) all.0, again size js all.1)
      where
        moved : (x a b c : ℕ) → x ≤ a + b + c → x ≤ a + (b + c)
        moved x a b c h = omega (arith, h)

-- no member has a longer life than a retrieval of the query
member_short : (query : Query) (shown : Shown) (branch : List (List Atom)) (plan : ScanPlan) → IsMember query shown branch plan → member_life (shown.pages query.table query.snap) plan shown query.snap ≤ retrieval_life query shown
member_short query shown branch plan m =
    let size = member_has (λ (i : ℕ). length (shown.cuts i query.snap) + length (shown.entries i query.snap) ≤ 0 + cuts_and_entries query.indexes shown query.snap) query shown branch plan m (sizes_within shown query.snap 0 query.indexes) in
    omega (arith, size)

times_more : (a b n life : ℕ) → a ≤ life → b ≤ n * life → a + b ≤ suc n * life
times_more a b n life h i = let more = one_more n life in omega (arith, h, i, more)
  where
    one_more : (n c : ℕ) → suc n * c ≡ c + n * c
    one_more n c = grind arith

members_short : (query : Query) (shown : Shown) (branches : List (List (List Atom))) (plans : List ScanPlan) → AreMembers query shown branches plans → members_life (shown.pages query.table query.snap) plans shown query.snap ≤ length plans * retrieval_life query shown
members_short query shown [] [] m = omega arith
members_short query shown [] (p ∷ plans) m = absurd m
members_short query shown (b ∷ branches) [] m = absurd m
members_short query shown (b ∷ branches) (p ∷ plans) m = times_more (member_life (shown.pages query.table query.snap) p shown query.snap) (members_life (shown.pages query.table query.snap) plans shown query.snap) (length plans) (retrieval_life query shown) (member_short query shown b p m.0) (members_short query shown branches plans m.1)

pub united_life : (query : Query) (shown : Shown) (plans : List ScanPlan) (effort : ℕ) → AreUnited query shown plans → effort < union_life query.table query.snap plans shown → effort < widths query.only * retrieval_life query shown
united_life query shown plans effort u l =
    let short = members_short query shown (branches_of (group_at query.only u.group)) plans u.members in
    let many = members_many query shown (branches_of (group_at query.only u.group)) plans u.members in
    let few = branches_few (group_at query.only u.group) in
    let within = group_within query.only u.group u.there in
    let product = less_product (length plans) (widths query.only) (retrieval_life query shown) (fit (length plans) (length (branches_of (group_at query.only u.group))) (group_width (group_at query.only u.group)) (widths query.only) many few within) in
    close effort (union_life query.table query.snap plans shown) (length plans * retrieval_life query shown) (widths query.only * retrieval_life query shown) l short product
  where
    less_product : (r n c : ℕ) → r ≤ n → r * c ≤ n * c
    less_product r n c h = grind (arith, h)

    fit : (a b c d : ℕ) → a ≡ b → b ≤ c → c ≤ d → a ≤ d
    fit a b c d e f g = omega (arith, e, f, g)

    close : (a b c d : ℕ) → a < b → b ≤ c → c ≤ d → a < d
    close a b c d f g h = omega (arith, f, g, h)

-- WHAT A UNION IS WHERE IT BEGINS

pub begins_union : (query : Query) (shown : Shown) (plans : List ScanPlan) (only : List (List Atom)) (cursor opening : ℕ) (u : Unioned) → only ≡ query.only → query.order ≡ [] → AreUnited query shown plans → UnionOpened query.table query.snap only plans cursor opening (shown.pages query.table query.snap) u → UnionFits u shown → union_rest u shown ≡ qualifying only (shown.rows query.table query.snap) → UnionTells u → union_effort u shown < union_life query.table query.snap plans shown → BeginsUnion query shown cursor opening (record { query = query; union = u })
begins_union query shown plans only cursor opening u o order united opened fits owes tells life =
    let over = subst (λ (x : List (List Atom)). UnionOpened query.table query.snap x plans cursor opening (shown.pages query.table query.snap) u) o opened in
    let same : u.plans ≡ plans = ap (λ (x : Unioned). x.plans) over.is in
    record {
      united = record {
        asked = refl;
        members = subst (AreUnited query shown) (sym same) united;
        opened = subst (λ (x : List ScanPlan). UnionOpened query.table query.snap query.only x cursor opening (shown.pages query.table query.snap) u) (sym same) over;
      };
      fits = record {
        over = record {
          table = ap (λ (x : Unioned). x.table) over.is;
          snap = ap (λ (x : Unioned). x.snap) over.is;
          only = ap (λ (x : Unioned). x.only) over.is;
          order = order;
        };
        union = fits;
      };
      owes = owes ∙ ap (λ (x : List (List Atom)). qualifying x (shown.rows query.table query.snap)) o;
      tells = record {
        tells = tells;
        known = subst (λ (x : List ScanPlan). list_all (λ i. has_index i (indexes_asked query)) (indexes_of x) ≡ true) (sym same) (united_known query shown plans united);
      };
      life = united_life query shown plans (union_effort u shown) united life;
    }

-- it has read nothing
pub opened_counts : (table snap : ℕ) (only : List (List Atom)) (plans : List ScanPlan) (cursor opening pages : ℕ) (u : Unioned) (c d : Counts) → UnionOpened table snap only plans cursor opening pages u → d ≡ c → CountsAll u.trace c d
opened_counts table snap only plans cursor opening pages u c d opened same = record {
  pages = ap (λ (x : Unioned). x.trace.pages) opened.is ∙ none c.pages d.pages (ap (λ (k : Counts). k.pages) same);
  leaves = ap (λ (x : Unioned). x.trace.leaves) opened.is ∙ none c.leaves d.leaves (ap (λ (k : Counts). k.leaves) same);
  fetches = ap (λ (x : Unioned). x.trace.fetches) opened.is ∙ none c.records d.records (ap (λ (k : Counts). k.records) same);
}
  where
    none : (a b : ℕ) → b ≡ a → 0 ≡ raised 0 (b - a)
    none a b e = omega (arith, e)

pub begun_union : (query : Query) (shown : Shown) (cursor opening : ℕ) (c d : Counts) (b : Box UnitedQuery Global) (u : UnitedQuery) → BeginsUnion query shown cursor opening u → CountsAll u.union.trace c d → d ≡ c → Begins query shown c d (with_union b u)
begun_union query shown cursor opening c d b u begins counts unread = record {
  asked = begins.united.asked;
  fits = begins.fits;
  owes = begins.owes;
  tells = begins.tells;
  awaiting = tt;
  counts = counts;
  life = within (reads c) (reads d) (union_effort u.union shown) (widths query.only * retrieval_life query shown) (ap reads unread) begins.life;
  most = at_most (union_effort u.union shown) (widths query.only * retrieval_life query shown) begins.life;
}
  where
    within : (n m k l : ℕ) → m ≡ n → k < l → m + k ≤ n + l
    within n m k l e h = omega (arith, e, h)

    at_most : (k l : ℕ) → k < l → k ≤ l
    at_most k l h = omega (arith, h)
