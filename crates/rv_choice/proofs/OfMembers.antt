-- The members of a union: which branches have one, and which group serves first.
use Rattle.std.proofs.Common.{◌≡◌, ℕ, zero, suc, ◌+◌, ◌<◌, ◌≤◌, List, [], ◌∷◌, ◌++◌, length, map, Bool, true, false, nat_le, refl, ap, sym, ◌∙◌, arith, subst, append_assoc, append-nil, Some, None, Result, Ok, Err, IfOk}
use Rattle.std.proofs.lemmas.Bool.Decides.{nat_tests}
use Rattle.std.proofs.lemmas.List.{get_or_read_under}
use Rattle.std.specs.List.{AllByRecursion, list_all, list_any, slice_index_or}
use Rattle.std.proofs.lemmas.Bool.{and_from, and_left, and_right, or_from, or_left, or_right}
use Rattle.rv_value.proofs.Lists.{all_at}
use Rattle.rv_restrict.specs.declared.atom.Atom.{Atom}
use Rattle.rv_restrict.specs.Branches.{branches_of, group_at}
use Rattle.rv_reader.specs.Shown.{Shown}
use Rattle.rv_jscan.specs.declared.jscan.ScanPlan.{ScanPlan}
use Rattle.rv_choice.specs.declared.query.Query.{Query}
use Rattle.rv_choice.specs.declared.choosing.Candidate.{Candidate}
use Rattle.rv_choice.specs.declared.choosing.Role.TheVariants.{Restricted}
use Rattle.rv_choice.specs.Asked.{CanAsk, IsIndexOf, IsPlanned, with_only}
use Rattle.rv_choice.specs.Choice.{IsLeastOf, NonePlays, candidate_at, candidate_of, no_candidate, plan_of}
use Rattle.rv_choice.specs.Members.{AddsMembers, AreMembers, AreUnited, IsMember, NoneServes, PutsMembers, is_bounded, seen_by, serves, some_restricted, some_serves}
use Rattle.rv_choice.proofs.Choices.{IsCandidate, are_candidates, either_below}
use Rattle.rv_choice.proofs.Suited.{index_of_any}

-- THE MEMBER OF A BRANCH

some_plays : (cs : List Candidate) (at : ℕ) → at < length cs → (candidate_at cs at).restricted ≡ true → some_restricted cs ≡ true
some_plays [] at l p = absurd (omega arith)
some_plays (c ∷ cs) zero l p = or_left c.restricted (some_restricted cs) p
some_plays (c ∷ cs) (suc at) l p = or_right c.restricted (some_restricted cs) (some_plays cs at (omega arith) p)

pub none_plays : (cs : List Candidate) → NonePlays Restricted cs (length cs) → some_restricted cs ≡ false
none_plays [] n = refl
none_plays (c ∷ cs) n = or_from c.restricted (some_restricted cs) (n.none 0 (omega arith)) (none_plays cs (record { none = λ i l. n.none (suc i) (omega arith) }))

-- no index is bounded by a branch
pub unbounded : (query : Query) (shown : Shown) (branch : List (List Atom)) (cs : List Candidate) → cs ≡ seen_by query shown branch → IsLeastOf Restricted cs None → is_bounded query shown branch ≡ false
unbounded query shown branch cs e n = ap some_restricted (sym e) ∙ none_plays cs n

-- the least one that is
pub is_member : (query : Query) (shown : Shown) (branch : List (List Atom)) (cs : List Candidate) (at : ℕ) (c : Candidate) (plan : ScanPlan) → cs ≡ seen_by query shown branch → IsLeastOf Restricted cs (Some at) → c ≡ slice_index_or cs at c → plan ≡ plan_of branch c → IsMember query shown branch plan
is_member query shown branch cs at c plan e l r p = record {
  at = at;
  least = subst (λ (xs : List Candidate). IsLeastOf Restricted xs (Some at)) e l;
  is = p ∙ ap (plan_of branch) (get_or_read_under cs at (length cs) c no_candidate r l.below refl) ∙ ap (λ (xs : List Candidate). plan_of branch (candidate_at xs at)) e;
}

pub bounded : (query : Query) (shown : Shown) (branch : List (List Atom)) (plan : ScanPlan) → IsMember query shown branch plan → is_bounded query shown branch ≡ true
bounded query shown branch plan m = some_plays (seen_by query shown branch) m.at m.least.below m.least.is

-- THE SCAN OF A MEMBER

indexes_of_any : (query : Query) (shown : Shown) (only : List (List Atom)) (is : List (ℕ × List ℕ)) → AllByRecursion (λ (i : ℕ × List ℕ). IsIndexOf query shown i.0 i.1) is → AllByRecursion (λ (i : ℕ × List ℕ). IsIndexOf (with_only only query) shown i.0 i.1) is
indexes_of_any query shown only [] all = tt
indexes_of_any query shown only (i ∷ is) all = (index_of_any query shown i.0 i.1 only all.0, indexes_of_any query shown only is all.1)

-- a member is a scan of an index in the range and with the part that its branch has for it
pub member_planned : (query : Query) (shown : Shown) (branch : List (List Atom)) (plan : ScanPlan) → CanAsk query shown → IsMember query shown branch plan → IsPlanned (with_only branch query) shown plan
member_planned query shown branch plan can m =
    let all = are_candidates (with_only branch query) shown query.indexes (indexes_of_any query shown branch query.indexes can.indexes) in
    let is = all_at (IsCandidate (with_only branch query) shown) (seen_by query shown branch) m.at no_candidate all m.least.below in
    subst (IsPlanned (with_only branch query) shown) (sym m.is) (record { columns = (candidate_at (seen_by query shown branch) m.at).columns; index = is.index_of; range = is.its_range; part = refl })

-- a property of each of the query's indexes is one of the index of each candidate
pub candidate_has : (P : ℕ → Type 0) (query : Query) (shown : Shown) (is : List (ℕ × List ℕ)) (at : ℕ) → at < length (map (candidate_of query shown) is) → AllByRecursion (λ (i : ℕ × List ℕ). P i.0) is → P (candidate_at (map (candidate_of query shown) is) at).index
candidate_has P query shown [] at l all = absurd (omega arith)
candidate_has P query shown (i ∷ is) zero l all = all.0
candidate_has P query shown (i ∷ is) (suc at) l all = candidate_has P query shown is at (omega arith) all.1

pub member_has : (P : ℕ → Type 0) (query : Query) (shown : Shown) (branch : List (List Atom)) (plan : ScanPlan) → IsMember query shown branch plan → AllByRecursion (λ (i : ℕ × List ℕ). P i.0) query.indexes → P plan.index
member_has P query shown branch plan m all = subst (λ (p : ScanPlan). P p.index) (sym m.is) (candidate_has P (with_only branch query) shown query.indexes m.at m.least.below all)

-- THE MEMBERS OF A GROUP

pub no_branches : (query : Query) (shown : Shown) (old : List ScanPlan) → PutsMembers query shown [] old old
no_branches query shown old = record { added = []; are = tt; put = sym (append-nil old) }

pub first_without : (query : Query) (shown : Shown) (branch : List (List Atom)) (branches : List (List (List Atom))) → is_bounded query shown branch ≡ false → list_all (is_bounded query shown) (branch ∷ branches) ≡ false
first_without query shown branch branches h = and_left (is_bounded query shown branch) (list_all (is_bounded query shown) branches) h

-- one more, and then what the rest adds
pub one_more : (query : Query) (shown : Shown) (branch : List (List Atom)) (branches : List (List (List Atom))) (plan : ScanPlan) (old put new : List ScanPlan) (all : Bool) → IsMember query shown branch plan → put ≡ old ++ plan ∷ [] → AddsMembers query shown branches put new all → AddsMembers query shown (branch ∷ branches) old new all
one_more query shown branch branches plan old put new true m p a = record {
  added = plan ∷ a.added;
  are = (m, a.are);
  put = a.put ∙ ap (λ (xs : List ScanPlan). xs ++ a.added) p ∙ append_assoc old (plan ∷ []) a.added;
}
one_more query shown branch branches plan old put new false m p a = and_right (is_bounded query shown branch) (list_all (is_bounded query shown) branches) a

-- where the rest answers
pub more_if : {E : Type 0} (r : Result Bool E) (query : Query) (shown : Shown) (branch : List (List Atom)) (branches : List (List (List Atom))) (plan : ScanPlan) (old put new : List ScanPlan) → IsMember query shown branch plan → put ≡ old ++ plan ∷ [] → IfOk r (AddsMembers query shown branches put new) → IfOk r (AddsMembers query shown (branch ∷ branches) old new)
more_if (Ok all) query shown branch branches plan old put new m p a = one_more query shown branch branches plan old put new all m p a
more_if (Err x) query shown branch branches plan old put new m p a = tt

all_bounded : (query : Query) (shown : Shown) (branches : List (List (List Atom))) (plans : List ScanPlan) → AreMembers query shown branches plans → list_all (is_bounded query shown) branches ≡ true
all_bounded query shown [] [] m = refl
all_bounded query shown [] (plan ∷ plans) m = absurd m
all_bounded query shown (branch ∷ branches) [] m = absurd m
all_bounded query shown (branch ∷ branches) (plan ∷ plans) m = and_from (is_bounded query shown branch) (list_all (is_bounded query shown) branches) (bounded query shown branch plan m.0) (all_bounded query shown branches plans m.1)

-- a group of one branch or none
pub too_few : (query : Query) (shown : Shown) (group : List Atom) (bs : List (List (List Atom))) → bs ≡ branches_of group → length bs < 2 → serves query shown group ≡ false
too_few query shown group bs e l = and_left (nat_le 2 (length (branches_of group))) (list_all (is_bounded query shown) (branches_of group)) (ap (λ (xs : List (List (List Atom))). nat_le 2 (length xs)) (sym e) ∙ number (length bs) l)
  where
    number : (n : ℕ) → n < 2 → nat_le 2 n ≡ false
    number n l = grind (arith, nat_tests)

-- one branch alone does not serve
pub plain_serves_not : (query : Query) (shown : Shown) (group : List Atom) → length (branches_of group) ≡ 1 → serves query shown group ≡ false
plain_serves_not query shown group one = too_few query shown group (branches_of group) refl (omega (arith, one))

-- a branch without a member
pub one_without : (query : Query) (shown : Shown) (group : List Atom) (bs : List (List (List Atom))) → bs ≡ branches_of group → list_all (is_bounded query shown) bs ≡ false → serves query shown group ≡ false
one_without query shown group bs e a = and_right (nat_le 2 (length (branches_of group))) (list_all (is_bounded query shown) (branches_of group)) (ap (list_all (is_bounded query shown)) (sym e) ∙ a)

-- all have one
pub group_members : (query : Query) (shown : Shown) (group : List Atom) (bs : List (List (List Atom))) (old new : List ScanPlan) → bs ≡ branches_of group → old ≡ [] → AddsMembers query shown bs old new true → AreMembers query shown (branches_of group) new
group_members query shown group bs old new e none a =
    let only : new ≡ a.added = a.put ∙ ap (λ (xs : List ScanPlan). xs ++ a.added) none in
    subst (λ (xs : List ScanPlan). AreMembers query shown (branches_of group) xs) (sym only) (subst (λ (xs : List (List (List Atom))). AreMembers query shown xs a.added) e a.are)

pub group_serves : (query : Query) (shown : Shown) (group : List Atom) (bs : List (List (List Atom))) (plans : List ScanPlan) → bs ≡ branches_of group → 2 ≤ length bs → AreMembers query shown (branches_of group) plans → serves query shown group ≡ true
group_serves query shown group bs plans e l m = and_from (nat_le 2 (length (branches_of group))) (list_all (is_bounded query shown) (branches_of group)) (ap (λ (xs : List (List (List Atom))). nat_le 2 (length xs)) (sym e) ∙ number (length bs) l) (all_bounded query shown (branches_of group) plans m)
  where
    number : (n : ℕ) → 2 ≤ n → nat_le 2 n ≡ true
    number n l = grind (arith, nat_tests)

-- THE FIRST GROUP THAT SERVES

pub none_before : (query : Query) (shown : Shown) → NoneServes query shown 0
none_before query shown = record { none = λ i l. absurd (let bad : i < 0 = l in omega arith) }

pub none_here : (query : Query) (shown : Shown) (k : ℕ) → NoneServes query shown k → serves query shown (group_at query.only k) ≡ false → NoneServes query shown (k + 1)
none_here query shown k n h = record { none = λ i l. either_below i k l (λ less. n.none i less) (λ same. ap (λ (x : ℕ). serves query shown (group_at query.only x)) same ∙ h) }

none_of : (query : Query) (shown : Shown) (groups : List (List Atom)) → ((i : ℕ) → i < length groups → serves query shown (slice_index_or groups i []) ≡ false) → list_any (serves query shown) groups ≡ false
none_of query shown [] n = refl
none_of query shown (group ∷ groups) n = or_from (serves query shown group) (list_any (serves query shown) groups) (n 0 (omega arith)) (none_of query shown groups (λ i l. n (suc i) (omega arith)))

-- no group serves
pub none_serves : (query : Query) (shown : Shown) (k : ℕ) → k ≡ length query.only → NoneServes query shown k → some_serves query shown ≡ false
none_serves query shown k e n = none_of query shown query.only (λ i l. n.none i (subst (λ (x : ℕ). i < x) (sym e) l))

-- a group that serves is one that does
pub some_serve : (query : Query) (shown : Shown) (plans : List ScanPlan) → AreUnited query shown plans → some_serves query shown ≡ true
some_serve query shown plans u = one_of query.only u.group u.there u.suits
  where
    one_of : (groups : List (List Atom)) (i : ℕ) → i < length groups → serves query shown (group_at groups i) ≡ true → list_any (serves query shown) groups ≡ true
    one_of [] i l s = absurd (omega arith)
    one_of (group ∷ groups) zero l s = or_left (serves query shown group) (list_any (serves query shown) groups) s
    one_of (group ∷ groups) (suc i) l s = or_right (serves query shown group) (list_any (serves query shown) groups) (one_of groups i (omega arith) s)

-- the group in a place that there is serves, and none before it
pub united : (query : Query) (shown : Shown) (group : ℕ) (plans : List ScanPlan) → group < length query.only → NoneServes query shown group → serves query shown (group_at query.only group) ≡ true → AreMembers query shown (branches_of (group_at query.only group)) plans → AreUnited query shown plans
united query shown group plans l n s m = record { group = group; there = l; suits = s; first = n; members = m }
