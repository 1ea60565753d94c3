-- The members of a union: an index for each branch of a group.
use Rattle.std.specs.Prelude.{◌≡◌, ℕ, ◌<◌, Bool, true, false, ◌&&◌, List, [], ◌∷◌, ◌++◌, length, nat_le, Some}
use Rattle.std.specs.List.{list_all, list_any}
use Rattle.rv_restrict.specs.declared.atom.Atom.{Atom}
use Rattle.rv_restrict.specs.Branches.{branches_of, group_at}
use Rattle.rv_reader.specs.Shown.{Shown}
use Rattle.rv_jscan.specs.declared.jscan.ScanPlan.{ScanPlan}
use Rattle.rv_choice.specs.declared.query.Query.{Query}
use Rattle.rv_choice.specs.declared.choosing.Candidate.{Candidate}
use Rattle.rv_choice.specs.declared.choosing.Role.TheVariants.{Restricted}
use Rattle.rv_choice.specs.Asked.{with_only}
use Rattle.rv_choice.specs.Choice.{IsLeastOf, candidate_at, candidates_of, plan_of}

-- the table's indexes as a branch sees them
abbrev pub seen_by : Query → Shown → List (List Atom) → List Candidate
seen_by query shown branch = candidates_of (with_only branch query) shown

abbrev pub some_restricted : List Candidate → Bool
some_restricted cs = list_any (λ (c : Candidate). c.restricted) cs

-- the range that a branch has for some index is not whole
abbrev pub is_bounded : Query → Shown → List (List Atom) → Bool
is_bounded query shown branch = some_restricted (seen_by query shown branch)

-- THE MEMBER OF A BRANCH: of the indexes for which its range is not whole the one with the least estimate, of equal
-- ones the one created first, with the range and the part that the branch has for it
pub record IsMember (query : Query) (shown : Shown) (branch : List (List Atom)) (plan : ScanPlan) : Type 0 where
  pub at : ℕ
  pub least : IsLeastOf Restricted (seen_by query shown branch) (Some at)
  pub is : plan ≡ plan_of branch (candidate_at (seen_by query shown branch) at)

-- one for each branch, in order
abbrev pub AreMembers : Query → Shown → List (List (List Atom)) → List ScanPlan → Type 0
AreMembers query shown [] [] = Unit {0}
AreMembers query shown [] (plan ∷ plans) = ⊥
AreMembers query shown (branch ∷ branches) [] = ⊥
AreMembers query shown (branch ∷ branches) (plan ∷ plans) =
    IsMember query shown branch plan × AreMembers query shown branches plans

-- A GROUP SERVES where it has two branches or more, each of which bounds an index
abbrev pub serves : Query → Shown → List Atom → Bool
serves query shown group =
    nat_le 2 (length (branches_of group)) && list_all (is_bounded query shown) (branches_of group)

abbrev pub some_serves : Query → Shown → Bool
some_serves query shown = list_any (serves query shown) query.only

-- no group before a place serves
pub record NoneServes (query : Query) (shown : Shown) (k : ℕ) : Type 0 where
  pub none : (i : ℕ) → i < k → serves query shown (group_at query.only i) ≡ false

-- THE MEMBERS OF A UNION are those of the first group that serves
pub record AreUnited (query : Query) (shown : Shown) (plans : List ScanPlan) : Type 0 where
  pub group : ℕ
  pub there : group < length query.only
  pub suits : serves query shown (group_at query.only group) ≡ true
  pub first : NoneServes query shown group
  pub members : AreMembers query shown (branches_of (group_at query.only group)) plans

-- members were put behind others
pub record PutsMembers (query : Query) (shown : Shown) (branches : List (List (List Atom)))
    (old new : List ScanPlan) : Type 0 where
  pub added : List ScanPlan
  pub are : AreMembers query shown branches added
  pub put : new ≡ old ++ added

-- all branches have one, or one has none
abbrev pub AddsMembers : Query → Shown → List (List (List Atom)) → List ScanPlan → List ScanPlan → Bool → Type 0
AddsMembers query shown branches old new true = PutsMembers query shown branches old new
AddsMembers query shown branches old new false = list_all (is_bounded query shown) branches ≡ false
