-- How the strategy of a retrieval and its scans are chosen among the indexes of a table.
use Rattle.std.specs.Prelude.{◌≡◌, ℕ, ◌<◌, ◌≤◌, Bool, true, false, not, ◌&&◌, List, [], length, map, filter, nat_le, nat_eq, position, Option, Some, None, IsPermutation, if◌then◌else◌}
use Rattle.std.specs.List.{list_all, slice_index_or, starts_with}
use Rattle.std.specs.List.Sorted.{IsNonDecreasingBy, IsStableByKey}
use Rattle.std.specs.Ordering.{nat_cmp}
use Rattle.rv_value.specs.Ranges.{is_whole}
use Rattle.rv_judge.specs.declared.events.Strategy.TheVariants.{Table, BackgroundOnly, FastFirst, Sorted, IndexOnly}
use Rattle.rv_restrict.specs.declared.atom.Atom.{Atom}
use Rattle.rv_restrict.specs.Parts.{part_of, stands_among}
use Rattle.rv_restrict.specs.Ranges.{range_for}
use Rattle.rv_reader.specs.Shown.{IsEstimate, Shown}
use Rattle.rv_jscan.specs.declared.jscan.ScanPlan.{ScanPlan}
use Rattle.rv_choice.specs.declared.query.Query.{Query}
use Rattle.rv_choice.specs.declared.query.Goal2.{Goal2}
use Rattle.rv_choice.specs.declared.query.Goal2.TheVariants.{FastFirst as Soon, TotalTime}
use Rattle.rv_choice.specs.declared.choosing.Candidate.{Candidate}
use Rattle.rv_choice.specs.declared.choosing.Role.{Role}
use Rattle.rv_choice.specs.declared.choosing.Role.TheVariants.{Short, Sufficient, Restricted}
use Rattle.rv_choice.specs.declared.choosing.Background.{Background}
use Rattle.rv_choice.specs.declared.choosing.Background.TheVariants.{Nothing, One, Each, EachBut}
use Rattle.rv_choice.specs.declared.choosing.Choice.{Choice}

-- each column needed is one of the index's
abbrev pub has_all : List ℕ → List ℕ → Bool
has_all columns need = list_all (stands_among columns) need

-- an index as the query sees it
abbrev pub candidate_of : Query → Shown → ℕ × List ℕ → Candidate
candidate_of query shown i = record {
  index = i.0;
  columns = i.1;
  range = range_for query.only i.1;
  estimate = shown.estimates i.0 query.snap (range_for query.only i.1);
  restricted = not (is_whole (range_for query.only i.1));
  sufficient = has_all i.1 query.need;
}

abbrev pub candidates_of : Query → Shown → List Candidate
candidates_of query shown = map (candidate_of query shown) query.indexes

-- its estimate is right where it is exact
abbrev pub IsRight : Shown → ℕ → Candidate → Type 0
IsRight shown snap c = IsEstimate (shown.entries c.index snap) c.range c.estimate

abbrev pub no_candidate : Candidate
no_candidate =
    record {
      index = 0;
      columns = [];
      range = record { low = None; high = None; starts = false };
      estimate = record { value = 0; exact = false };
      restricted = false;
      sufficient = false;
    }

abbrev pub candidate_at : List Candidate → ℕ → Candidate
candidate_at cs i = slice_index_or cs i no_candidate

-- the parts that an index may play: it is restricted with an exact estimate of at most 20, it has every column needed,
-- or it is restricted
abbrev pub plays : Role → Candidate → Bool
plays Short c = c.restricted && (c.estimate.exact && nat_le c.estimate.value 20)
plays Sufficient c = c.sufficient
plays Restricted c = c.restricted

-- no index below a number plays the part
pub record NonePlays (role : Role) (cs : List Candidate) (k : ℕ) : Type 0 where
  pub none : (i : ℕ) → i < k → plays role (candidate_at cs i) ≡ false

-- of the indexes below a number that play the part it has the least estimate, and is the first that has it
pub record FirstLeast (role : Role) (cs : List Candidate) (k at : ℕ) : Type 0 where
  pub below : at < k
  pub is : plays role (candidate_at cs at) ≡ true
  pub before : (i : ℕ) → i < at → plays role (candidate_at cs i) ≡ true
      → (candidate_at cs at).estimate.value < (candidate_at cs i).estimate.value
  pub behind : (i : ℕ) → at < i → i < k → plays role (candidate_at cs i) ≡ true
      → (candidate_at cs at).estimate.value ≤ (candidate_at cs i).estimate.value

abbrev pub LeastBelow : Role → List Candidate → ℕ → Option ℕ → Type 0
LeastBelow role cs k None = NonePlays role cs k
LeastBelow role cs k (Some at) = FirstLeast role cs k at

abbrev pub IsLeastOf : Role → List Candidate → Option ℕ → Type 0
IsLeastOf role cs found = LeastBelow role cs (length cs) found

-- an order is asked, and the index begins with its columns
abbrev pub leads : List ℕ → List ℕ → Bool
leads order columns = not (nat_eq (length order) 0) && starts_with nat_eq columns order

-- the order index: the first created that leads
abbrev pub order_index : List ℕ → List Candidate → Option ℕ
order_index order cs = position (λ (c : Candidate). leads order c.columns) cs

-- the choice where an order is asked: a scan of the order index delivers
abbrev pub ordered_choice : List Candidate → ℕ → Option ℕ → Choice
ordered_choice cs front (Some short) =
    record { strategy = Sorted; front = Some front; background = One (candidate_at cs short).index }
ordered_choice cs front None =
    record {
      strategy = Sorted;
      front = Some front;
      background = if (candidate_at cs front).sufficient then Nothing
          else EachBut (candidate_at cs front).index;
    }

abbrev pub restricted_choice : Goal2 → Option ℕ → Choice
restricted_choice Soon (Some at) = record { strategy = FastFirst; front = None; background = Each }
restricted_choice TotalTime (Some at) = record { strategy = BackgroundOnly; front = None; background = Each }
restricted_choice goal None = record { strategy = Table; front = None; background = Nothing }

-- the choice where none is asked: the short index, else the sufficient one, else the restricted ones, else the table
abbrev pub free_choice : List Candidate → Goal2 → Option ℕ → Option ℕ → Option ℕ → Choice
free_choice cs goal (Some short) sufficient restricted =
    record { strategy = BackgroundOnly; front = None; background = One (candidate_at cs short).index }
free_choice cs goal None (Some front) restricted =
    record { strategy = IndexOnly; front = Some front; background = EachBut (candidate_at cs front).index }
free_choice cs goal None None restricted = restricted_choice goal restricted

abbrev pub choice_of : List Candidate → Goal2 → Option ℕ → Option ℕ → Option ℕ → Option ℕ → Choice
choice_of cs goal (Some front) short sufficient restricted = ordered_choice cs front short
choice_of cs goal None short sufficient restricted = free_choice cs goal short sufficient restricted

-- THE FIVE RULES
pub record IsChosen (order : List ℕ) (goal : Goal2) (cs : List Candidate) (choice : Choice) : Type 0 where
  pub short : Option ℕ
  pub sufficient : Option ℕ
  pub restricted : Option ℕ
  pub least_short : IsLeastOf Short cs short
  pub least_sufficient : IsLeastOf Sufficient cs sufficient
  pub least_restricted : IsLeastOf Restricted cs restricted
  pub rules : choice ≡ choice_of cs goal (order_index order cs) short sufficient restricted

-- the indexes that the background scans
abbrev pub is_scanned : Background → Candidate → Bool
is_scanned Nothing c = false
is_scanned (One index) c = nat_eq c.index index
is_scanned Each c = c.restricted
is_scanned (EachBut index) c = c.restricted && not (nat_eq c.index index)

-- the scan of an index
abbrev pub plan_of : List (List Atom) → Candidate → ScanPlan
plan_of only c = record { index = c.index; range = c.range; part = part_of only c.columns; estimate = c.estimate.value }

-- the scans of the background, in order of creation
abbrev pub plans_of : List (List Atom) → Background → List Candidate → List ScanPlan
plans_of only background cs = map (plan_of only) (filter (is_scanned background) cs)

-- the scans of the background, in ascending order of estimates; equal ones in order of creation
pub record AreScans (only : List (List Atom)) (cs : List Candidate) (background : Background)
    (scans : List ScanPlan) : Type 0 where
  pub these : IsPermutation (plans_of only background cs) scans
  pub ascend : IsNonDecreasingBy (λ (p : ScanPlan). p.estimate) scans
  pub ties : IsStableByKey (λ (p : ScanPlan). p.estimate) nat_cmp (plans_of only background cs) scans
