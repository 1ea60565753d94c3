-- The scans of a race have no more cuts and entries than the table's indexes; how many lives an access has.
use Rattle.std.proofs.Common.{◌≡◌, ℕ, ◌+◌, ◌*◌, ◌<◌, ◌≤◌, List, [], ◌∷◌, length, filter, map, true, false, cond, refl, arith}
use Rattle.std.specs.List.{sum_by}
use Rattle.std.proofs.lemmas.List.Sums.{sum_by-cons}
use Rattle.std.proofs.lemmas.List.Sorted.{sum_by-IsPermutation}
use Rattle.rv_restrict.specs.Branches.{widths}
use Rattle.rv_restrict.specs.declared.atom.Atom.{Atom}
use Rattle.rv_reader.specs.Shown.{Shown}
use Rattle.rv_jscan.specs.declared.jscan.ScanPlan.{ScanPlan}
use Rattle.rv_choice.specs.declared.query.Query.{Query}
use Rattle.rv_choice.specs.declared.choosing.Background.{Background}
use Rattle.rv_choice.specs.Choice.{AreScans, candidate_of, candidates_of, is_scanned, plan_of}
use Rattle.rv_retrieval.specs.Effort.{cuts_and_entries, life_of}
use Rattle.rv_race.specs.Effort.{cuts_and_entries as scanned_cuts, life_of as race_life}
use Rattle.rv_access.specs.declared.access.Access.{Access}
use Rattle.rv_access.specs.declared.access.Access.TheVariants.{Competing, Racing, Uniting}
use Rattle.rv_access.specs.Opened.{lives}

-- the cuts and entries of a scanned index
abbrev scan_size : Shown → ℕ → ScanPlan → ℕ
scan_size shown snap plan = length (shown.cuts plan.index snap) + length (shown.entries plan.index snap)

scanned_sum : (plans : List ScanPlan) (shown : Shown) (snap : ℕ) → scanned_cuts plans shown snap ≡ sum_by (scan_size shown snap) plans
scanned_sum [] shown snap = refl
scanned_sum (p ∷ plans) shown snap =
    let more = scanned_sum plans shown snap in
    let first = sum_by-cons (scan_size shown snap) p plans in
    omega arith

plans_size : (query : Query) (shown : Shown) (background : Background) (is : List (ℕ × List ℕ)) → sum_by (scan_size shown query.snap) (map (plan_of query.only) (filter (is_scanned background) (map (candidate_of query shown) is))) ≤ cuts_and_entries is shown query.snap
plans_size query shown background [] = omega arith
plans_size query shown background (i ∷ is) =
    let rest = map (plan_of query.only) (filter (is_scanned background) (map (candidate_of query shown) is)) in
    let first = sum_by-cons (scan_size shown query.snap) (plan_of query.only (candidate_of query shown i)) rest in
    let more = plans_size query shown background is in
    elim (is_scanned background (candidate_of query shown i)) as (λ b. sum_by (scan_size shown query.snap) (map (plan_of query.only) (cond b (candidate_of query shown i ∷ filter (is_scanned background) (map (candidate_of query shown) is)) (filter (is_scanned background) (map (candidate_of query shown) is)))) ≤ cuts_and_entries (i ∷ is) shown query.snap) [
      | true ↦ omega arith
      | false ↦ omega arith
    ]

scans_size : (query : Query) (shown : Shown) (background : Background) (scans : List ScanPlan) → AreScans query.only (candidates_of query shown) background scans → scanned_cuts scans shown query.snap ≤ cuts_and_entries query.indexes shown query.snap
scans_size query shown background scans s =
    let same = sum_by-IsPermutation (scan_size shown query.snap) (map (plan_of query.only) (filter (is_scanned background) (candidates_of query shown))) scans s.these in
    let sum = scanned_sum scans shown query.snap in
    let size = plans_size query shown background query.indexes in
    omega arith

pub raced_life : (query : Query) (shown : Shown) (background : Background) (scans : List ScanPlan) (effort : ℕ) → AreScans query.only (candidates_of query shown) background scans → effort < race_life query.table query.snap scans shown → effort < life_of query shown
raced_life query shown background scans effort s l =
    let size = scans_size query shown background scans s in
    omega arith

-- A RETRIEVAL AND A RACE HAVE ONE LIFE

pub one_life : (a b life : ℕ) → a ≤ b + life → a ≤ b + 1 * life
one_life a b life h = omega (arith, h)

pub one_whole : (a life : ℕ) → a ≤ life → a ≤ 1 * life
one_whole a life h = omega (arith, h)

-- of more branches no fewer lives; and no more than one and one for each branch, of whatever kind
pub lives_less : (a : Access) (few more : List (List Atom)) → widths few ≤ widths more → lives a few ≤ lives a more
lives_less (Competing v) few more h = omega arith
lives_less (Racing r) few more h = omega arith
lives_less (Uniting u) few more h = h

pub lives_most : (a : Access) (only : List (List Atom)) → lives a only ≤ widths only + 1
lives_most (Competing v) only = omega arith
lives_most (Racing r) only = omega arith
lives_most (Uniting u) only = omega arith
