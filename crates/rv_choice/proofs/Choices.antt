-- The choice among the indexes: the least one, what candidates are, and what the background's scans and the foreground are.
use Rattle.std.proofs.Common.{◌≡◌, ℕ, zero, suc, ◌+◌, ◌<◌, ◌≤◌, ◌⊎◌, List, [], ◌∷◌, ◌++◌, cond, length, Bool, true, false, not, refl, ap, sym, ◌∙◌, arith, subst, Some, None, Option, nat_eq, nat_lt, inl, inr, map, filter, take, drop, get_or, ◌-◌, ◌||◌}
use Rattle.std.proofs.lemmas.Bool.{cases_Bool, ltb-true, eqb-true}
use Rattle.std.proofs.lemmas.Bool.Decides.{nat_tests}
use Rattle.std.proofs.lemmas.List.{take_rest}
use Rattle.std.specs.Cmp.Lexicographic.{pointwise}
use Rattle.std.specs.List.{AllByRecursion, starts_with}
use Rattle.std.specs.Cmp.{first_so, second_so}
use Rattle.rv_restrict.specs.Parts.{stands_among}
use Rattle.rv_restrict.specs.Ranges.{range_for}
use Rattle.rv_reader.specs.Shown.{Shown}
use Rattle.rv_choice.specs.declared.query.Query.{Query}
use Rattle.rv_choice.specs.declared.choosing.Candidate.{Candidate}
use Rattle.rv_choice.specs.declared.choosing.Background.{Background}
use Rattle.rv_choice.specs.declared.choosing.Role.{Role}
use Rattle.rv_restrict.specs.declared.atom.Atom.{Atom}
use Rattle.rv_choice.specs.Asked.{IsIndexOf}
use Rattle.rv_choice.specs.Choice.{FirstLeast, LeastBelow, NonePlays, candidate_at, candidate_of, has_all, is_scanned, leads, plan_of, plans_of, plays}

pub either_below : {X : Type 0} (i k : ℕ) → i < k + 1 → (i < k → X) → (i ≡ k → X) → X
either_below i k l f g = elim (cases_Bool (nat_lt i k)) [
  | inl below ↦ f (ltb-true i k below)
  | inr other ↦ g (is_same i k l other)
]
  where
    is_same : (i k : ℕ) → i < k + 1 → nat_lt i k ≡ false → i ≡ k
    is_same i k l h = grind (arith, nat_tests)

pub none_below : (role : Role) (cs : List Candidate) → LeastBelow role cs 0 None
none_below role cs = record { none = λ i l. absurd (let bad : i < 0 = l in omega arith) }

-- a candidate that does not play the part changes nothing
pub least_skips : (role : Role) (cs : List Candidate) (k : ℕ) (best : Option ℕ) → LeastBelow role cs k best → plays role (candidate_at cs k) ≡ false → LeastBelow role cs (k + 1) best
least_skips role cs k None l p = record { none = λ i b. either_below i k b (λ less. l.none i less) (λ same. ap (λ (x : ℕ). plays role (candidate_at cs x)) same ∙ p) }
least_skips role cs k (Some at) l p = record {
  below = let b = l.below in omega arith;
  is = l.is;
  before = l.before;
  behind = λ i a b q. either_below i k b (λ less. l.behind i a less q) (λ same. absurd (let bad : true ≡ false = sym q ∙ ap (λ (x : ℕ). plays role (candidate_at cs x)) same ∙ p in cc));
}

-- the first that plays it
pub least_first : (role : Role) (cs : List Candidate) (k : ℕ) → NonePlays role cs k → plays role (candidate_at cs k) ≡ true → FirstLeast role cs (k + 1) k
least_first role cs k l p = record {
  below = omega arith;
  is = p;
  before = λ i b q. absurd (let bad : true ≡ false = sym q ∙ l.none i b in cc);
  behind = λ i a b q. absurd (omega arith);
}

-- one with a lesser estimate
pub least_changes : (role : Role) (cs : List Candidate) (k at : ℕ) → FirstLeast role cs k at → plays role (candidate_at cs k) ≡ true → (candidate_at cs k).estimate.value < (candidate_at cs at).estimate.value → FirstLeast role cs (k + 1) k
least_changes role cs k at l p less = record {
  below = omega arith;
  is = p;
  before = λ i b q. before i b q (cases_Bool (nat_lt i at)) (cases_Bool (nat_lt at i));
  behind = λ i a b q. absurd (omega arith);
}
  where
    is_same : (i k : ℕ) → nat_lt i k ≡ false → nat_lt k i ≡ false → i ≡ k
    is_same i k g h = grind (arith, nat_tests)

    before : (i : ℕ) → i < k → plays role (candidate_at cs i) ≡ true → ((nat_lt i at ≡ true) ⊎ (nat_lt i at ≡ false)) → ((nat_lt at i ≡ true) ⊎ (nat_lt at i ≡ false)) → (candidate_at cs k).estimate.value < (candidate_at cs i).estimate.value
    before i b q (inl h) g = let m = l.before i (ltb-true i at h) q in omega arith
    before i b q (inr h) (inl g) = let m = l.behind i (ltb-true at i g) b q in omega arith
    before i b q (inr h) (inr g) = subst (λ (x : ℕ). (candidate_at cs k).estimate.value < (candidate_at cs x).estimate.value) (sym (is_same i at h g)) less

-- one with no lesser estimate
pub least_stays : (role : Role) (cs : List Candidate) (k at : ℕ) → FirstLeast role cs k at → (candidate_at cs at).estimate.value ≤ (candidate_at cs k).estimate.value → FirstLeast role cs (k + 1) at
least_stays role cs k at l more = record {
  below = let b = l.below in omega arith;
  is = l.is;
  before = l.before;
  behind = λ i a b q. either_below i k b (λ less. l.behind i a less q) (λ same. subst (λ (x : ℕ). (candidate_at cs at).estimate.value ≤ (candidate_at cs x).estimate.value) (sym same) more);
}

-- there always is a least one, or none
pub least_there : (role : Role) (cs : List Candidate) (k : ℕ) → (best : Option ℕ) × LeastBelow role cs k best
least_there role cs zero = (None, none_below role cs)
least_there role cs (suc k) =
    let next : k + 1 ≡ suc k = omega arith in
    subst (λ (n : ℕ). (best : Option ℕ) × LeastBelow role cs n best) next (go (least_there role cs k).0 (least_there role cs k).1 (cases_Bool (plays role (candidate_at cs k))))
  where
    lesser : (at : ℕ) → FirstLeast role cs k at → plays role (candidate_at cs k) ≡ true → ((nat_lt (candidate_at cs k).estimate.value (candidate_at cs at).estimate.value ≡ true) ⊎ (nat_lt (candidate_at cs k).estimate.value (candidate_at cs at).estimate.value ≡ false)) → (best : Option ℕ) × LeastBelow role cs (k + 1) best
    lesser at l p (inl less) = (Some k, least_changes role cs k at l p (ltb-true _ _ less))
    lesser at l p (inr more) = (Some at, least_stays role cs k at l (grind (arith, nat_tests)))

    go : (best : Option ℕ) → LeastBelow role cs k best → ((plays role (candidate_at cs k) ≡ true) ⊎ (plays role (candidate_at cs k) ≡ false)) → (best : Option ℕ) × LeastBelow role cs (k + 1) best
    go best l (inr p) = (best, least_skips role cs k best l p)
    go None l (inl p) = (Some k, least_first role cs k l p)
    go (Some at) l (inl p) = lesser at l p (cases_Bool (nat_lt (candidate_at cs k).estimate.value (candidate_at cs at).estimate.value))

-- What a candidate is.
pub record IsCandidate (query : Query) (shown : Shown) (c : Candidate) : Type 0 where
  pub index_of : IsIndexOf query shown c.index c.columns
  pub its_range : c.range ≡ range_for query.only c.columns
  pub its_columns : c.sufficient ≡ has_all c.columns query.need

pub are_candidates : (query : Query) (shown : Shown) (is : List (ℕ × List ℕ)) → AllByRecursion (λ (i : ℕ × List ℕ). IsIndexOf query shown i.0 i.1) is → AllByRecursion (IsCandidate query shown) (map (candidate_of query shown) is)
are_candidates query shown [] all = tt
are_candidates query shown (i ∷ is) all = (record { index_of = all.0; its_range = refl; its_columns = refl }, are_candidates query shown is all.1)

-- columns that are needed are the index's
pub stand_all : (columns need : List ℕ) (c : ℕ) → has_all columns need ≡ true → stands_among need c ≡ true → stands_among columns c ≡ true
stand_all columns [] c all s = absurd (cc)
stand_all columns (n ∷ need) c all s = elim (cases_Bool (nat_eq n c)) [
  | inl here ↦ subst (λ (x : ℕ). stands_among columns x ≡ true) (eqb-true n c here) (first_so (stands_among columns n) (has_all columns need) all)
  | inr other ↦ stand_all columns need c (second_so (stands_among columns n) (has_all columns need) all) (behind (nat_eq n c) (stands_among need c) other s)
]
  where
    behind : (a b : Bool) → a ≡ false → (a || b) ≡ true → b ≡ true
    behind a b h i = grind arith

-- lists of numbers of which each equals
same_numbers : (xs ys : List ℕ) → pointwise nat_eq xs ys ≡ true → ys ≡ xs
same_numbers [] [] h = refl
same_numbers [] (y ∷ ys) h = absurd (cc)
same_numbers (x ∷ xs) [] h = absurd (cc)
same_numbers (x ∷ xs) (y ∷ ys) h = two x y xs ys (first_so (nat_eq x y) (pointwise nat_eq xs ys) h) (same_numbers xs ys (second_so (nat_eq x y) (pointwise nat_eq xs ys) h))
  where
    two : (x y : ℕ) (xs ys : List ℕ) → nat_eq x y ≡ true → ys ≡ xs → (y ∷ ys) ≡ (x ∷ xs)
    two x y xs ys h e = let n : x ≡ y = eqb-true x y h in ap (λ (z : ℕ). z ∷ ys) (sym n) ∙ ap (λ (zs : List ℕ). x ∷ zs) e

-- an index that leads begins with the order columns
pub leads_begins : (order columns : List ℕ) → leads order columns ≡ true → take (length order) columns ≡ order
leads_begins order columns h = same_numbers order (take (length order) columns) (second_so (not (nat_eq (length order) 0)) (starts_with nat_eq columns order) h)

-- the scans where the first index is scanned
pub plans_more : (only : List (List Atom)) (background : Background) (cs : List Candidate) (c : Candidate) → 1 ≤ length cs → c ≡ get_or cs 0 c → is_scanned background c ≡ true → plans_of only background cs ≡ plan_of only c ∷ plans_of only background (take (length cs - 1) (drop 1 cs))
plans_more only background [] c some e s = absurd (omega (arith, some))
plans_more only background (d ∷ cs) c some e s =
    let same : c ≡ d = e in
    let here : is_scanned background d ≡ true = subst (λ (x : Candidate). is_scanned background x ≡ true) same s in
    let others : take (length (d ∷ cs) - 1) (drop 1 (d ∷ cs)) ≡ cs = take_rest (d ∷ cs) 1 in
    ap (λ (b : Bool). map (plan_of only) (cond b (d ∷ filter (is_scanned background) cs) (filter (is_scanned background) cs))) here
    ∙ ap (λ (x : Candidate). plan_of only x ∷ plans_of only background cs) (sym same)
    ∙ ap (λ (xs : List Candidate). plan_of only c ∷ plans_of only background xs) (sym others)
